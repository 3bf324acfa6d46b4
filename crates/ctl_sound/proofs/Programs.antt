-- Whole programs are well typed: the setting that is found, the library's types, the main procedure.
use Rattle.std.proofs.Common.{arith, ◌≡◌, ◌≤◌, refl, sym, ap, ◌∙◌, subst, ℕ, zero, suc, Bool, true, false, List, [], ◌∷◌, ◌++◌, map, length, slice_get, Option, Some, None, Ok, inl, inr}
use Rattle.std.proofs.lemmas.List.{append-nil, append_assoc, nil_from_length, length-append}
use Rattle.ctl_tree.specs.declared.span.Span.{Span}
use Rattle.ctl_tree.specs.declared.fault.Fault.{Fault}
use Rattle.ctl_tree.specs.declared.fault.FaultCode.TheVariants as fault
use Rattle.ctl_program.specs.declared.types.AccessType.{AccessType}
use Rattle.ctl_program.specs.declared.types.Component.{Component}
use Rattle.ctl_program.specs.declared.types.Operations.{Operations}
use Rattle.ctl_program.specs.declared.types.RecordType.{RecordType}
use Rattle.ctl_program.specs.declared.types.Root.{Root}
use Rattle.ctl_program.specs.declared.types.Root.TheVariants as root
use Rattle.ctl_program.specs.declared.types.Ty.{Ty}
use Rattle.ctl_program.specs.declared.types.Ty.TheVariants as ty
use Rattle.ctl_program.specs.declared.types.Var.{Var}
use Rattle.ctl_program.specs.declared.operators.SubprogramKind.TheVariants as kind
use Rattle.ctl_program.specs.declared.program.Checked.{Checked}
use Rattle.ctl_program.specs.declared.program.Subprogram.{Subprogram}
use Rattle.ctl_program.specs.declared.statement.Master.{Master}
use Rattle.ctl_syntax.specs.declared.denoted.Definition.{Definition}
use Rattle.ctl_syntax.specs.declared.denoted.OperationName.{OperationName}
use Rattle.ctl_syntax.specs.declared.denoted.OperationName.TheVariants.{Initialize, Adjust, Finalize, Allocate, Deallocate}
use Rattle.ctl_syntax.specs.declared.denoted.Use.{Use}
use Rattle.ctl_syntax.specs.declared.item.Tree.{Tree}
use Rattle.ctl_typing.specs.declared.table.AccessEntry.{AccessEntry}
use Rattle.ctl_typing.specs.declared.table.Designated.{Designated}
use Rattle.ctl_typing.specs.declared.table.Designated.TheVariants as designated
use Rattle.ctl_typing.specs.declared.table.RecordEntry.{RecordEntry}
use Rattle.ctl_typing.specs.declared.table.RecordState.{RecordState}
use Rattle.ctl_typing.specs.Judgement.{appended}
use Rattle.ctl_typing.specs.Lookup.{component_among}
use Rattle.ctl_draft.specs.declared.draft.Around.{Around}
use Rattle.ctl_draft.specs.declared.draft.Draft.{Draft}
use Rattle.ctl_draft.specs.declared.draft.Giving.TheVariants as giving
use Rattle.ctl_draft.specs.declared.draft.Routine.{Routine}
use Rattle.ctl_declarations.specs.Declarations.{name_kept}
use Rattle.ctl_resolve.specs.Library.{operation_named}
use Rattle.ctl_draft.specs.Operations.{provides, user_operation, operation_formals}
use Rattle.ctl_declarations.specs.Types.{is_given}
use Rattle.ctl_types.specs.Elaboration as spec
use Rattle.ctl_types.specs.Elaboration.{access_types_on, access_type_to, components_on, subprograms_on, subprogram_with, library_records, library_state, library_states, library_components, record_types, record_type_of, checked_of, checked_with, access_types, or_nothing, verdict_by, Elaborates}
use Rattle.ctl_well_typed.specs.Setting.{InOut, Formal, Holding, Declared, Collection, Names, slot, Frame, Frames, Encloses, Signature, Setting, InView}
use Rattle.ctl_well_typed.specs.Types.{HasRoot, HasSubpools, of_mark_pool, underived}
use Rattle.ctl_well_typed.specs.Programs as program
use Rattle.ctl_well_typed.specs.Programs.{WellTyped, SettingFits, RecordFine, AccessFine, SubprogramFine, Overrides, Overridden, OnlyWhere, Provided, is_tagged, may_adjust, is_block_pool, formal}
use Rattle.ctl_well_typed.specs.Statements as rule
use Rattle.ctl_sound.specs.Known.{IfSome}
use Rattle.ctl_sound.specs.Law.{ProgramWellTyped}
use Rattle.ctl_sound.specs.Library.{HasLibrary, main_signature}
use Rattle.ctl_sound.proofs.Plain.{every_body}
use Rattle.ctl_sound.specs.Sound.{formal_of}
use Rattle.ctl_sound.proofs.Beginning.{beginning_sound}
use Rattle.ctl_sound.proofs.Growing.{operations_in, unfrozen, mapped_length, behind_self, behind_length, behind_read, behind_place, From, from_start, Still, Homes}
use Rattle.ctl_sound.proofs.Sites.{Site, around_site, here, IsHere, PoolKnown, NoDeeper, RecordKnown, OperationKnown, BodyFor, SubprogramKnown, no_operations, operations_at, Known, Front, InTable, Back, Agrees}
use Rattle.ctl_sound.proofs.Fronts.{one_home}
use Rattle.ctl_sound.proofs.Objects.{told_still}
use Rattle.ctl_sound.proofs.Bodies.{RightMaster, DoesRight}
use Rattle.ctl_sound.proofs.Subprograms.{one_signature}
use Rattle.ctl_sound.proofs.BodyItems.{MasteredFor, Put, put_known}
use Rattle.ctl_sound.proofs.Steps.{Leads}
use Rattle.ctl_sound.proofs.Trees.{plain_body_right}

-- What is known of each ------------------------------------------------------------------------------------

-- the second row has what each of the first gives
pub data EachGives {A B : Type 0} (f : A → Option B) : List A → List B → Type 0 where
  none_given : EachGives f [] []
  one_given : {x : A} {y : B} {xs : List A} {ys : List B} → f x ≡ Some y → EachGives f xs ys → EachGives f (x ∷ xs) (y ∷ ys)

record GivesBehind {A B : Type 0} (f : A → Option B) (before : List B) (xs : List A) (all : List B) : Type 0 where
  more : List B
  is : all ≡ before ++ more
  each : EachGives f xs more

given_length : {A B : Type 0} (f : A → Option B) (xs : List A) (ys : List B) → EachGives f xs ys → length ys ≡ length xs
given_length f _ _ none_given = refl
given_length f _ _ (one_given {xs = xs} {ys = ys} e more) = ap suc (given_length f xs ys more)

record GivenAt {A B : Type 0} (f : A → Option B) (xs : List A) (n : ℕ) (y : B) : Type 0 where
  from : A
  found : slice_get xs n ≡ Some from
  gives : f from ≡ Some y

given_at : {A B : Type 0} (f : A → Option B) (xs : List A) (ys : List B) → EachGives f xs ys → (n : ℕ) (y : B) → slice_get ys n ≡ Some y → GivenAt f xs n y
given_at f _ _ none_given n y h = absurd (cc)
given_at f _ _ (one_given {x = x} {y = z} e more) zero y h = let same : z ≡ y = cc in record { from = x; found = refl; gives = e ∙ ap (λ w. Some w) same }
given_at f _ _ (one_given {xs = xs} {ys = ys} e more) (suc n) y h = let g = given_at f xs ys more n y h in record { from = g.from; found = g.found; gives = g.gives }

record GivingAt {A B : Type 0} (f : A → Option B) (ys : List B) (n : ℕ) (x : A) : Type 0 where
  given : B
  gives : f x ≡ Some given
  found : slice_get ys n ≡ Some given

giving_at : {A B : Type 0} (f : A → Option B) (xs : List A) (ys : List B) → EachGives f xs ys → (n : ℕ) (x : A) → slice_get xs n ≡ Some x → GivingAt f ys n x
giving_at f _ _ none_given n x h = absurd (cc)
giving_at f _ _ (one_given {x = z} {y = y} e more) zero x h = let same : z ≡ x = cc in record { given = y; gives = ap f (sym same) ∙ e; found = refl }
giving_at f _ _ (one_given {xs = xs} {ys = ys} e more) (suc n) x h = let g = giving_at f xs ys more n x h in record { given = g.given; gives = g.gives; found = g.found }

-- one more of those that are given
given_further : {A B : Type 0} (f : A → Option B) (before : List B) (x : A) (xs : List A) (all : List B) (y : B) → f x ≡ Some y → GivesBehind f (before ++ y ∷ []) xs all → GivesBehind f before (x ∷ xs) all
given_further f before x xs all y e g = record { more = y ∷ g.more; is = g.is ∙ append_assoc before (y ∷ []) g.more; each = one_given e g.each }

no_components : (css : List (Option (List Component))) → components_on None css ≡ None
no_components [] = refl
no_components (cs ∷ css) = no_components css

components_given : (css : List (Option (List Component))) (before all : List (List Component)) → components_on (Some before) css ≡ Some all → GivesBehind (λ cs. cs) before css all
components_given [] before all h = let same : before ≡ all = cc in record { more = []; is = sym same ∙ sym (append-nil before); each = none_given }
components_given (None ∷ css) before all h = absurd (let no = no_components css in cc)
components_given (Some cs ∷ css) before all h = given_further (λ cs. cs) before (Some cs) css all cs refl (components_given css (before ++ cs ∷ []) all h)

no_subprograms : (rs : List Routine) → subprograms_on None rs ≡ None
no_subprograms [] = refl
no_subprograms (r ∷ rs) = no_subprograms rs

abbrev with_its_body : Routine → Option Subprogram
with_its_body r = subprogram_with r r.body

subprograms_given : (rs : List Routine) (before all : List Subprogram) → subprograms_on (Some before) rs ≡ Some all → GivesBehind with_its_body before rs all
subprograms_given [] before all h = let same : before ≡ all = cc in record { more = []; is = sym same ∙ sym (append-nil before); each = none_given }
subprograms_given (r ∷ rs) before all h = by_body (with_its_body r) refl h (λ p. subprograms_given rs (before ++ p ∷ []) all)
  where
    by_body : (o : Option Subprogram) → with_its_body r ≡ o → subprograms_on (appended (Some before) o) rs ≡ Some all → ((p : Subprogram) → subprograms_on (Some (before ++ p ∷ [])) rs ≡ Some all → GivesBehind with_its_body (before ++ p ∷ []) rs all) → GivesBehind with_its_body before (r ∷ rs) all
    by_body None e h again = absurd (let no = no_subprograms rs in cc)
    by_body (Some p) e h again = given_further with_its_body before r rs all p e (again p h)

abbrev with_its_type : AccessEntry → Option AccessType
with_its_type x = access_type_to x x.designated

no_accesses : (as' : List AccessEntry) → access_types_on None as' ≡ None
no_accesses [] = refl
no_accesses (a ∷ as') = no_accesses as'

accesses_given : (as' : List AccessEntry) (before all : List AccessType) → access_types_on (Some before) as' ≡ Some all → GivesBehind with_its_type before as' all
accesses_given [] before all h = let same : before ≡ all = cc in record { more = []; is = sym same ∙ sym (append-nil before); each = none_given }
accesses_given (a ∷ as') before all h = by_type (with_its_type a) refl h (λ p. accesses_given as' (before ++ p ∷ []) all)
  where
    by_type : (o : Option AccessType) → with_its_type a ≡ o → access_types_on (appended (Some before) o) as' ≡ Some all → ((p : AccessType) → access_types_on (Some (before ++ p ∷ [])) as' ≡ Some all → GivesBehind with_its_type (before ++ p ∷ []) as' all) → GivesBehind with_its_type before (a ∷ as') all
    by_type None e h again = absurd (let no = no_accesses as' in cc)
    by_type (Some p) e h again = given_further with_its_type before a as' all p e (again p h)

-- an access type of the program is what its entry says
record TypeIs (x : AccessEntry) (y : AccessType) : Type 0 where
  collection : y.collection ≡ x.collection
  designated : x.designated ≡ designated.Known y.designated
  pool : y.pool ≡ spec.pool_var x.pool

type_is : (x : AccessEntry) (y : AccessType) → with_its_type x ≡ Some y → TypeIs x y
type_is x y h = by_designated x.designated refl h
  where
    by_designated : (w : Designated) → x.designated ≡ w → access_type_to x w ≡ Some y → TypeIs x y
    by_designated (designated.Known t) e h =
        let same : record { collection = x.collection; designated = t; pool = spec.pool_var x.pool } ≡ y = cc in
        record { collection = sym (ap (λ z. z.collection) same); designated = e ∙ ap (λ z. designated.Known z.designated) same; pool = sym (ap (λ z. z.pool) same) }
    by_designated designated.Unclear e h = absurd (cc)
    by_designated (designated.Awaited n place) e h = absurd (cc)

-- The table of record types -----------------------------------------------------------------------------

abbrev first_state : List RecordState → RecordState
first_state [] = library_state
first_state (s ∷ ss) = s

abbrev first_components : List (Option (List Component)) → List Component
first_components [] = []
first_components (None ∷ css) = []
first_components (Some cs ∷ css) = cs

abbrev rest : {A : Type 0} → List A → List A
rest [] = []
rest (x ∷ xs) = xs

-- one for each entry, whether there is a state of it or not
abbrev table_of : List RecordEntry → List RecordState → List (Option (List Component)) → List RecordType
table_of [] ss css = []
table_of (r ∷ rs) ss css = record_type_of r (first_state ss) (first_components css) ∷ table_of rs (rest ss) (rest css)

table_length : (rs : List RecordEntry) (ss : List RecordState) (css : List (Option (List Component))) → length (table_of rs ss css) ≡ length rs
table_length [] ss css = refl
table_length (r ∷ rs) ss css = ap suc (table_length rs (rest ss) (rest css))

read_components : (css : List (Option (List Component))) (t : ℕ) (cs : Option (List Component)) → slice_get css (suc t) ≡ Some cs → slice_get (rest css) t ≡ Some cs
read_components [] t cs e = absurd (cc)
read_components (x ∷ css) t cs e = e

first_read : (css : List (Option (List Component))) (cs : List Component) → slice_get css 0 ≡ Some (Some cs) → first_components css ≡ cs
first_read [] cs e = absurd (cc)
first_read (None ∷ css) cs e = absurd (let no : None ≡ Some cs = cc in cc)
first_read (Some x ∷ css) cs e = let same : Some x ≡ Some cs = cc in cc

table_is : (rs : List RecordEntry) (ss : List RecordState) (os : List (Option (List Component))) (css : List (List Component)) → EachGives (λ cs. cs) os css → length ss ≡ length rs → length os ≡ length rs → table_of rs ss os ≡ record_types rs ss css
table_is [] ss os css g h i = refl
table_is (r ∷ rs) [] os css g h i = absurd (cc)
table_is (r ∷ rs) (s ∷ ss) _ _ none_given h i = absurd (cc)
table_is (r ∷ rs) (s ∷ ss) _ _ (one_given {x = o} {y = cs} {xs = os} {ys = css} e more) h i =
    let fewer : length ss ≡ length rs = omega (arith, h) in
    let less : length os ≡ length rs = omega (arith, i) in
    ap (λ own. record_type_of r s own ∷ table_of rs ss os) (first_read (o ∷ os) cs (ap (λ x. Some x) e)) ∙ ap (λ xs. record_type_of r s cs ∷ xs) (table_is rs ss os css more fewer less)

record InRows (xs : List RecordType) (t : ℕ) (r : RecordEntry) (cs : List Component) : Type 0 where
  operations : Operations
  found : slice_get xs t ≡ Some (record { level = r.level; root = r.root; parent = r.parent; own = cs; operations = operations })

in_rows : (rs : List RecordEntry) (ss : List RecordState) (css : List (Option (List Component))) (t : ℕ) (r : RecordEntry) (cs : List Component) → slice_get rs t ≡ Some r → slice_get css t ≡ Some (Some cs) → InRows (table_of rs ss css) t r cs
in_rows [] ss css t r cs e f = absurd (cc)
in_rows (x ∷ rs) ss css zero r cs e f =
    let same : x ≡ r = cc in
    record {
      operations = (first_state ss).operations;
      found = ap (λ y. Some (record_type_of y (first_state ss) (first_components css))) same ∙ ap (λ y. Some (record_type_of r (first_state ss) y)) (first_read css cs f);
    }
in_rows (x ∷ rs) ss css (suc t) r cs e f = let g = in_rows rs (rest ss) (rest css) t r cs e (read_components css t (Some cs) f) in record { operations = g.operations; found = g.found }

-- the entry that a row is made of
record RowOf (rs : List RecordEntry) (ss : List RecordState) (t : ℕ) (x : RecordType) : Type 0 where
  entry : RecordEntry
  found : slice_get rs t ≡ Some entry
  operations : x.operations ≡ operations_at (map operations_in ss) t

rest_operations : (ss : List RecordState) (t : ℕ) → operations_at (map operations_in (rest ss)) t ≡ operations_at (map operations_in ss) (suc t)
rest_operations [] t = refl
rest_operations (s ∷ ss) t = refl

first_operations : (ss : List RecordState) → (first_state ss).operations ≡ operations_at (map operations_in ss) 0
first_operations [] = refl
first_operations (s ∷ ss) = refl

row_of : (rs : List RecordEntry) (ss : List RecordState) (css : List (Option (List Component))) (t : ℕ) (x : RecordType) → slice_get (table_of rs ss css) t ≡ Some x → RowOf rs ss t x
row_of [] ss css t x e = absurd (cc)
row_of (r ∷ rs) ss css zero x e =
    let same : record_type_of r (first_state ss) (first_components css) ≡ x = cc in
    record { entry = r; found = refl; operations = sym (ap (λ y. y.operations) same) ∙ first_operations ss }
row_of (r ∷ rs) ss css (suc t) x e = let g = row_of rs (rest ss) (rest css) t x e in record { entry = g.entry; found = g.found; operations = g.operations ∙ rest_operations ss t }

-- The library (7.6, 13.11) -----------------------------------------------------------------------------------

abbrev library_homes : List Frames
library_homes = [] ∷ [] ∷ [] ∷ [] ∷ []

-- what all its types have
record OfLibrary (t : ℕ) (r : RecordEntry) : Type 0 where
  components : slice_get library_components t ≡ Some (Some [])
  home : (more : List Frames) → slice_get (library_homes ++ more) t ≡ Some []
  level : r.level ≡ 0
  parent : r.parent ≡ None
  own : r.own ≡ []
  count : r.count ≡ 0

one_of : (t : ℕ) (q r : RecordEntry) → Some q ≡ Some r → OfLibrary t q → OfLibrary t r
one_of t q r e h = let same : q ≡ r = cc in subst (OfLibrary t) same h

of_library : (t : ℕ) (r : RecordEntry) → slice_get library_records t ≡ Some r → OfLibrary t r
of_library zero r e = one_of 0 _ r e (record { components = refl; home = λ more. refl; level = refl; parent = refl; own = refl; count = refl })
of_library (suc zero) r e = one_of 1 _ r e (record { components = refl; home = λ more. refl; level = refl; parent = refl; own = refl; count = refl })
of_library (suc (suc zero)) r e = one_of 2 _ r e (record { components = refl; home = λ more. refl; level = refl; parent = refl; own = refl; count = refl })
of_library (suc (suc (suc zero))) r e = one_of 3 _ r e (record { components = refl; home = λ more. refl; level = refl; parent = refl; own = refl; count = refl })
of_library (suc (suc (suc (suc t)))) r e = absurd (cc)

library_has_none : (t : ℕ) → operations_at (map operations_in library_states) t ≡ no_operations
library_has_none zero = refl
library_has_none (suc zero) = refl
library_has_none (suc (suc zero)) = refl
library_has_none (suc (suc (suc zero))) = refl
library_has_none (suc (suc (suc (suc t)))) = refl

none_of : (o : OperationName) → user_operation o no_operations ≡ None
none_of Initialize = refl
none_of Adjust = refl
none_of Finalize = refl
none_of Allocate = refl
none_of Deallocate = refl

one_row : {A : Type 0} (xs ys : List A) → Some xs ≡ Some ys → xs ≡ ys
one_row xs ys h = cc

no_component : (own : List _) (name : List ℕ) (i : ℕ) (t : _) → own ≡ [] → component_among name own ≡ Some (i, t) → ⊥
no_component [] name i t e h = absurd (cc)
no_component (c ∷ cs) name i t e h = absurd (cc)

library_known : (k : Setting) (t : ℕ) (r : RecordEntry) → OfLibrary t r → InTable k t r (Some []) → slice_get k.record_homes t ≡ Some [] → RecordKnown k t r
library_known k t r h x home = record {
  is = record { level = r.level; root = r.root; parent = r.parent; own = x.own; operations = x.operations };
  home = [];
  found = x.found;
  at_home = home;
  rooted = refl;
  same_parent = refl;
  same_level = refl;
  level = h.level;
  parent = subst (λ o. program.Parent k [] t r.root o) (sym h.parent) program.none;
  added = subst (λ cs. program.Added k [] t cs) (one_row [] x.own x.known) program.no_more_components;
  all = x.own;
  components = underived x.found h.parent;
  count = ap length (sym (one_row [] x.own x.known)) ∙ sym h.count;
  own = λ name i c e. absurd (no_component r.own name i c h.own e);
}

-- Overridden operations (7.6, 13.11) -----------------------------------------------------------------------------

module _ (k : Setting) (home : Frames) (n : ℕ) (at : slice_get k.record_homes n ≡ Some home) where
  overrides : (o : OperationName) (rest : List Formal) → ((root : ℕ) → map formal_of (operation_formals o (ty.Record root)) ≡ record { passing = InOut; ty = ty.Record root } ∷ rest) → (x : Option ℕ) → ((s : ℕ) → x ≡ Some s → OperationKnown k o n s) → Overrides k home n rest x
  overrides o rest shape None h = program.no_operation
  overrides o rest shape (Some s) h =
      let q = h s refl in
      let same = one_home q.home home (slice_get k.record_homes n) q.at_home at in
      program.operation (record { found = q.found; encloses = subst (λ f. Encloses q.is.home f) same q.encloses }) q.result (q.formals ∙ shape q.root) q.descends

  overridden : (os : Operations) → ((o : OperationName) (s : ℕ) → user_operation o os ≡ Some s → OperationKnown k o n s) → Overridden k home n os
  overridden os h = record {
    initialize = overrides Initialize [] (λ root. refl) os.initialize (h Initialize);
    adjust = overrides Adjust [] (λ root. refl) os.adjust (h Adjust);
    finalize = overrides Finalize [] (λ root. refl) os.finalize (h Finalize);
    allocate = overrides Allocate _ (λ root. refl) os.allocate (h Allocate);
    deallocate = overrides Deallocate _ (λ root. refl) os.deallocate (h Deallocate);
  }

  -- none but those that types of its root have
  only : (r : Root) → HasRoot k n r → (o : OperationName) → (b : Bool) → provides r false o ≡ b → (x : Option ℕ) → ((s : ℕ) → x ≡ Some s → OperationKnown k o n s) → OnlyWhere b x
  only r rooted o true e x h = tt
  only r rooted o false e None h = refl
  only r rooted o false e (Some s) h = absurd (let q = (h s refl).provided r rooted in cc)

  provided : (r : Root) → HasRoot k n r → (os : Operations) → ((o : OperationName) (s : ℕ) → user_operation o os ≡ Some s → OperationKnown k o n s) → Provided r os
  provided r rooted os h = record {
    initialize = only r rooted Initialize (is_tagged r) (finalized r).0 os.initialize (h Initialize);
    adjust = only r rooted Adjust (may_adjust r) (adjusted r) os.adjust (h Adjust);
    finalize = only r rooted Finalize (is_tagged r) (finalized r).1 os.finalize (h Finalize);
    allocate = only r rooted Allocate (is_block_pool r) (stored r).0 os.allocate (h Allocate);
    deallocate = only r rooted Deallocate (is_block_pool r) (stored r).1 os.deallocate (h Deallocate);
  }
    where
      finalized : (r : Root) → (provides r false Initialize ≡ is_tagged r) × (provides r false Finalize ≡ is_tagged r)
      finalized root.Untagged = (refl, refl)
      finalized root.Controlled = (refl, refl)
      finalized root.BlockPool = (refl, refl)
      finalized root.MarkPool = (refl, refl)

      adjusted : (r : Root) → provides r false Adjust ≡ may_adjust r
      adjusted root.Untagged = refl
      adjusted root.Controlled = refl
      adjusted root.BlockPool = refl
      adjusted root.MarkPool = refl

      stored : (r : Root) → (provides r false Allocate ≡ is_block_pool r) × (provides r false Deallocate ≡ is_block_pool r)
      stored root.Untagged = (refl, refl)
      stored root.Controlled = (refl, refl)
      stored root.BlockPool = (refl, refl)
      stored root.MarkPool = (refl, refl)

-- The verdict (10.1.1) -----------------------------------------------------------------------------------------------

verdict_known : (place : Span) (f g : Option Fault) (d : Draft) (p : Checked) → Ok p ≡ verdict_by place f g d → checked_of d ≡ Some p
verdict_known place (Some f) g d p h = absurd (cc)
verdict_known place None (Some g) d p h = absurd (cc)
verdict_known place None None d p h = by_checked (checked_of d) h
  where
    by_checked : (o : Option Checked) → Ok p ≡ or_nothing place o → o ≡ Some p
    by_checked None h = absurd (cc)
    by_checked (Some q) h = cc

-- a program that is given has all its parts
record Parts (d : Draft) (p : Checked) : Type 0 where
  accesses : List AccessType
  subprograms : List Subprogram
  components : List (List Component)
  types : EachGives with_its_type d.tables.states.accesses accesses
  bodies : EachGives with_its_body d.subprograms subprograms
  own : EachGives (λ cs. cs) d.components components
  is : record { exceptions = d.exceptions; records = record_types d.tables.records d.tables.states.records components; accesses = accesses; subprograms = subprograms; main = 0 } ≡ p

parts_of : (d : Draft) (p : Checked) → checked_of d ≡ Some p → Parts d p
parts_of d p h = by_accesses (access_types d.tables.states.accesses) refl (spec.subprograms d.subprograms) refl (spec.components_known d.components) refl h
  where
    from_nothing : {A B : Type 0} (f : A → Option B) (xs : List A) (ys : List B) → GivesBehind f [] xs ys → EachGives f xs ys
    from_nothing f xs ys g = subst (λ zs. EachGives f xs zs) (sym g.is) g.each

    by_accesses : (x : Option (List AccessType)) → access_types d.tables.states.accesses ≡ x → (y : Option (List Subprogram)) → spec.subprograms d.subprograms ≡ y → (z : Option (List (List Component))) → spec.components_known d.components ≡ z → checked_with d x y z ≡ Some p → Parts d p
    by_accesses None e y f z g h = absurd (cc)
    by_accesses (Some x) e None f z g h = absurd (cc)
    by_accesses (Some x) e (Some y) f None g h = absurd (cc)
    by_accesses (Some x) e (Some y) f (Some z) g h = record {
      accesses = x;
      subprograms = y;
      components = z;
      types = from_nothing with_its_type d.tables.states.accesses x (accesses_given d.tables.states.accesses [] x e);
      bodies = from_nothing with_its_body d.subprograms y (subprograms_given d.subprograms [] y f);
      own = from_nothing (λ cs. cs) d.components z (components_given d.components [] z g);
      is = cc;
    }

-- Whole programs -----------------------------------------------------------------------------------------------------

-- a slot is for one thing
one_slot : (env : Frames) (v : Var) (g h : Holding) → Names env v g → Names env v h → g ≡ h
one_slot env _ g h (slot {level = l} {number = n} {f = f} a b) (slot {f = e} c d) = one_frame f e a b c d
  where
    one_frame : (f e : Frame) → slice_get env l ≡ Some f → slice_get f n ≡ Some g → slice_get env l ≡ Some e → slice_get e n ≡ Some h → g ≡ h
    one_frame f e a b c d = let same : f ≡ e = cc in let there = subst (λ x. slice_get x n ≡ Some g) same b in cc

known_same_type : (t u : Ty) → designated.Known t ≡ designated.Known u → t ≡ u
known_same_type t u h = cc

abbrev begin : Tree Definition Use → Option Fault → Option Fault → Draft
begin t names uses = spec.main_declared t.name (spec.begun names uses)

abbrev main_around : Tree Definition Use → Option Fault → Option Fault → Around
main_around t names uses = spec.inside spec.outside giving.Nothing (begin t names uses)

-- the main procedure's body, and the draft behind it
abbrev main_judged : Tree Definition Use → Option Fault → Option Fault → Option Master × Draft
main_judged t names uses = spec.body t.body t.span (main_around t names uses) (spec.without_slots (begin t names uses))

abbrev main_left : Tree Definition Use → Option Fault → Option Fault → Draft
main_left t names uses = (spec.left (begin t names uses) (main_judged t names uses)).1

pub main_put : (t : Tree Definition Use) (names uses : Option Fault) → Put (Some 0) (main_judged t names uses).0 (main_left t names uses) (spec.whole names uses t)
main_put t names uses = put_known (Some 0) (main_judged t names uses).0 (main_left t names uses)

module _ (t : Tree Definition Use) (names uses : Option Fault) (right : DoesRight (spec.body t.body)) (css : List (List Component)) (own : EachGives (λ cs. cs) (main_judged t names uses).1.components css)
    (accs : List AccessType) (given_types : EachGives with_its_type (main_judged t names uses).1.tables.states.accesses accs)
    (ss : List Subprogram) (bodies : EachGives with_its_body (main_put t names uses).subprograms ss) where
  abbrev before : Draft
  before = begin t names uses

  abbrev start : Draft
  start = spec.without_slots before

  abbrev around : Around
  around = main_around t names uses

  abbrev judged : Option Master × Draft
  judged = main_judged t names uses

  named : Still (spec.begun names uses) (name_kept t.name (spec.begun names uses))
  named = told_still (is_given (operation_named t.name.identifier.text)) fault.Override t.name.identifier.span (spec.begun names uses)

  lead : Leads (here around) (RightMaster around (length judged.1.slots)) start judged
  lead = right t.span around start

  abbrev end : Draft
  end = judged.1

  abbrev frame : Frame
  frame = lead.made.holdings

  abbrev homes : Homes
  homes = lead.made.homes (frame ∷ [])

  abbrev k : Setting
  k = record {
    records = table_of end.tables.records end.tables.states.records end.components;
    accesses = accs;
    exceptions = length end.exceptions;
    record_homes = library_homes ++ homes.records;
    access_homes = homes.accesses;
    subprograms = main_signature ∷ homes.subprograms;
  }

  back : Back k end
  back = record {
    exceptions = omega arith;
    records = λ n r o e f.
        let c = giving_at (λ cs. cs) end.components css own n o f in
        let g = in_rows end.tables.records end.tables.states.records end.components n r c.given e (f ∙ ap (λ x. Some x) c.gives) in
        record { own = c.given; known = c.gives; operations = g.operations; found = g.found };
    accesses = λ a x e.
        let c = giving_at with_its_type end.tables.states.accesses accs given_types a x e in
        let q = type_is x c.given c.gives in
        record { is = c.given; found = c.found; collection = q.collection; designated = λ u h. known_same_type c.given.designated u (sym q.designated ∙ h); pool = λ p h. q.pool ∙ ap spec.pool_var h };
  }

  library_table : (n : ℕ) (r : RecordEntry) → slice_get library_records n ≡ Some r → InTable k n r (Some [])
  library_table n r e =
      let h = of_library n r e in
      let g = lead.grows in
      back.records n r (Some []) (behind_read start.tables.records end.tables.records n r g.records (subst (λ xs. slice_get xs n ≡ Some r) (sym named.records) e)) (behind_read start.components end.components n (Some []) g.components (subst (λ xs. slice_get xs n ≡ Some (Some [])) (sym named.components) h.components))

  three : 3 ≤ length end.exceptions
  three = let more = behind_length start.exceptions end.exceptions lead.grows.exceptions in let same = ap length named.exceptions in omega (arith, more, same)

  has : HasLibrary k
  has = record {
    records = λ n r e. let x = library_table n r e in let h = of_library n r e in record { is = record { level = r.level; root = r.root; parent = r.parent; own = x.own; operations = x.operations }; found = x.found; rooted = refl; home = h.home homes.records };
    main = refl;
    exceptions = three;
  }

  abbrev site : Site
  site = record { k = k; has = has; outer = []; frame = frame; base = before.tables.entries; first = length before.tables.states.accesses }

  main_body : (f : Frame) (m : Master) → rule.Mastered k [] f (record { in_loop = false; in_handler = false; gives = None }) m → MasteredFor k 0 m
  main_body f m h = record { is = main_signature; found = refl; body = (f, h) }

  main_known : SubprogramKnown k 0 (record { level = 0; kind = kind.Procedure; body = None })
  main_known = record { is = main_signature; found = refl; level = refl; result = program.procedure; formals = program.no_more_formals; body = tt }

  no_types : length start.tables.states.accesses ≡ 0
  no_types = mapped_length unfrozen (spec.begun names uses).tables.states.accesses start.tables.states.accesses named.accesses

  known : Known k start
  known = record {
    records = λ n r e. let f = subst (λ xs. slice_get xs n ≡ Some r) named.records e in let h = of_library n r f in library_known k n r h (library_table n r f) (h.home homes.records);
    operations = λ o n m e. absurd (let none = ap (λ os. user_operation o (operations_at os n)) named.operations ∙ ap (user_operation o) (library_has_none n) ∙ none_of o in cc);
    subprograms = subprograms;
    accesses = λ n x e. absurd (let none = ap (λ as'. slice_get as' n) (nil_from_length start.tables.states.accesses no_types) in cc);
    states = states_counted;
    components = ap length named.components ∙ ap length (sym named.records);
  }
    where
      subprograms : (n : ℕ) (p : Routine) → slice_get start.subprograms n ≡ Some p → SubprogramKnown k n p
      subprograms n p e = by_number n (subst (λ xs. slice_get (xs ++ record { level = 0; kind = kind.Procedure; body = None } ∷ []) n ≡ Some p) named.subprograms e)
        where
          by_number : (n : ℕ) → slice_get (record { level = 0; kind = kind.Procedure; body = None } ∷ []) n ≡ Some p → SubprogramKnown k n p
          by_number zero e = let same : record { level = 0; kind = kind.Procedure; body = None } ≡ p = cc in subst (SubprogramKnown k 0) same main_known
          by_number (suc n) e = absurd (cc)

      mapped : (ss : List RecordState) → length (map operations_in ss) ≡ length ss
      mapped [] = refl
      mapped (x ∷ xs) = ap suc (mapped xs)

      states_counted : length start.tables.states.records ≡ length start.tables.records
      states_counted = sym (mapped start.tables.states.records) ∙ ap length named.operations ∙ ap length (sym named.records)

  front : Front site start
  front = record { entries = (beginning_sound.sound k (around_site site) has t.name names uses).entries; base = behind_self before.tables.entries; known = known; own = named.own; inner = λ n home first less at. absurd (omega (arith, first, less)) }

  begins : IsHere site (here around)
  begins = record { level = refl; start = refl; first = refl; giving = tt }

  agrees : Agrees site start lead.made
  agrees = record {
    holdings = from_start frame;
    records = subst (λ n. From n homes.records (library_homes ++ homes.records)) (sym (ap length named.records)) (λ i x e. behind_place library_homes homes.records i ∙ e);
    accesses = subst (λ n. From n homes.accesses homes.accesses) (sym no_types) (from_start homes.accesses);
    subprograms = subst (λ n. From n homes.subprograms (main_signature ∷ homes.subprograms)) (sym counted) (λ i x e. behind_place (main_signature ∷ []) homes.subprograms i ∙ e);
  }
    where
      counted : length start.subprograms ≡ 1
      counted = ap (λ xs. length (xs ++ record { level = 0; kind = kind.Procedure; body = None } ∷ [])) named.subprograms

  whole_right : Front site end × IfSome (RightMaster around (length end.slots) site) judged.0
  whole_right = lead.right site begins front back agrees

  abbrev at_end : Known k end
  at_end = whole_right.0.known

  frame_counts : length frame ≡ length end.slots
  frame_counts = let more = lead.grows.slots in omega (arith, more)

  put_right : (n : ℕ) (p : Routine) → slice_get (main_put t names uses).subprograms n ≡ Some p → SubprogramKnown k n p
  put_right = (main_put t names uses).known k at_end.subprograms main_mastered
    where
      by_body : (o : Option Master) → IfSome (RightMaster around (length end.slots) site) o → (m : Master) → o ≡ Some m → MasteredFor k 0 m
      by_body None h m e = absurd (cc)
      by_body (Some x) h m e = let same : x ≡ m = cc in subst (MasteredFor k 0) same (main_body frame x (h frame_counts))

      main_mastered : (n : ℕ) (m : Master) → Some 0 ≡ Some n → judged.0 ≡ Some m → MasteredFor k n m
      main_mastered n m e f = let same : 0 ≡ n = cc in subst (λ j. MasteredFor k j m) same (by_body judged.0 whole_right.1 m f)

  abbrev checked : Checked
  checked = record { exceptions = end.exceptions; records = record_types end.tables.records end.tables.states.records css; accesses = accs; subprograms = ss; main = 0 }

  table_same : k.records ≡ checked.records
  table_same = table_is end.tables.records end.tables.states.records end.components css own at_end.states at_end.components

  each_record : (n : ℕ) (r : RecordType) (home : Frames) → slice_get checked.records n ≡ Some r → slice_get k.record_homes n ≡ Some home → RecordFine k n r home
  each_record n r home e f =
      let g = subst (λ xs. slice_get xs n ≡ Some r) (sym table_same) e in
      let row = row_of end.tables.records end.tables.states.records end.components n r g in
      let q = at_end.records n row.entry row.found in
      let here' = one_home q.home home (slice_get k.record_homes n) q.at_home f in
      let own = one_record q.is r (slice_get k.records n) q.found g in
      record {
        level = subst (λ x. x.level ≡ length home) own (subst (λ h. q.is.level ≡ length h) here' q.level);
        parent = subst (λ x. program.Parent k home n x.root x.parent) own (subst (λ h. program.Parent k h n q.is.root q.is.parent) here' q.parent);
        own = subst (λ x. program.Added k home n x.own) own (subst (λ h. program.Added k h n q.is.own) here' q.added);
        operations = overridden k home n f r.operations (λ o s x. at_end.operations o n s (ap (user_operation o) (sym row.operations) ∙ x));
        provided = provided k home n f r.root (record { is = r; found = g; rooted = refl }) r.operations (λ o s x. at_end.operations o n s (ap (user_operation o) (sym row.operations) ∙ x));
      }
    where
      one_record : (x y : RecordType) (o : Option RecordType) → o ≡ Some x → o ≡ Some y → x ≡ y
      one_record x y o h i = cc

  bodied_fine : (n : ℕ) (r : Routine) (p : Subprogram) (is' : Signature) → SubprogramKnown k n r → slice_get k.subprograms n ≡ Some is' → with_its_body r ≡ Some p → SubprogramFine k p is'
  bodied_fine n r p is' q f e = by_body r.body q.body e
    where
      same : q.is ≡ is'
      same = one_signature q.is is' (slice_get k.subprograms n) q.found f

      by_body : (o : Option Master) → IfSome (BodyFor k q.is) o → subprogram_with r o ≡ Some p → SubprogramFine k p is'
      by_body None h e = absurd (cc)
      by_body (Some m) h e =
          let made : record { level = r.level; kind = r.kind; body = m } ≡ p = cc in
          subst (λ y. SubprogramFine k y is') made (subst (λ x. SubprogramFine k (record { level = r.level; kind = r.kind; body = m }) x) same
          (record { level = q.level; result = q.result; formals = q.formals; others = h.0; body = h.1 }))

  each_subprogram : (n : ℕ) (p : Subprogram) (is' : Signature) → slice_get checked.subprograms n ≡ Some p → slice_get k.subprograms n ≡ Some is' → SubprogramFine k p is'
  each_subprogram n p is' e f = let g = given_at with_its_body (main_put t names uses).subprograms ss bodies n p e in bodied_fine n g.from p is' (put_right n g.from g.found) f g.gives

  fits : SettingFits checked k
  fits = record {
    records = table_same;
    accesses = refl;
    exceptions = refl;
    record_homes = let more = lead.grows.record_homes (frame ∷ []) in let first = ap length named.records in let counted = table_length end.tables.records end.tables.states.records end.components in let same = ap length table_same in let sum = length-append library_homes homes.records in omega (arith, more, first, counted, same, sum);
    access_homes = let more = lead.grows.access_homes (frame ∷ []) in let first = no_types in let given = given_length with_its_type end.tables.states.accesses accs given_types in omega (arith, more, first, given);
    subprograms = let more = lead.grows.signatures (frame ∷ []) in let counted = (main_put t names uses).count in let given = given_length with_its_body (main_put t names uses).subprograms ss bodies in let first = ap (λ xs. length (xs ++ record { level = 0; kind = kind.Procedure; body = None } ∷ [])) named.subprograms in omega (arith, more, counted, given, first);
  }

  pooled : (home : Frames) (o : Option (Var × ℕ)) → ((p : Var × ℕ) → o ≡ Some p → PoolKnown k home p) → program.Pooled k home (spec.pool_var o)
  pooled home None h = program.standard
  pooled home (Some p) h = let q = h p refl in program.from_pool q.names q.rooted q.pool

  no_deeper : (home : Frames) (level : ℕ) (o : Option (Var × ℕ)) (v : Var) → spec.pool_var o ≡ Some v → HasSubpools k home (Some v) → ((p : Var × ℕ) → o ≡ Some p → PoolKnown k home p) → ((p : Var × ℕ) → o ≡ Some p → NoDeeper k level p) → level ≤ v.level
  no_deeper home level None v e h known deep = absurd (cc)
  no_deeper home level (Some p) v e h known deep =
      let same : p.0 ≡ v = cc in
      subst (λ w. level ≤ w.level) same (deep p refl (marked home p (subst (λ w. HasSubpools k home (Some w)) (sym same) h) (known p refl)))
    where
      one_holding : (t u : ℕ) → Declared (ty.Record t) ≡ Declared (ty.Record u) → t ≡ u
      one_holding t u e = cc

      marked : (home : Frames) (p : Var × ℕ) → HasSubpools k home (Some p.0) → PoolKnown k home p → HasRoot k p.1 root.MarkPool
      marked home p (of_mark_pool {t = t} names rooted) q = subst (λ u. HasRoot k u root.MarkPool) (one_holding t p.1 (one_slot home p.0 (Declared (ty.Record t)) (Declared (ty.Record p.1)) names q.names)) rooted

  each_access : (n : ℕ) (x : AccessType) (home : Frames) → slice_get checked.accesses n ≡ Some x → slice_get k.access_homes n ≡ Some home → AccessFine k n x home
  each_access n x home e f =
      let g = given_at with_its_type end.tables.states.accesses accs given_types n x e in
      let q = at_end.accesses n g.from g.found in
      let says = type_is g.from x g.gives in
      let here' = one_home q.home home (slice_get k.access_homes n) q.at_home f in
      record {
        level = subst (λ h. x.collection.level ≡ length h) here' (ap (λ v. v.level) says.collection ∙ q.level);
        collection = subst (λ h. Names h x.collection (Collection n)) here' (subst (λ v. Names q.home v (Collection n)) (sym says.collection) q.names);
        designated = subst (λ h. InView k h x.designated) here' (q.designated x.designated says.designated).1;
        pool = subst (λ o. program.Pooled k home o) (sym says.pool) (pooled home g.from.pool (λ p e. subst (λ h. PoolKnown k h p) here' (q.pool p e)));
        subpools = λ v e h. subst (λ l. l ≤ v.level) (q.own_level ∙ ap length here') (no_deeper home g.from.level g.from.pool v (sym says.pool ∙ e) h (λ p i. subst (λ z. PoolKnown k z p) here' (q.pool p i)) q.subpools);
      }

  pub checked_well_typed : WellTyped checked
  checked_well_typed = record {
    k = k;
    fits = fits;
    exceptions = three;
    each_record = each_record;
    each_access = each_access;
    each_subprogram = each_subprogram;
    main = record { found = refl; encloses = refl };
  }

module _ (t : Tree Definition Use) (names uses : Option Fault) (right : DoesRight (spec.body t.body)) where
  pub whole_well_typed : (p : Checked) → Elaborates names uses t (Ok p) → WellTyped p
  whole_well_typed p h = elim h [ inl e ↦ from_verdict e | inr e ↦ absurd (cc) ]
    where
      put : Put (Some 0) (main_judged t names uses).0 (main_left t names uses) (spec.whole names uses t)
      put = main_put t names uses

      from_verdict : Ok p ≡ spec.elaborate names uses t → WellTyped p
      from_verdict e =
          let whole = spec.whole names uses t in
          let known = verdict_known t.span whole.notes.early whole.notes.fault whole p e in
          let x = parts_of (record (main_left t names uses) { subprograms = put.subprograms }) p (subst (λ d. checked_of d ≡ Some p) put.is known) in
          subst WellTyped x.is (checked_well_typed t names uses right x.components x.own x.accesses x.types x.subprograms x.bodies)

pub programs_well_typed : (t : Tree Definition Use) → ProgramWellTyped t
programs_well_typed t = record { well_typed = λ names uses p h. whole_well_typed t names uses (plain_body_right t.body (every_body t.body)) p h }
