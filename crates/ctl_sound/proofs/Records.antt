-- Record types and extensions as they are declared: what is known of the tables with one more.
use Rattle.std.proofs.Common.{arith, ◌≡◌, ◌≤◌, refl, sym, ap, ◌∙◌, subst, ℕ, zero, suc, ◌+◌, nat_le, nat_lt, Bool, true, false, ◌&&◌, if◌then◌else◌, List, [], ◌∷◌, ◌++◌, map, length, slice_get, slice_set, Option, Some, None}
use Rattle.std.proofs.lemmas.Bool.Decides.{nat_tests}
use Rattle.std.proofs.lemmas.List.{append_assoc, length-append}
use Rattle.ctl_tree.specs.declared.span.Span.{Span}
use Rattle.ctl_program.specs.declared.types.Component.{Component}
use Rattle.ctl_program.specs.declared.types.Operations.{Operations}
use Rattle.ctl_program.specs.declared.types.RecordType.{RecordType}
use Rattle.ctl_program.specs.declared.types.Root.{Root}
use Rattle.ctl_program.specs.declared.types.Root.TheVariants as root
use Rattle.ctl_program.specs.declared.expression.Step.TheVariants as step
use Rattle.ctl_program.specs.declared.types.Ty.{Ty}
use Rattle.ctl_program.specs.declared.types.Ty.TheVariants as ty
use Rattle.ctl_program.specs.declared.statement.Item.{Item as Checked_item}
use Rattle.ctl_program.specs.declared.statement.Item.TheVariants as made
use Rattle.ctl_syntax.specs.declared.denoted.Definition.{Definition}
use Rattle.ctl_syntax.specs.declared.denoted.OperationName.{OperationName}
use Rattle.ctl_syntax.specs.declared.denoted.OperationName.TheVariants.{Initialize, Adjust, Finalize, Allocate, Deallocate}
use Rattle.ctl_syntax.specs.declared.denoted.Use.{Use}
use Rattle.ctl_syntax.specs.declared.item.Components.{Components as Components_of}
use Rattle.ctl_syntax.specs.declared.item.Definition.TheVariants as definition
use Rattle.ctl_syntax.specs.declared.item.Limitation.{Limitation}
use Rattle.ctl_syntax.specs.declared.name.Mark.{Mark}
use Rattle.ctl_typing.specs.declared.notes.Deed.TheVariants.{Freezes}
use Rattle.ctl_typing.specs.declared.notes.Notes.{Notes}
use Rattle.ctl_typing.specs.declared.table.AccessEntry.{AccessEntry}
use Rattle.ctl_typing.specs.declared.table.Entry.{Entry}
use Rattle.ctl_typing.specs.declared.table.Entry.TheVariants as entry
use Rattle.ctl_typing.specs.declared.table.RecordEntry.{RecordEntry}
use Rattle.ctl_typing.specs.declared.table.RecordState.{RecordState}
use Rattle.ctl_typing.specs.Lookup.{root_of}
use Rattle.ctl_draft.specs.declared.draft.Around.{Around}
use Rattle.ctl_draft.specs.declared.draft.Draft.{Draft}
use Rattle.ctl_draft.specs.declared.draft.Enclosing.{Enclosing}
use Rattle.ctl_declarations.specs.Declarations.{name_kept}
use Rattle.ctl_resolve.specs.Library.{operation_named}
use Rattle.ctl_draft.specs.Draft.{asking, asked, declare, enter, is_declared_in, with_entries}
use Rattle.ctl_declarations.specs.Declarations as spec
use Rattle.ctl_types.specs.Elaboration.{surely}
use Rattle.ctl_draft.specs.Freezing.{changed_each, done_by, with_accesses}
use Rattle.ctl_draft.specs.Operations.{user_operation, operations_of}
use Rattle.ctl_access_types.specs.AccessTypes as accessing
use Rattle.ctl_declarations.specs.Types as types
use Rattle.ctl_declarations.specs.Types.{is_given}
use Rattle.ctl_well_typed.specs.Setting.{Frames, Encloses, Setting, HasRecord, InView}
use Rattle.ctl_well_typed.specs.Types.{Components, underived, derived, from_parent, Leads as Reaches, component}
use Rattle.ctl_well_typed.specs.Programs as program
use Rattle.ctl_well_typed.specs.Statements as rule
use Rattle.ctl_sound.specs.Known.{IfSome}
use Rattle.ctl_sound.specs.Sound.{EntryFine}
use Rattle.ctl_sound.proofs.Items.{Extends, parent_named_good}
use Rattle.ctl_sound.proofs.Growing.{operations_in, Behind, behind_same, behind_one, behind_place, last_read, Still, still_noted, still_further, still_back, Made, nothing, Grows, grows_self}
use Rattle.ctl_sound.proofs.Freezing.{Quiet, done_quiet, each_length}
use Rattle.ctl_sound.proofs.Sites.{Site, around_site, here, IsHere, AccessKnown, RecordKnown, OperationKnown, no_operations, operations_at, Known, Front, InTable}
use Rattle.ctl_sound.proofs.Fronts.{encloses_self, encloses_further, one_home, read_at, front_still, front_noted, front_sound}
use Rattle.ctl_sound.proofs.Declared.{known_same}
use Rattle.ctl_sound.proofs.Completing.{changed_later, completed_later, complete_known}
use Rattle.ctl_sound.proofs.Components.{Aligned, FoundOwn, aligned_added, aligned_count, aligned_found, below, Only, components_only, components_beside}
use Rattle.ctl_sound.proofs.Steps.{Leads, still_leads}
use Rattle.ctl_sound.proofs.Objects.{RightItems, told_still, elaborated_joined}

-- Rows with one more ------------------------------------------------------------------------------

pub each_at : {A : Type 0} (P : ℕ → A → Type 0) (xs : List A) (x : A) → ((n : ℕ) (y : A) → slice_get xs n ≡ Some y → P n y) → P (length xs) x → (n : ℕ) (y : A) → slice_get (xs ++ x ∷ []) n ≡ Some y → P n y
each_at P [] x h i zero y e = let same : x ≡ y = cc in subst (λ z. P 0 z) same i
each_at P [] x h i (suc n) y e = absurd (cc)
each_at P (z ∷ xs) x h i zero y e = h zero y e
each_at P (z ∷ xs) x h i (suc n) y e = each_at (λ m. P (suc m)) xs x (λ m. h (suc m)) i n y e

operations_with : (P : ℕ → Operations → Type 0) (ss : List RecordState) (s : RecordState) → ((n : ℕ) → P n (operations_at (map operations_in ss) n)) → P (length ss) s.operations → (n : ℕ) → P n (operations_at (map operations_in (ss ++ s ∷ [])) n)
operations_with P [] s h i zero = i
operations_with P [] s h i (suc n) = h (suc n)
operations_with P (x ∷ ss) s h i zero = h zero
operations_with P (x ∷ ss) s h i (suc n) = operations_with (λ m. P (suc m)) ss s (λ m. h (suc m)) i n

set_holds : {A : Type 0} (P : A → Type 0) (xs : List A) (m : ℕ) (x : A) → ((n : ℕ) → IfSome P (slice_get xs n)) → P x → (n : ℕ) → IfSome P (slice_get (slice_set xs m x) n)
set_holds P [] m x h i n = h n
set_holds P (y ∷ xs) zero x h i zero = i
set_holds P (y ∷ xs) zero x h i (suc n) = h (suc n)
set_holds P (y ∷ xs) (suc m) x h i zero = h zero
set_holds P (y ∷ xs) (suc m) x h i (suc n) = set_holds P xs m x (λ k. h (suc k)) i n

set_behind : {A : Type 0} (xs more : List A) (m : ℕ) (x : A) → length xs ≤ m → Behind xs (slice_set (xs ++ more) m x)
set_behind [] more m x h = record { more = slice_set more m x; is = refl }
set_behind (y ∷ xs) more zero x h = absurd (omega (arith, h))
set_behind (y ∷ xs) more (suc m) x h = let r = set_behind xs more m x (omega (arith, h)) in record { more = r.more; is = ap (λ zs. y ∷ zs) r.is }

-- Declarations of a number (3.11.1) ------------------------------------------------------------------

abbrev pub entered : ℕ → ℕ → Entry → List Entry → List Entry
entered start number x es = if nat_le start number && nat_lt number (length es) then slice_set es number x else es ++ x ∷ []

pub enter_is : (a : Around) (number : ℕ) (x : Entry) (d : Draft) → enter a number x d ≡ with_entries (entered a.start number x d.tables.entries) d
enter_is a number x d = by_test (is_declared_in a number d)
  where
    by_test : (b : Bool) → (if b then with_entries (slice_set d.tables.entries number x) d else declare x d) ≡ with_entries (if b then slice_set d.tables.entries number x else d.tables.entries ++ x ∷ []) d
    by_test true = refl
    by_test false = refl

module _ (s : Site) (start number : ℕ) (x : Entry) (es : List Entry) (first : start ≡ length s.base) where
  abbrev pub EntriesFine : List Entry → Type 0
  EntriesFine ys = ((n : ℕ) → IfSome (EntryFine s.k (around_site s)) (slice_get ys n)) × Behind s.base ys

  pub entries_entered : EntryFine s.k (around_site s) x → EntriesFine es → EntriesFine (entered start number x es)
  entries_entered h g = by_test (nat_le start number) refl (nat_lt number (length es))
    where
      added : EntriesFine (es ++ x ∷ [])
      added = (each_fine es g.0, record { more = g.1.more ++ x ∷ []; is = ap (λ ys. ys ++ x ∷ []) g.1.is ∙ append_assoc s.base g.1.more (x ∷ []) })
        where
          each_fine : (ys : List Entry) → ((n : ℕ) → IfSome (EntryFine s.k (around_site s)) (slice_get ys n)) → (n : ℕ) → IfSome (EntryFine s.k (around_site s)) (slice_get (ys ++ x ∷ []) n)
          each_fine [] f zero = h
          each_fine [] f (suc n) = tt
          each_fine (y ∷ ys) f zero = f zero
          each_fine (y ∷ ys) f (suc n) = each_fine ys (λ m. f (suc m)) n

      by_test : (b : Bool) → nat_le start number ≡ b → (c : Bool) → EntriesFine (if b && c then slice_set es number x else es ++ x ∷ [])
      by_test true e true =
          let behind : start ≤ number = grind (arith, nat_tests) in
          let past : length s.base ≤ number = omega (arith, first, behind) in
          (set_holds (EntryFine s.k (around_site s)) es number x g.0 h, subst (λ ys. Behind s.base (slice_set ys number x)) (sym g.1.is) (set_behind s.base g.1.more number x past))
      by_test true e false = added
      by_test false e c = added

-- it completes what is in view, or is one more
pub front_entered : (s : Site) (start number : ℕ) (x : Entry) (d : Draft) → start ≡ length s.base → EntryFine s.k (around_site s) x → Front s d → Front s (with_entries (entered start number x d.tables.entries) d)
front_entered s start number x d first h f =
    let g = entries_entered s start number x d.tables.entries first h (f.entries, f.base) in
    record { entries = g.0; base = g.1; known = known_same s.k d (with_entries (entered start number x d.tables.entries) d) refl refl refl refl f.known; own = f.own; inner = f.inner }

-- One more record type (3.8, 3.9.1) ----------------------------------------------------------------------

abbrev record_made : Made
record_made = record { holdings = []; homes = λ env. record { records = env ∷ []; accesses = []; subprograms = [] } }

-- what is to be shown of it, where it is in the program
pub record NextKnown (s : Site) (n : ℕ) (r : RecordEntry) (os : Operations) : Type 0 where
  pub type : RecordKnown s.k n r
  pub operations : (o : OperationName) (m : ℕ) → user_operation o os ≡ Some m → OperationKnown s.k o n m

-- behind a draft in which components were judged
module _ (a : Around) (number : ℕ) (r : RecordEntry) (st : RecordState) (cs : Option (List Component)) (base : Draft) (notes : Notes) where
  abbrev n : ℕ
  n = length base.tables.records

  abbrev d : Draft
  d = record base { own = []; own_names = []; notes = notes }

  abbrev plain : Draft
  plain = asked (types.without_own (types.add_record r st cs d))

  abbrev behind : Draft
  behind = with_entries (entered a.start number (entry.«Type» (ty.Record n)) plain.tables.entries) plain

  abbrev completed : Draft → Draft
  completed e = with_accesses (changed_each (accessing.completed_access number (ty.Record n)) a.first_access e.tables.states.accesses) e

  abbrev pub with_record : Draft
  with_record = accessing.enter_type a number (ty.Record n) plain

  record_is : with_record ≡ completed behind
  record_is = ap completed (enter_is a number (entry.«Type» (ty.Record n)) plain)

  record_known : (k : Setting) → Known k base → RecordKnown k n r → ((o : OperationName) (m : ℕ) → user_operation o st.operations ≡ Some m → OperationKnown k o n m) →
      ((m : ℕ) (x : AccessEntry) → slice_get (completed behind).tables.states.accesses m ≡ Some x → AccessKnown k m x) → Known k (completed behind)
  record_known k h g i j = record {
    records = each_at (RecordKnown k) base.tables.records r h.records g;
    operations = λ o t m e. operations_with (λ t os. (o : OperationName) (m : ℕ) → user_operation o os ≡ Some m → OperationKnown k o t m) base.tables.states.records st (λ t o m. h.operations o t m) (subst (λ x. (o : OperationName) (m : ℕ) → user_operation o st.operations ≡ Some m → OperationKnown k o x m) (sym h.states) i) t o m e;
    subprograms = h.subprograms;
    accesses = j;
    states = let one = length-append base.tables.states.records (st ∷ []) in let two = length-append base.tables.records (r ∷ []) in let same = h.states in omega (arith, one, two, same);
    components = let one = length-append base.components (cs ∷ []) in let two = length-append base.tables.records (r ∷ []) in let same = h.components in omega (arith, one, two, same);
  }

  record_grows : Grows record_made base (completed behind)
  record_grows = record {
    records = behind_one base.tables.records r;
    components = behind_one base.components cs;
    exceptions = behind_same base.exceptions base.exceptions refl;
    accesses = changed_later (accessing.completed_access number (ty.Record n)) (completed_later number (ty.Record n)) a.first_access base.tables.states.accesses;
    slots = omega arith;
    record_homes = λ env. length-append base.tables.records (r ∷ []);
    access_homes = λ env. let same = each_length (accessing.completed_access number (ty.Record n)) a.first_access base.tables.states.accesses in omega (arith, same);
    signatures = λ env. omega arith;
  }

  pub record_leads : (x : List Checked_item) → ((s : Site) → IsHere s (here a) → Front s base → RightItems a s x) →
      ((s : Site) → IsHere s (here a) → Front s base → slice_get s.k.record_homes n ≡ Some (around_site s) → InTable s.k n r cs → NextKnown s n r st.operations) → Leads (here a) (RightItems a) base (Some x, with_record)
  record_leads x right shown = subst (λ e. Leads (here a) (RightItems a) base (Some x, e)) (sym record_is) (record {
    made = record_made;
    grows = record_grows;
    right = λ s i f b g.
        let env = around_site s in
        let same : n + 0 ≡ n = omega arith in
        let home : slice_get s.k.record_homes n ≡ Some env = subst (λ m. slice_get s.k.record_homes m ≡ Some env) same (g.records 0 env refl) in
        let in_table : InTable s.k n r cs = b.records n r cs (last_read base.tables.records r) (subst (λ m. slice_get (base.components ++ cs ∷ []) m ≡ Some cs) f.known.components (last_read base.components cs)) in
        let next = shown s i f home in_table in
        let has : HasRecord s.k env n = record { is = next.type.is; home = env; found = next.type.found; at_home = home; encloses = encloses_self env } in
        let entries = entries_entered s a.start number (entry.«Type» (ty.Record n)) base.tables.entries i.start has (f.entries, f.base) in
        let accesses = complete_known s number (ty.Record n) a.first_access i.first has base.tables.states.accesses f.inner f.known.accesses b.accesses in
        let counted = each_length (accessing.completed_access number (ty.Record n)) a.first_access base.tables.states.accesses in
        let k' = record_known s.k f.known next.type next.operations accesses in
        (record { entries = entries.0; base = entries.1; known = k'; own = refl; inner = λ m h first less at. f.inner m h first (omega (arith, counted, less)) at }, right s i f);
  })

-- What is known of a record type, by its parent and its components ------------------------------------------

-- the parent, if there is one, with the components that are inherited
pub record ParentKnown (s : Site) (d : Draft) (root : Root) (parent : Option ℕ) : Type 0 where
  pub fine : program.Parent s.k (around_site s) (length d.tables.records) root parent
  pub inherited : List Component
  pub count : length inherited ≡ types.inherited_count (types.on_parent d.tables parent)
  pub components : (is : RecordType) → slice_get s.k.records (length d.tables.records) ≡ Some is → is.parent ≡ parent → Components s.k (length d.tables.records) (inherited ++ is.own)
  pub operations : slice_get s.k.record_homes (length d.tables.records) ≡ Some (around_site s) → (is : RecordType) → slice_get s.k.records (length d.tables.records) ≡ Some is → is.root ≡ root → is.parent ≡ parent →
      (o : OperationName) (n : ℕ) → user_operation o (operations_of (types.state_on d.tables parent)) ≡ Some n → OperationKnown s.k o (length d.tables.records) n

module _ (a : Around) (within : Enclosing) (root : Root) (limited : Limitation) (cs : List (Components_of Use)) (base : Draft) where
  abbrev judged : Option (List Component) × Draft
  judged = types.awaited_kept a within.number root (types.components within cs base)

  abbrev own_entry : RecordEntry
  own_entry = types.record_entry a root limited within.parent judged.1

  abbrev m : ℕ
  m = length base.tables.records

  judged_only : Only base judged.1
  judged_only = let e = (types.components within cs base).1 in ap (λ (z : Draft). record z { notes = (accessing.no_pool_awaited a within.number root e).notes }) (components_only within cs base)

  same_tables : judged.1.tables ≡ base.tables
  same_tables = ap (λ z. z.tables) judged_only

  record_shown : (s : Site) → IsHere s (here a) → Front s base → ParentKnown s base root within.parent → slice_get s.k.record_homes m ≡ Some (around_site s) → InTable s.k m own_entry judged.0 →
      NextKnown s m own_entry (operations_of (types.state_on judged.1.tables within.parent))
  record_shown s i f p home x =
      let env = around_site s in
      let own : RecordType = record { level = a.level; root = root; parent = within.parent; own = x.own; operations = x.operations } in
      let beside = subst (λ o. IfSome (λ ys. Aligned s.k env m (types.inherited_count (types.on_parent base.tables within.parent)) judged.1.own ys) o) x.known (components_beside within base s.k env (front_sound s base f) cs f.own) in
      let c = types.inherited_count (types.on_parent base.tables within.parent) in
      let counted = aligned_count s.k env m c judged.1.own x.own beside in
      let all = p.components own x.found refl in
      let lengths = length-append p.inherited x.own in
      let first = p.count in
      let count' : length (p.inherited ++ x.own) ≡ types.last_position c judged.1.own = omega (arith, lengths, first, counted) in
      record {
        type = record {
          is = own;
          home = env;
          found = x.found;
          at_home = home;
          rooted = refl;
          same_parent = refl;
          same_level = refl;
          level = i.level;
          parent = p.fine;
          added = aligned_added s.k env m c judged.1.own x.own beside;
          all = p.inherited ++ x.own;
          components = all;
          count = count' ∙ ap (λ t. types.last_position (types.inherited_count (types.on_parent t within.parent)) judged.1.own) (sym same_tables);
          own = λ name j t e. own_leads s.k env p.inherited x.own c first all name j t (aligned_found s.k env m name c judged.1.own x.own j t beside e);
        };
        operations = λ o n e. p.operations home own x.found refl refl o n (ap (λ t. user_operation o (operations_of (types.state_on t within.parent))) (sym same_tables) ∙ e);
      }
    where
      own_leads : (k : Setting) (env : Frames) (inherited ys : List Component) (c : ℕ) → length inherited ≡ c → Components k m (inherited ++ ys) → (name : List ℕ) (j : ℕ) (t : Ty) → FoundOwn k env m c ys j t → Reaches k (ty.Record m) (step.Component m j) t × InView k env t
      own_leads k env inherited ys c e all name j t g =
          let place : length inherited + g.at ≡ c + g.at = omega (arith, e) in
          let at : slice_get (inherited ++ ys) (c + g.at) ≡ Some g.is = ap (λ n. slice_get (inherited ++ ys) n) (sym place) ∙ behind_place inherited ys g.at ∙ g.found in
          (subst (λ q. Reaches k (ty.Record m) (step.Component m q) t) (sym g.position) (subst (λ u. Reaches k (ty.Record m) (step.Component m (suc (c + g.at))) u) g.type (component all at)), g.in_view)

  -- it is declared with what is known of it
  pub declared_leads : (x : List Checked_item) → ((s : Site) → IsHere s (here a) → Front s base → RightItems a s x) → ((s : Site) → Front s base → ParentKnown s base root within.parent) → Leads (here a) (RightItems a) base (Some x, types.enter_record a within root limited judged)
  declared_leads x right parent =
      let canonical : Draft = record base { own = []; own_names = []; notes = judged.1.notes } in
      let same : types.without_own judged.1 ≡ canonical = ap (λ z. types.without_own z) judged_only in
      let st = types.inherited_state (types.state_on judged.1.tables within.parent) in
      subst (λ z. Leads (here a) (RightItems a) base (Some x, accessing.enter_type a within.number (ty.Record (length z.tables.records)) (asked (types.without_own (types.add_record own_entry st judged.0 z))))) (sym same)
      (record_leads a within.number own_entry st judged.0 base judged.1.notes x right (λ s i f home y. record_shown s i f (parent s f) home y))

-- Record types without a parent (3.8) ---------------------------------------------------------------------------

underived_known : (s : Site) (d : Draft) (root : Root) → Front s d → ParentKnown s d root None
underived_known s d root f = record {
  fine = program.none;
  inherited = [];
  count = refl;
  components = λ is' found parent. underived found parent;
  operations = λ home is' found root parent o n e. absurd (let no = no_user o in cc);
}
  where
    no_user : (o : OperationName) → user_operation o no_operations ≡ None
    no_user Initialize = refl
    no_user Adjust = refl
    no_user Finalize = refl
    no_user Allocate = refl
    no_user Deallocate = refl

pub silent_right : (a : Around) (s : Site) → RightItems a s (made.Silent ∷ [])
silent_right a s = rule.one_more_item rule.silent rule.no_more_items

pub record_type_leads : (a : Around) (place : Span) (number : ℕ) (l : Limitation) (cs : List (Components_of Use)) (d : Draft) → Leads (here a) (RightItems a) d (surely (types.record_type place number l cs a d))
record_type_leads a place number l cs d =
    let told = accessing.untagged_kept place number d in
    let e = asking told in
    still_leads (here a) (RightItems a) d e (surely (types.record_type place number l cs a d)) (still_further d told e (told_still (accessing.is_said_tagged (slice_get d.tables.entries number)) _ place d) (still_noted told told.returning told.waiting e.notes))
    (declared_leads a (types.underived place number) root.Untagged l cs e (made.Silent ∷ []) (λ s i f. silent_right a s) (λ s f. underived_known s e root.Untagged f))

-- Extensions (3.9.1) -------------------------------------------------------------------------------------------------

pub front_unowned : (s : Site) (d : Draft) → Front s d → Front s (types.without_own d)
front_unowned s d f = record { entries = f.entries; base = f.base; known = known_same s.k d (types.without_own d) refl refl refl refl f.known; own = refl; inner = f.inner }

module _ (s : Site) (d : Draft) (f : Front s d) (root : Root) (p : ℕ) (has : HasRecord s.k (around_site s) p) (r : RecordEntry) (found : slice_get d.tables.records p ≡ Some r) (rooted : root ≡ r.root) where
  abbrev env : Frames
  env = around_site s

  abbrev parent_is : RecordKnown s.k p r
  parent_is = f.known.records p r found

  inherited_known : slice_get s.k.record_homes (length d.tables.records) ≡ Some env → (is' : RecordType) → slice_get s.k.records (length d.tables.records) ≡ Some is' → is'.root ≡ root → is'.parent ≡ Some p →
      (o : OperationName) (n : ℕ) → user_operation o (operations_of (slice_get d.tables.states.records p)) ≡ Some n → OperationKnown s.k o (length d.tables.records) n
  inherited_known home is' at own_root parent o n e =
      let q = f.known.operations o p n (ap (user_operation o) (sym (read_at d.tables.states.records p)) ∙ e) in
      let same = one_home q.home has.home (slice_get s.k.record_homes p) q.at_home has.at_home in
      record {
        is = q.is;
        root = q.root;
        home = env;
        at_home = home;
        found = q.found;
        encloses = encloses_further q.is.home has.home env (subst (λ g. Encloses q.is.home g) same q.encloses) has.encloses;
        descends = from_parent at parent q.descends;
        formals = q.formals;
        result = q.result;
        provided = λ u h. q.provided u (record { is = parent_is.is; found = parent_is.found; rooted = parent_is.rooted ∙ sym rooted ∙ sym own_root ∙ ap (λ y. y.root) (one_type is' h.is (slice_get s.k.records (length d.tables.records)) at h.found) ∙ h.rooted });
      }
    where
      one_type : (x y : RecordType) (o : Option RecordType) → o ≡ Some x → o ≡ Some y → x ≡ y
      one_type x y o h i = cc

  derived_known : ParentKnown s d root (Some p)
  derived_known = record {
    fine = program.extends (below d.tables d.tables.records p r found) has (record { is = parent_is.is; found = parent_is.found; rooted = parent_is.rooted ∙ sym rooted });
    inherited = parent_is.all;
    count = parent_is.count ∙ ap types.inherited_count (sym found);
    components = λ is' at parent. derived at parent parent_is.components;
    operations = inherited_known;
  }

module _ (a : Around) (place : Span) (number : ℕ) where
  -- nothing is known of a type whose parent is wrong
  unknown_behind : (d : Draft) (notes : Notes) (x : List Checked_item) → ((s : Site) → RightItems a s x) → Leads (here a) (RightItems a) d (Some x, enter a number entry.Unknown (record d { own = []; own_names = []; notes = notes }))
  unknown_behind d notes x right = subst (λ e. Leads (here a) (RightItems a) d (Some x, e)) (sym (enter_is a number entry.Unknown (record d { own = []; own_names = []; notes = notes }))) (record {
    made = nothing;
    grows = let g = grows_self d in record { records = g.records; components = g.components; exceptions = g.exceptions; accesses = g.accesses; slots = g.slots; record_homes = g.record_homes; access_homes = g.access_homes; signatures = g.signatures };
    right = λ s i f b g. (front_entered s a.start number entry.Unknown (record d { own = []; own_names = []; notes = notes }) i.start tt (front_noted s (types.without_own d) notes (front_unowned s d f)), right s);
  })

  unknown_leads : (cs : List (Components_of Use)) (d : Draft) (x : List Checked_item) → ((s : Site) → RightItems a s x) → Leads (here a) (RightItems a) d (Some x, enter a number entry.Unknown (types.without_own (types.components (types.underived place number) cs d).1))
  unknown_leads cs d x right =
      let e = (types.components (types.underived place number) cs d).1 in
      let same : types.without_own e ≡ record d { own = []; own_names = []; notes = e.notes } = ap (λ z. types.without_own z) (components_only (types.underived place number) cs d) in
      subst (λ z. Leads (here a) (RightItems a) d (Some x, enter a number entry.Unknown z)) (sym same) (unknown_behind d e.notes x right)

  -- the parent that a mark names
  record ParentAt (s : Site) (d : Draft) (t : ℕ) : Type 0 where
    has : HasRecord s.k (around_site s) t
    is : RecordEntry
    found : slice_get d.tables.records t ≡ Some is

  extended_leads : (t : ℕ) (cs : List (Components_of Use)) (d : Draft) (ls : List Checked_item) (e : Draft) → Quiet a d (ls, e) → ((s : Site) → Front s d → ParentAt s d t) → Leads (here a) (RightItems a) d (surely (types.extend a place number t cs (ls, e)))
  extended_leads t cs d ls e q parent =
      let root = root_of (slice_get e.tables.records t) in
      let limited = types.limitation_in (slice_get e.tables.records t) in
      let next = asking e in
      let all : Still d next = still_further d e next q.still (still_noted e e.returning e.waiting next.notes) in
      still_leads (here a) (RightItems a) d next (surely (types.extend a place number t cs (ls, e))) all
      (declared_leads a (types.derived place number t e) root limited cs next (ls ++ made.Silent ∷ [])
      (λ s i f. elaborated_joined s.k (around_site s) ls (made.Silent ∷ []) (q.layers s i (front_still s next d (still_back d next all) f)) (silent_right a s))
      (λ s f.
      let p = parent s (front_still s next d (still_back d next all) f) in
      let found : slice_get e.tables.records t ≡ Some p.is = subst (λ rs. slice_get rs t ≡ Some p.is) (sym q.still.records) p.found in
      derived_known s next f root t p.has p.is found (ap root_of found)))

  extension_by : (cs : List (Components_of Use)) (o : Option ℕ) (d : Draft) → ((s : Site) → Front s d → IfSome (ParentAt s d) o) → Leads (here a) (RightItems a) d (surely (types.extension_of place number cs a (o, d)))
  extension_by cs None d parent = unknown_leads cs d (made.Silent ∷ []) (silent_right a)
  extension_by cs (Some t) d parent = let r = done_by a (Freezes (ty.Record t) ∷ []) d in extended_leads t cs d r.0 r.1 (done_quiet a (Freezes (ty.Record t) ∷ []) d) parent

  parent_at : (m : Mark Use) (d e : Draft) (s : Site) (f : Front s d) → e.tables ≡ d.tables → (o : Option ℕ) → IfSome (Extends s.k (around_site s) d.tables (front_sound s d f)) o → IfSome (ParentAt s e) o
  parent_at m d e s f same None h = tt
  parent_at m d e s f same (Some t) h = record { has = h.has; is = h.is; found = subst (λ x. slice_get x.records t ≡ Some h.is) (sym same) h.found }

  pub extension_leads : (m : Mark Use) (cs : List (Components_of Use)) (d : Draft) → Leads (here a) (RightItems a) d (surely (types.extension place number m cs a d))
  extension_leads m cs d =
      let r = types.parent_named place m d.tables d.notes in
      let e : Draft = record d { notes = r.1 } in
      still_leads (here a) (RightItems a) d e (surely (types.extension_of place number cs a (r.0, e))) (still_noted d d.returning d.waiting r.1)
      (extension_by cs r.0 e (λ s f.
      let g = front_still s e d (still_noted e e.returning e.waiting d.notes) f in
      parent_at m d e s g refl r.0 (parent_named_good s.k (around_site s) d.tables (front_sound s d g) place m d.notes)))

-- Types by their definitions ---------------------------------------------------------------------------------------

module _ (a : Around) (place : Span) (name : Definition) (d : Draft) where
  abbrev kept : Draft
  kept = name_kept name d

  kept_still : Still d kept
  kept_still = told_still (is_given (operation_named name.identifier.text)) _ name.identifier.span d

  pub extension_defined : (m : Mark Use) (cs : List (Components_of Use)) → Leads (here a) (RightItems a) d (surely (spec.definition_of place name (definition.Extension m cs) a d))
  extension_defined m cs = still_leads (here a) (RightItems a) d kept (surely (spec.definition_of place name (definition.Extension m cs) a d)) kept_still (extension_leads a place name.number m cs kept)

  pub record_defined : (l : Limitation) (cs : List (Components_of Use)) → Leads (here a) (RightItems a) d (surely (spec.definition_of place name (definition.Record l cs) a d))
  record_defined l cs = still_leads (here a) (RightItems a) d kept (surely (spec.definition_of place name (definition.Record l cs) a d)) kept_still (record_type_leads a place name.number l cs kept)
