-- No judgement of an expression takes a fault back.
use Rattle.std.proofs.Common.{◌≡◌, refl, subst, ℕ, nat_eq, nat_lt, Bool, true, false, ◌&&◌, if◌then◌else◌, List, [], ◌∷◌, length, slice_get, Option, Some, None}
use Rattle.ctl_tree.specs.declared.span.Span.{Span}
use Rattle.ctl_tree.specs.declared.fault.Fault.{Fault}
use Rattle.ctl_tree.specs.declared.fault.FaultCode.{FaultCode}
use Rattle.ctl_tree.specs.declared.fault.FaultCode.TheVariants as fault
use Rattle.ctl_tree.specs.Faults.{first_of, fault_at, is_before}
use Rattle.ctl_program.specs.Library.{mark_release_pool}
use Rattle.ctl_program.specs.declared.types.Ty.{Ty}
use Rattle.ctl_program.specs.declared.types.Ty.TheVariants as ty
use Rattle.ctl_program.specs.declared.types.Var.{Var}
use Rattle.ctl_program.specs.declared.expression.Actual.{Actual}
use Rattle.ctl_program.specs.declared.expression.Step.{Step}
use Rattle.ctl_program.specs.declared.operators.SubpoolFunction.{SubpoolFunction}
use Rattle.ctl_program.specs.Limits.{integer_last, integer_first_cell}
use Rattle.ctl_syntax.specs.declared.denoted.Denoted.TheVariants as denoted
use Rattle.ctl_syntax.specs.declared.denoted.LibraryName.{LibraryName}
use Rattle.ctl_syntax.specs.declared.denoted.LibraryName.TheVariants as library
use Rattle.ctl_syntax.specs.declared.denoted.Use.{Use}
use Rattle.ctl_syntax.specs.declared.item.Mode.{Mode}
use Rattle.ctl_syntax.specs.declared.item.Mode.TheVariants as mode
use Rattle.ctl_syntax.specs.declared.item.Aliasing.{Aliasing}
use Rattle.ctl_syntax.specs.declared.item.Aliasing.TheVariants as aliasing
use Rattle.ctl_syntax.specs.declared.name.Attribute.{Attribute}
use Rattle.ctl_syntax.specs.declared.name.Attribute.TheVariants as attribute
use Rattle.ctl_syntax.specs.declared.name.Suffix.{Suffix}
use Rattle.ctl_syntax.specs.declared.name.Suffix.TheVariants as suffix
use Rattle.ctl_typing.specs.declared.table.Tables.{Tables}
use Rattle.ctl_typing.specs.declared.table.Entry.{Entry}
use Rattle.ctl_typing.specs.declared.table.Entry.TheVariants as entry
use Rattle.ctl_typing.specs.declared.table.FormalEntry.{FormalEntry}
use Rattle.ctl_typing.specs.declared.table.Profile.{Profile}
use Rattle.ctl_typing.specs.declared.table.Mutability.{Mutability}
use Rattle.ctl_typing.specs.declared.table.Mutability.TheVariants as mutability
use Rattle.ctl_typing.specs.declared.notes.Notes.{Notes}
use Rattle.ctl_typing.specs.declared.notes.Deed.{Deed}
use Rattle.ctl_typing.specs.declared.found.Asked.{Asked}
use Rattle.ctl_typing.specs.declared.found.Asked.TheVariants as asking
use Rattle.ctl_typing.specs.declared.found.Typed.{Typed as Typed_value}
use Rattle.ctl_typing.specs.declared.found.Head.{Head}
use Rattle.ctl_typing.specs.declared.found.Head.TheVariants as head
use Rattle.ctl_typing.specs.declared.found.Place.{Place}
use Rattle.ctl_typing.specs.declared.found.Found.{Found}
use Rattle.ctl_typing.specs.declared.found.Found.TheVariants as is
use Rattle.ctl_typing.specs.Judgement.{Judgement, known, but, wrong, doing, noting, with_known, ◌>>=◌, paired, beside, both, then_beside, following, then_by, followed_by, appended, each, each_on}
use Rattle.ctl_program.specs.declared.expression.Expr.TheVariants as e
use Rattle.ctl_typing.specs.Lookup.{same, is_record, is_convertible, is_general, level_of, level_of_access, descends, designated_by, root_of, component_of}
use Rattle.ctl_typing.specs.Typing as spec
use Rattle.ctl_typing.specs.Typing.{Sense}
use Rattle.ctl_sound.proofs.Layers.{SuffixOf}
use Rattle.ctl_sound.specs.Known.{IfSome, All, Clean, Stays}

some_fault : (o : Option Fault) (f : Fault) → first_of o f ≡ None → ⊥
some_fault None f h = absurd (cc)
some_fault (Some g) f h = by_order (is_before f g) h
  where
    by_order : (b : Bool) → (if b then Some f else Some g) ≡ None → ⊥
    by_order true h = absurd (cc)
    by_order false h = absurd (cc)

pub known_stays : {A : Type 0} (a : A) → Stays (known a)
known_stays a n h = h

pub silent_stays : (A : Type 0) → Stays {A = A} (λ n. (None, n))
silent_stays A n h = h

pub wrong_stays : (A : Type 0) (code : FaultCode) (place : Span) → Stays {A = A} (wrong code place)
wrong_stays A code place n h = absurd (some_fault n.fault (fault_at code place) h.fault)

pub but_stays : {A : Type 0} (code : FaultCode) (place : Span) (a : A) → Stays (but code place a)
but_stays code place a n h = absurd (some_fault n.fault (fault_at code place) h.fault)

pub doing_stays : {A : Type 0} (ds : List Deed) (a : A) → Stays (doing ds a)
doing_stays ds a n h = record { early = h.early; fault = h.fault }

next_clean : {A B : Type 0} (f : A → Judgement B) (r : Option A × Notes) → ((a : A) → Stays (f a)) → Clean (with_known f r).1 → Clean r.1
next_clean f (None, s) k c = c
next_clean f (Some a, s) k c = k a s c

pub next_stays : {A B : Type 0} (p : Judgement A) (f : A → Judgement B) → Stays p → ((a : A) → Stays (f a)) → Stays (p >>= f)
next_stays p f h k n c = h n (next_clean f (p n) k c)

paired_clean : {A B : Type 0} (a : Option A) (r : Option B × Notes) → Clean (paired a r).1 → Clean r.1
paired_clean None (b, s) c = c
paired_clean (Some a) (None, s) c = c
paired_clean (Some a) (Some b, s) c = c

beside_clean : {A B : Type 0} (q : Judgement B) (r : Option A × Notes) → Stays q → Clean (beside q r).1 → Clean r.1
beside_clean q (a, s) k c = k s (paired_clean a (q s) c)

pub both_stays : {A B : Type 0} (p : Judgement A) (q : Judgement B) → Stays p → Stays q → Stays (both p q)
both_stays p q h k n c = h n (beside_clean q (p n) k c)

then_clean : {A B : Type 0} (f : Option A → Judgement B) (r : Option A × Notes) → ((o : Option A) → Stays (f o)) → Clean (then_beside f r).1 → Clean r.1
then_clean f (a, s) k c = k a s (paired_clean a (f a s) c)

pub following_stays : {A B : Type 0} (p : Judgement A) (f : Option A → Judgement B) → Stays p → ((o : Option A) → Stays (f o)) → Stays (following p f)
following_stays p f h k n c = h n (then_clean f (p n) k c)

followed_clean : {A B : Type 0} (f : Option A → Judgement B) (r : Option A × Notes) → ((o : Option A) → Stays (f o)) → Clean (then_by f r).1 → Clean r.1
followed_clean f (a, s) k c = k a s c

pub followed_stays : {A B : Type 0} (p : Judgement A) (f : Option A → Judgement B) → Stays p → ((o : Option A) → Stays (f o)) → Stays (followed_by p f)
followed_stays p f h k n c = h n (followed_clean f (p n) k c)

pub if_stays : {A : Type 0} (b : Bool) (p q : Judgement A) → Stays p → Stays q → Stays (if b then p else q)
if_stays true p q h k = h
if_stays false p q h k = k

mutual_turn : {A B : Type 0} (f : A → Judgement B) (so_far : Option (List B)) (r : Option B × Notes) (xs : List A) → each_on f so_far r xs ≡ each f (appended so_far r.0) xs r.1
mutual_turn f so_far (b, s) [] = refl
mutual_turn f so_far (b, s) (x ∷ xs) = refl

pub each_stays : {A B : Type 0} (f : A → Judgement B) (so_far : Option (List B)) (xs : List A) → All (λ x. Stays (f x)) xs → Stays (λ n. each f so_far xs n)
each_stays f so_far [] h n c = c
each_stays f so_far (x ∷ xs) h n c = h.0 n (each_stays f (appended so_far (f x n).0) xs h.1 (f x n).1 (subst (λ r. Clean r.1) (mutual_turn f so_far (f x n) xs) c))

abbrev pub FoundStays : Option (Tables → Judgement Found) → Type 0
FoundStays o = IfSome (λ (f : Tables → Judgement Found). (tables : Tables) → Stays (f tables)) o

-- what is known of an expression takes no fault back
pub record Keeps (x : Sense) : Type 0 where
  pub judged : (tables : Tables) (asked : Asked) → Stays (x.judged tables asked)
  pub bare : FoundStays x.bare
  pub named : FoundStays x.named
  pub texts : (tables : Tables) → Stays (x.texts tables)

-- Beginnings ----------------------------------------------------------------------------------------

entry_stays : (place : Span) (n : ℕ) (e : Option Entry) → Stays (spec.entry_found place n e)
entry_stays place n (Some (entry.Object o)) = known_stays (is.Part (spec.variable o))
entry_stays place n (Some (entry.«Type» t)) = known_stays (is.TypeName t)
entry_stays place n (Some (entry.Subprogram p)) = λ m h. record { early = h.early; fault = h.fault }
entry_stays place n (Some entry.Unknown) = silent_stays Found
entry_stays place n _ = wrong_stays Found fault.Type place

library_stays : (place : Span) (l : LibraryName) → Stays (spec.library_found place l)
library_stays place library.Integer n h = h
library_stays place library.Boolean n h = h
library_stays place library.StorageCount n h = h
library_stays place library.Address n h = h
library_stays place library.SubpoolHandle n h = h
library_stays place library.Controlled n h = h
library_stays place library.LimitedControlled n h = h
library_stays place library.BlockPool n h = h
library_stays place library.MarkReleasePool n h = h
library_stays place library.True n h = h
library_stays place library.False n h = h
library_stays place library.NullAddress n h = h
library_stays place library.Mark n h = h
library_stays place library.DefaultSubpool n h = h
library_stays place _ n h = wrong_stays Found fault.Type place n h

pub first_stays : (tables : Tables) (u : Use) → Stays (spec.first_found tables u)
first_stays tables u = by_denoted u.denoted
  where
    by_denoted : (d : _) → Stays (spec.first_found tables (record { span = u.span; denoted = d }))
    by_denoted (denoted.Declared n level) = entry_stays u.span n (slice_get tables.entries n)
    by_denoted (denoted.Library l) = library_stays u.span l
    by_denoted (denoted.Operation o) = wrong_stays Found fault.Type u.span
    by_denoted denoted.Unknown = wrong_stays Found fault.Unknown u.span

result_stays : (place : Span) (p : Profile) (actuals : List Actual) (r : Option Ty) → p.result ≡ r → Stays (spec.result_found place p actuals)
result_stays place p actuals None e n = rw e (wrong_stays Found fault.Type place n)
result_stays place p actuals (Some t) e n = rw e (λ h. h)

parameterless_stays : (place : Span) (p : Profile) (fs : List FormalEntry) → Stays (spec.parameterless place p fs)
parameterless_stays place p [] = result_stays place p [] p.result refl
parameterless_stays place p (f ∷ fs) = wrong_stays Found fault.Type place

called_alone_stays : (place : Span) (o : Option Profile) → Stays (spec.called_alone place o)
called_alone_stays place None = wrong_stays Found fault.Type place
called_alone_stays place (Some p) = parameterless_stays place p p.formals

pub settled_stays : (tables : Tables) (place : Span) (f : Found) → Stays (spec.settled tables place f)
settled_stays tables place (is.Callable n) = called_alone_stays place (spec.profile_of tables n)
settled_stays tables place (is.Part p) = known_stays (is.Part p)
settled_stays tables place (is.TypeName p) = known_stays (is.TypeName p)
settled_stays tables place (is.Computed p) = known_stays (is.Computed p)
settled_stays tables place (is.Subpools p) = known_stays (is.Subpools p)
settled_stays tables place (is.Image p) = known_stays (is.Image p)
settled_stays tables place (is.Imaged p) = known_stays (is.Imaged p)
settled_stays tables place (is.Discriminant p i) = known_stays (is.Discriminant p i)
settled_stays tables place (is.View p) = known_stays (is.View p)
settled_stays tables place (is.Accessed v t) = known_stays (is.Accessed v t)

-- Actuals -----------------------------------------------------------------------------------------------

pub as_variable_stays : {A : Type 0} (place : Span) (m : Mutability) (a : A) → Stays (spec.as_variable place m a)
as_variable_stays place mutability.Variable a = known_stays a
as_variable_stays place mutability.Constant a = but_stays fault.Mode place a

-- What a name is, as a value ------------------------------------------------------------------------------

pub noting_stays : {A : Type 0} (t : Ty) (a : A) → Stays (noting t a)
noting_stays t a n h = record { early = h.early; fault = h.fault }

pub fits_stays : (place : Span) (asked : Asked) (t : Typed_value) → Stays (spec.fits place asked t)
fits_stays place asked t = if_stays (spec.meets asked t.ty) (noting t.ty t) (wrong fault.Type place) (noting_stays t.ty t) (wrong_stays Typed_value fault.Type place)

pub at_level_stays : {A : Type 0} (place : Span) (m n : ℕ) (a : A) → Stays (spec.at_level place m n a)
at_level_stays place m n a = if_stays (nat_lt n m) (but fault.Level place a) (known a) (but_stays fault.Level place a) (known_stays a)

access_value_stays : (tables : Tables) (place : Span) (v : Var) (t : Ty) (asked : Asked) → Stays (spec.access_value tables place v t asked)
access_value_stays tables place v t (asking.Exactly (ty.Access a)) =
    if_stays (is_general (slice_get tables.states.accesses a) && spec.designates_this t (designated_by tables a)) (spec.at_level place v.level (level_of_access (slice_get tables.states.accesses a)) (record { ty = ty.Access a; value = e.Access v })) (wrong fault.Type place)
    (at_level_stays place v.level (level_of_access (slice_get tables.states.accesses a)) (record { ty = ty.Access a; value = e.Access v })) (wrong_stays Typed_value fault.Type place)
access_value_stays tables place v t _ = wrong_stays Typed_value fault.Type place

pub value_found_stays : (tables : Tables) (place : Span) (asked : Asked) (f : Found) → Stays (spec.value_found tables place asked f)
value_found_stays tables place asked (is.Part p) = fits_stays place asked (record { ty = p.ty; value = spec.value_at p.head p.steps p.ty })
value_found_stays tables place asked (is.Computed t) = fits_stays place asked t
value_found_stays tables place asked (is.Discriminant p k) = fits_stays place asked (record { ty = ty.Count; value = e.Discriminant (spec.name_of p) k })
value_found_stays tables place asked (is.Accessed v t) = access_value_stays tables place v t asked
value_found_stays tables place asked _ = wrong_stays Typed_value fault.Type place

-- What is written to ----------------------------------------------------------------------------------------

variable_part_stays : (place : Span) (t : Ty) (p : Place) → Stays (spec.variable_part place t p)
variable_part_stays place t p = if_stays (same t p.ty) (spec.as_variable place p.mutability p) (wrong fault.Type place) (as_variable_stays place p.mutability p) (wrong_stays Place fault.Type place)

value_is_no_variable : (tables : Tables) (place : Span) (t : Ty) (f : Found) → Stays (spec.value_found tables place (asking.Exactly t) f >>= spec.no_variable place)
value_is_no_variable tables place t f = next_stays (spec.value_found tables place (asking.Exactly t) f) (spec.no_variable place) (value_found_stays tables place (asking.Exactly t) f) (λ r. wrong_stays Place fault.Mode place)

variable_found_stays : (tables : Tables) (place : Span) (t : Ty) (f : Found) → Stays (spec.variable_found tables place t f)
variable_found_stays tables place t (is.Part p) = variable_part_stays place t p
variable_found_stays tables place t (is.View p) = variable_part_stays place t p
variable_found_stays tables place t (is.TypeName u) = value_is_no_variable tables place t (is.TypeName u)
variable_found_stays tables place t (is.Callable n) = value_is_no_variable tables place t (is.Callable n)
variable_found_stays tables place t (is.Computed r) = value_is_no_variable tables place t (is.Computed r)
variable_found_stays tables place t (is.Subpools f) = value_is_no_variable tables place t (is.Subpools f)
variable_found_stays tables place t (is.Image u) = value_is_no_variable tables place t (is.Image u)
variable_found_stays tables place t (is.Imaged r) = value_is_no_variable tables place t (is.Imaged r)
variable_found_stays tables place t (is.Discriminant p i) = value_is_no_variable tables place t (is.Discriminant p i)
variable_found_stays tables place t (is.Accessed v u) = value_is_no_variable tables place t (is.Accessed v u)

variable_by_stays : (tables : Tables) (t : Ty) (x : Sense) (o : Option (Tables → Judgement Found)) → Keeps x → FoundStays o → Stays (spec.variable_by tables t x o)
variable_by_stays tables t x None g h = next_stays (x.judged tables (asking.Exactly t)) (spec.no_variable x.place) (g.judged tables (asking.Exactly t)) (λ r. wrong_stays Place fault.Mode x.place)
variable_by_stays tables t x (Some name) g h = next_stays (name tables >>= spec.settled tables x.place) (spec.variable_found tables x.place t) (next_stays (name tables) (spec.settled tables x.place) (h tables) (settled_stays tables x.place)) (variable_found_stays tables x.place t)

pub variable_of_stays : (tables : Tables) (t : Ty) (x : Sense) → Keeps x → Stays (spec.variable_of tables t x)
variable_of_stays tables t x g = variable_by_stays tables t x x.bare g g.bare

written_by_stays : (tables : Tables) (m : Mode) (t : Ty) (x : Sense) → Keeps x → Stays (spec.variable_of tables t x >>= (λ p. known (spec.by_name m p)))
written_by_stays tables m t x g = next_stays (spec.variable_of tables t x) (λ p. known (spec.by_name m p)) (variable_of_stays tables t x g) (λ p. known_stays (spec.by_name m p))

-- What is read ----------------------------------------------------------------------------------------------

record_part_stays : (place : Span) (t : Ty) (p : Place) → Stays (spec.record_part place t p)
record_part_stays place t p = if_stays (same t p.ty) (noting t (spec.handed_on p.head p.steps p.ty)) (wrong fault.Type place) (noting_stays t (spec.handed_on p.head p.steps p.ty)) (wrong_stays Actual fault.Type place)

record_found_stays : (place : Span) (t : Ty) (f : Found) → Stays (spec.record_found place t f)
record_found_stays place t (is.Part p) = record_part_stays place t p
record_found_stays place t (is.View p) = record_part_stays place t p
record_found_stays place t _ = wrong_stays Actual fault.Type place

record_enclosed_stays : (place : Span) (t : Ty) (f : Found) → Stays (spec.record_enclosed place t f)
record_enclosed_stays place t (is.Part p) = record_part_stays place t p
record_enclosed_stays place t _ = wrong_stays Actual fault.Type place

settled_name_stays : (tables : Tables) (place : Span) (name : Tables → Judgement Found) → Stays (name tables) → Stays (name tables >>= spec.settled tables place)
settled_name_stays tables place name h = next_stays (name tables) (spec.settled tables place) h (settled_stays tables place)

value_stays : (tables : Tables) (t : Ty) (x : Sense) → Keeps x → Stays (x.judged tables (asking.Exactly t) >>= spec.by_value)
value_stays tables t x g = next_stays (x.judged tables (asking.Exactly t)) spec.by_value (g.judged tables (asking.Exactly t)) (λ r n h. h)

record_by_stays : (tables : Tables) (t : Ty) (x : Sense) (alone named : Option (Tables → Judgement Found)) → Keeps x → FoundStays alone → FoundStays named → Stays (spec.record_by tables t x alone named)
record_by_stays tables t x (Some alone) named g h i = next_stays (alone tables >>= spec.settled tables x.within) (spec.record_found x.within t) (settled_name_stays tables x.within alone (h tables)) (record_found_stays x.within t)
record_by_stays tables t x None (Some name) g h i = next_stays (name tables >>= spec.settled tables x.within) (spec.record_enclosed x.within t) (settled_name_stays tables x.within name (i tables)) (record_enclosed_stays x.within t)
record_by_stays tables t x None None g h i = value_stays tables t x g

read_by_stays : (tables : Tables) (t : Ty) (x : Sense) → Keeps x → Stays (spec.read_by tables t x)
read_by_stays tables t x g = if_stays (is_record t) (spec.record_by tables t x x.bare x.named) (x.judged tables (asking.Exactly t) >>= spec.by_value) (record_by_stays tables t x x.bare x.named g g.bare g.named) (value_stays tables t x g)

actual_by_stays : (tables : Tables) (m : Mode) (t : Ty) (x : Sense) → Keeps x → Stays (spec.actual_by tables m t x)
actual_by_stays tables mode.In t x g = read_by_stays tables t x g
actual_by_stays tables mode.Out t x g = written_by_stays tables mode.Out t x g
actual_by_stays tables mode.InOut t x g = written_by_stays tables mode.InOut t x g

matched_stays : (tables : Tables) (fs : List FormalEntry) (xs : List Sense) → All Keeps xs → All (λ p. Stays (spec.actual_of tables p)) (spec.matched fs xs)
matched_stays tables [] xs g = tt
matched_stays tables (f ∷ fs) [] g = tt
matched_stays tables (f ∷ fs) (x ∷ xs) g = (actual_by_stays tables f.mode f.ty x g.0, matched_stays tables fs xs g.1)

pub actuals_stay : (tables : Tables) (place : Span) (fs : List FormalEntry) (xs : List Sense) → All Keeps xs → Stays (spec.actuals_of tables place fs xs)
actuals_stay tables place fs xs g = if_stays (nat_eq (length fs) (length xs)) (λ n. each (spec.actual_of tables) (Some []) (spec.matched fs xs) n) (wrong fault.Type place) (each_stays (spec.actual_of tables) (Some []) (spec.matched fs xs) (matched_stays tables fs xs g)) (wrong_stays (List Actual) fault.Type place)

called_stays : (tables : Tables) (place : Span) (o : Option Profile) (xs : List Sense) → All Keeps xs → Stays (spec.called tables place o xs)
called_stays tables place None xs g = wrong_stays Found fault.Type place
called_stays tables place (Some p) xs g = next_stays (spec.actuals_of tables place p.formals xs) (spec.result_found place p) (actuals_stay tables place p.formals xs g) (λ as'. result_stays place p as' p.result refl)

-- Conversions, functions on mark pools ------------------------------------------------------------------------

access_converted_stays : (tables : Tables) (place inner : Span) (a : ℕ) (r : Typed_value) → Stays (spec.converted_access tables place inner a r)
access_converted_stays tables place inner a r = by_test (is_convertible tables a r.ty)
  where
    by_test : (b : Bool) → Stays (if b then spec.at_level place (level_of tables r.ty) (level_of_access (slice_get tables.states.accesses a)) (is.Part (spec.given_place (record { ty = ty.Access a; value = r.value }))) else wrong fault.Type inner)
    by_test true = at_level_stays place (level_of tables r.ty) (level_of_access (slice_get tables.states.accesses a)) (is.Part (spec.given_place (record { ty = ty.Access a; value = r.value })))
    by_test false = wrong_stays Found fault.Type inner

viewed_as_stays : (tables : Tables) (place : Span) (t : ℕ) (p : Place) (s : Ty) → Stays (spec.viewed_as tables place t p s)
viewed_as_stays tables place t p (ty.Record s) = if_stays (descends tables t s) (noting (ty.Record s) (is.View (spec.as_type (ty.Record t) p))) (wrong fault.Type place) (noting_stays (ty.Record s) (is.View (spec.as_type (ty.Record t) p))) (wrong_stays Found fault.Type place)
viewed_as_stays tables place t p _ = wrong_stays Found fault.Type place

viewed_stays : (tables : Tables) (place inner : Span) (t : ℕ) (f : Found) → Stays (spec.viewed tables place inner t f)
viewed_stays tables place inner t (is.Part p) = viewed_as_stays tables place t p p.ty
viewed_stays tables place inner t (is.View p) = wrong_stays Found fault.Type inner
viewed_stays tables place inner t _ = wrong_stays Found fault.Type place

viewed_by_stays : (tables : Tables) (place inner : Span) (t : ℕ) (o : Option (Tables → Judgement Found)) → FoundStays o → Stays (spec.viewed_by tables place inner t o)
viewed_by_stays tables place inner t None h = wrong_stays Found fault.Type place
viewed_by_stays tables place inner t (Some name) h = next_stays (name tables) (spec.viewed tables place inner t) (h tables) (viewed_stays tables place inner t)

converted_stays : (tables : Tables) (place : Span) (t : Ty) (x : Sense) → Keeps x → Stays (spec.converted tables place t x)
converted_stays tables place ty.Integer x g = next_stays (x.judged tables asking.Number) (spec.converted_number ty.Integer) (g.judged tables asking.Number) (λ r n h. h)
converted_stays tables place ty.Count x g = next_stays (x.judged tables asking.Number) (spec.converted_number ty.Count) (g.judged tables asking.Number) (λ r n h. h)
converted_stays tables place (ty.Access a) x g = next_stays (x.judged tables asking.Anything) (spec.converted_access tables place x.within a) (g.judged tables asking.Anything) (access_converted_stays tables place x.within a)
converted_stays tables place (ty.Record t) x g = viewed_by_stays tables place x.place t x.bare g.bare
converted_stays tables place _ x g = wrong_stays Found fault.Type place

subpool_by_stays : (tables : Tables) (which : SubpoolFunction) (x : Sense) → Keeps x → Stays (spec.subpool_by tables which x)
subpool_by_stays tables which x g = next_stays (spec.variable_of tables (ty.Record mark_release_pool) x) (λ p. known (is.Computed (record { ty = ty.Handle; value = e.Subpool which (spec.name_of p) }))) (variable_of_stays tables (ty.Record mark_release_pool) x g) (λ p n h. h)

-- Selectors, attributes, suffixes --------------------------------------------------------------------------------

designates_stays : (place : Span) (p : Place) (o : Option Ty) → Stays (spec.designates place p o)
designates_stays place p None = wrong_stays Place fault.Type place
designates_stays place p (Some t) = λ n h. h

dereferenced_stays : (tables : Tables) (place : Span) (t : Ty) (p : Place) → Stays (spec.dereferenced tables place t p)
dereferenced_stays tables place (ty.Access a) p = designates_stays place p (designated_by tables a)
dereferenced_stays tables place _ p = wrong_stays Place fault.Type place

discriminant_at_stays : (place : Span) (p : Place) (o : Option ℕ) → Stays (spec.discriminant_at place p o)
discriminant_at_stays place p None = wrong_stays Found fault.Type place
discriminant_at_stays place p (Some k) = λ n h. h

selected_in_stays : (tables : Tables) (place : Span) (name : List ℕ) (t : ℕ) (p : Place) (o : Option (ℕ × Ty)) → Stays (spec.selected_in tables place name t p o)
selected_in_stays tables place name t p (Some c) = λ n h. h
selected_in_stays tables place name t p None = discriminant_at_stays place p (spec.discriminant_named (root_of (slice_get tables.records t)) name)

selected_of_stays : (tables : Tables) (place : Span) (name : List ℕ) (t : Ty) (p : Place) → Stays (spec.selected_of tables place name t p)
selected_of_stays tables place name (ty.Record t) p = selected_in_stays tables place name t p (component_of tables name t)
selected_of_stays tables place name _ p = wrong_stays Found fault.Type place

selected_through_stays : (tables : Tables) (place : Span) (name : List ℕ) (t : Ty) (p : Place) → Stays (spec.selected_through tables place name t p)
selected_through_stays tables place name (ty.Access a) p = next_stays (spec.dereferenced tables place (ty.Access a) p) (λ q. spec.selected_of tables place name q.ty q) (dereferenced_stays tables place (ty.Access a) p) (λ q. selected_of_stays tables place name q.ty q)
selected_through_stays tables place name (ty.Record t) p = selected_of_stays tables place name (ty.Record t) p
selected_through_stays tables place name _ p = wrong_stays Found fault.Type place

selected_stays : (tables : Tables) (place : Span) (name : List ℕ) (f : Found) → Stays (spec.selected tables place name f)
selected_stays tables place name (is.Part p) = selected_through_stays tables place name p.ty p
selected_stays tables place name _ = wrong_stays Found fault.Type place

all_of_stays : (tables : Tables) (place : Span) (f : Found) → Stays (spec.all_of tables place f)
all_of_stays tables place (is.Part p) = next_stays (spec.dereferenced tables place p.ty p) (λ q. known (is.Part q)) (dereferenced_stays tables place p.ty p) (λ q n h. h)
all_of_stays tables place _ = wrong_stays Found fault.Type place

accessed_stays : (place : Span) (h : Head) (steps : List Step) (t : Ty) (m : Mutability) (a : Aliasing) → Stays (spec.accessed place h steps t m a)
accessed_stays place (head.At v) [] (ty.Record t) mutability.Variable aliasing.Aliased = λ n h. h
accessed_stays place h steps t m a = wrong_stays Found fault.Type place

image_of_stays : (place : Span) (t : Ty) → Stays (spec.image_of place t)
image_of_stays place ty.Integer = λ n h. h
image_of_stays place ty.Boolean = λ n h. h
image_of_stays place _ = wrong_stays Found fault.Type place

bound_of_stays : (place : Span) (t : Ty) (cell : ℕ) → Stays (spec.bound_of place t cell)
bound_of_stays place ty.Integer cell = λ n h. h
bound_of_stays place _ cell = wrong_stays Found fault.Type place

attributed_stays : (place : Span) (a : Attribute) (f : Found) → Stays (spec.attributed place a f)
attributed_stays place attribute.Access (is.Part p) = accessed_stays place p.head p.steps p.ty p.mutability p.aliasing
attributed_stays place attribute.Image (is.TypeName t) = image_of_stays place t
attributed_stays place attribute.First (is.TypeName t) = bound_of_stays place t integer_first_cell
attributed_stays place attribute.Last (is.TypeName t) = bound_of_stays place t integer_last
attributed_stays place a f = wrong_stays Found fault.Type place

with_one_stays : (tables : Tables) (place : Span) (f : Found) (x : Sense) → Keeps x → Stays (spec.with_one tables place f x)
with_one_stays tables place (is.TypeName t) x g = converted_stays tables place t x g
with_one_stays tables place (is.Subpools which) x g = subpool_by_stays tables which x g
with_one_stays tables place (is.Image t) x g = next_stays (x.judged tables (asking.Exactly t)) spec.imaged (g.judged tables (asking.Exactly t)) (λ r n h. h)
with_one_stays tables place _ x g = wrong_stays Found fault.Type place

with_arguments_stays : (tables : Tables) (place : Span) (f : Found) (x : Sense) (more : List Sense) → Keeps x → All Keeps more → Stays (spec.with_arguments tables place f x more)
with_arguments_stays tables place (is.Callable n) x more g i = called_stays tables place (spec.profile_of tables n) (x ∷ more) (g, i)
with_arguments_stays tables place (is.Part p) x [] g i = with_one_stays tables place (is.Part p) x g
with_arguments_stays tables place (is.TypeName p) x [] g i = with_one_stays tables place (is.TypeName p) x g
with_arguments_stays tables place (is.Computed p) x [] g i = with_one_stays tables place (is.Computed p) x g
with_arguments_stays tables place (is.Subpools p) x [] g i = with_one_stays tables place (is.Subpools p) x g
with_arguments_stays tables place (is.Image p) x [] g i = with_one_stays tables place (is.Image p) x g
with_arguments_stays tables place (is.Imaged p) x [] g i = with_one_stays tables place (is.Imaged p) x g
with_arguments_stays tables place (is.Discriminant p n) x [] g i = with_one_stays tables place (is.Discriminant p n) x g
with_arguments_stays tables place (is.View p) x [] g i = with_one_stays tables place (is.View p) x g
with_arguments_stays tables place (is.Accessed v t) x [] g i = with_one_stays tables place (is.Accessed v t) x g
with_arguments_stays tables place _ x (y ∷ more) g i = wrong_stays Found fault.Type place

abbrev pub KeepsSuffix : Suffix Sense → Type 0
KeepsSuffix = SuffixOf Keeps

suffixed_stays : (tables : Tables) (place : Span) (f : Found) (x : Suffix Sense) → KeepsSuffix x → Stays (spec.suffixed tables place f x)
suffixed_stays tables place f (suffix.Selector i) g = next_stays (spec.settled tables place f) (spec.selected tables place i.text) (settled_stays tables place f) (selected_stays tables place i.text)
suffixed_stays tables place f (suffix.All s) g = next_stays (spec.settled tables place f) (spec.all_of tables place) (settled_stays tables place f) (all_of_stays tables place)
suffixed_stays tables place f (suffix.Arguments s x more) g = with_arguments_stays tables place f x more g.0 g.1
suffixed_stays tables place f (suffix.Attribute s a) g = attributed_stays place a f

suffixes_stay : (tables : Tables) (place : Span) (xs : List (Suffix Sense)) (f : Found) → All KeepsSuffix xs → Stays (spec.suffixes tables place xs f)
suffixes_stay tables place [] f g = known_stays f
suffixes_stay tables place (x ∷ xs) f g = next_stays (spec.suffixed tables place f x) (spec.suffixes tables place xs) (suffixed_stays tables place f x g.0) (λ q. suffixes_stay tables place xs q g.1)

pub found_stays : (u : Use) (xs : List (Suffix Sense)) (tables : Tables) → All KeepsSuffix xs → Stays (spec.found u xs tables)
found_stays u xs tables g = next_stays (spec.first_found tables u) (spec.suffixes tables u.span xs) (first_stays tables u) (λ f. suffixes_stay tables u.span xs f g)
