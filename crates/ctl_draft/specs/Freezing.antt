-- When types are frozen, and what an object that stands too early calls (13.14, 3.11).
use Rattle.std.specs.Prelude.{ℕ, zero, suc, ◌+◌, ◌-◌, ◌^◌, max, Bool, true, false, ◌&&◌, ◌||◌, if◌then◌else◌, nat_eq, nat_le, List, [], ◌∷◌, ◌++◌, length, drop, slice_get, slice_set, Option, Some, None}
use Rattle.ctl_tree.specs.declared.fault.FaultCode.TheVariants as rule
use Rattle.ctl_program.specs.declared.types.Ty.{Ty}
use Rattle.ctl_program.specs.declared.types.Ty.TheVariants as ty
use Rattle.ctl_program.specs.declared.types.Var.{Var}
use Rattle.ctl_program.specs.declared.types.Operations.{Operations}
use Rattle.ctl_program.specs.declared.statement.Item.{Item as Checked_item}
use Rattle.ctl_program.specs.declared.statement.Item.TheVariants as made
use Rattle.ctl_typing.specs.declared.notes.Notes.{Notes}
use Rattle.ctl_typing.specs.declared.notes.Deed.{Deed}
use Rattle.ctl_typing.specs.declared.notes.Deed.TheVariants.{Freezes, Creates, Initializes, Allocates, Calls}
use Rattle.ctl_typing.specs.declared.table.States.{States}
use Rattle.ctl_typing.specs.declared.table.RecordEntry.{RecordEntry}
use Rattle.ctl_typing.specs.declared.table.RecordState.{RecordState}
use Rattle.ctl_typing.specs.declared.table.ComponentEntry.{ComponentEntry}
use Rattle.ctl_typing.specs.declared.table.Beginning.{Beginning}
use Rattle.ctl_typing.specs.declared.table.Beginning.TheVariants as beginning
use Rattle.ctl_typing.specs.declared.table.AccessEntry.{AccessEntry}
use Rattle.ctl_typing.specs.declared.table.Freezing.{Freezing}
use Rattle.ctl_typing.specs.declared.table.Freezing.TheVariants.{Free, Frozen, Placed}
use Rattle.ctl_typing.specs.declared.table.Defaults.{Defaults}
use Rattle.ctl_typing.specs.declared.table.Defaults.TheVariants.{Unused, Used}
use Rattle.ctl_draft.specs.declared.draft.Draft.{Draft}
use Rattle.ctl_draft.specs.declared.draft.Waiting.{Waiting}
use Rattle.ctl_draft.specs.declared.draft.Around.{Around}
use Rattle.ctl_typing.specs.Judgement.{with_early}

-- One more type --------------------------------------------------------------------

abbrev pub changed_from : {A : Type 0} → (A → A) → Option A → ℕ → List A → List A
changed_from f None n xs = xs
changed_from f (Some x) n xs = slice_set xs n (f x)

-- the one of this number is changed, if there is one
abbrev pub changed : {A : Type 0} → (A → A) → ℕ → List A → List A
changed f n xs = changed_from f (slice_get xs n) n xs

abbrev pub frozen_record : RecordState → RecordState
frozen_record s = record s { freezing = Frozen }

abbrev pub initialized_record : RecordState → RecordState
initialized_record s = record s { defaults = Used }

abbrev pub frozen_from : Freezing → Freezing
frozen_from Free = Frozen
frozen_from f = f

abbrev pub frozen_access : AccessEntry → AccessEntry
frozen_access a = record a { freezing = frozen_from a.freezing }

abbrev pub freeze : Ty → States → States
freeze (ty.Record t) states = record states { records = changed frozen_record t states.records }
freeze (ty.Access a) states = record states { accesses = changed frozen_access a states.accesses }
freeze t states = states

-- an object of the type begins with its defaults
abbrev pub initialize : Ty → States → States
initialize (ty.Record t) states = record states { records = changed initialized_record t states.records }
initialize t states = states

abbrev pub do_deed : Deed → States → States
do_deed (Freezes t) states = freeze t states
do_deed (Initializes t) states = initialize t states
do_deed d states = states

-- What follows from it ----------------------------------------------------------------

abbrev pub parent_frozen : Option ℕ → List Deed
parent_frozen None = []
parent_frozen (Some t) = Freezes (ty.Record t) ∷ []

abbrev pub components_frozen : List ComponentEntry → List Deed
components_frozen [] = []
components_frozen (c ∷ cs) = Freezes c.ty ∷ components_frozen cs

-- a record type freezes its parent, and the types of its components (13.14(15)); an access type freezes nothing
abbrev pub frozen_with : RecordEntry → List Deed
frozen_with r = parent_frozen r.parent ++ components_frozen r.own

abbrev pub parent_initialized : Option ℕ → List Deed
parent_initialized None = []
parent_initialized (Some t) = Initializes (ty.Record t) ∷ []

abbrev pub component_initialized : Ty → Beginning → List Deed
component_initialized t beginning.Default = Initializes t ∷ []
component_initialized t beginning.Value = []

abbrev pub components_initialized : List ComponentEntry → List Deed
components_initialized [] = []
components_initialized (c ∷ cs) = component_initialized c.ty c.beginning ++ components_initialized cs

-- where the defaults of a record are used, so are those of its parent and its components, and their expressions do what they do
abbrev pub initialized_with : RecordEntry → List Deed
initialized_with r = (parent_initialized r.parent ++ components_initialized r.own) ++ r.deeds

abbrev pub following_from : (RecordEntry → List Deed) → Option RecordEntry → List Deed
following_from f None = []
following_from f (Some r) = f r

-- what follows from a deed
abbrev pub following : List RecordEntry → Deed → List Deed
following rs (Freezes (ty.Record t)) = following_from frozen_with (slice_get rs t)
following rs (Initializes (ty.Record t)) = following_from initialized_with (slice_get rs t)
following rs d = []

-- The place of collections ---------------------------------------------------------------

abbrev pub is_frozen : Freezing → Bool
is_frozen Frozen = true
is_frozen f = false

-- the access types of this level that are frozen, and have no place yet, from this number on
abbrev pub unplaced : ℕ → ℕ → List AccessEntry → List ℕ
unplaced level n [] = []
unplaced level n (a ∷ as') = if is_frozen a.freezing && nat_eq a.level level then n ∷ unplaced level (n + 1) as' else unplaced level (n + 1) as'

abbrev pub placed_from : Freezing → Freezing
placed_from Frozen = Placed
placed_from f = f

abbrev pub placed_access : AccessEntry → AccessEntry
placed_access a = record a { freezing = placed_from a.freezing }

-- each from this number on is changed
abbrev pub changed_each : {A : Type 0} → (A → A) → ℕ → List A → List A
changed_each f n [] = []
changed_each f zero (x ∷ xs) = f x ∷ changed_each f zero xs
changed_each f (suc n) (x ∷ xs) = x ∷ changed_each f n xs

abbrev pub layer : List ℕ → List Checked_item
layer [] = []
layer (a ∷ as') = made.Collections (a ∷ as') ∷ []

abbrev pub with_states : States → Draft → Draft
with_states states d = record d { tables = record d.tables { states = states } }

abbrev pub with_records : List RecordState → Draft → Draft
with_records rs d = with_states (record d.tables.states { records = rs }) d

abbrev pub with_accesses : List AccessEntry → Draft → Draft
with_accesses as' d = with_states (record d.tables.states { accesses = as' }) d

-- the collections of the access types of a part that have none yet are one layer, in the order of the types (7.6.1(11), profile)
abbrev pub placed : Around → Draft → List Checked_item × Draft
placed around d = (
  layer (unplaced around.level around.first_access (drop around.first_access d.tables.states.accesses)),
  with_accesses (changed_each placed_access around.first_access d.tables.states.accesses) d,
)

-- What a construct freezes ---------------------------------------------------------------

abbrev pub is_free : Option Freezing → Bool
is_free (Some Free) = true
is_free f = false

abbrev pub freezing_of : Option RecordState → Option Freezing
freezing_of None = None
freezing_of (Some s) = Some s.freezing

abbrev pub access_freezing_of : Option AccessEntry → Option Freezing
access_freezing_of None = None
access_freezing_of (Some a) = Some a.freezing

-- whether a type is not frozen
abbrev pub is_free_type : States → Ty → Bool
is_free_type states (ty.Record t) = is_free (freezing_of (slice_get states.records t))
is_free_type states (ty.Access a) = is_free (access_freezing_of (slice_get states.accesses a))
is_free_type states t = false

abbrev pub is_unused : Option RecordState → Bool
is_unused None = false
is_unused (Some s) = unused s.defaults
  where
    unused : Defaults → Bool
    unused Unused = true
    unused Used = false

-- whether something is done for the first time
abbrev pub is_new : States → Deed → Bool
is_new states (Freezes t) = is_free_type states t
is_new states (Initializes (ty.Record t)) = is_unused (slice_get states.records t)
is_new states d = false

abbrev pub are_new : States → List Deed → Bool
are_new states [] = false
are_new states (d ∷ ds) = is_new states d || are_new states ds

-- what a deed adds where it is new, and what it does then
abbrev pub added : List RecordEntry → Bool → Deed → List Deed
added rs true d = following rs d
added rs false d = []

abbrev pub done_if : Bool → Deed → States → States
done_if true d states = do_deed d states
done_if false d states = states

-- so many of these deeds are done in turn, each that is new, and what follows from it behind the others
abbrev pub done_in_turn : List RecordEntry → ℕ → List Deed → States → States
done_in_turn rs zero ds states = states
done_in_turn rs (suc n) [] states = states
done_in_turn rs (suc n) (d ∷ ds) states = done_in_turn rs n (ds ++ added rs (is_new states d) d) (done_if (is_new states d) d states)

-- these deeds are done, with all that follows: a text has fewer than are counted
abbrev pub all_done : List RecordEntry → List Deed → States → States
all_done rs ds states = done_in_turn rs (2 ^ 64 - 1) ds states

-- what a construct does, with all that follows; the collections of the types that it freezes stand before it (13.14)
abbrev pub done_by : Around → List Deed → Draft → List Checked_item × Draft
done_by around ds d =
    if are_new d.tables.states ds then placed around (with_states (all_done d.tables.records ds d.tables.states) d) else ([], d)

-- a body, and the end of a part, freeze all types of the part (13.14(3)); those of the parts around are frozen
abbrev pub all_frozen : Around → States → States
all_frozen around states =
    record { records = changed_each frozen_record around.first_record states.records; accesses = changed_each frozen_access around.first_access states.accesses }

abbrev pub freeze_all : Around → Draft → List Checked_item × Draft
freeze_all around d = placed around (with_states (all_frozen around d.tables.states) d)

-- Objects that stand too early ---------------------------------------------------------------

-- of two subprograms that may be called, the one that is declared later
abbrev pub later : Option ℕ → Option ℕ → Option ℕ
later None b = b
later (Some s) None = Some s
later (Some s) (Some t) = Some (max s t)

abbrev pub called_by_state : Option RecordState → Option ℕ
called_by_state None = None
called_by_state (Some s) = s.called

-- the last subprogram that the creation of an object of this type calls, or its finalization
abbrev pub called_by_type : List RecordState → Ty → Option ℕ
called_by_type rs (ty.Record t) = called_by_state (slice_get rs t)
called_by_type rs t = None

abbrev pub allocating : Option RecordState → Option ℕ
allocating None = None
allocating (Some s) = s.operations.allocate

abbrev pub pool_allocating : List RecordState → Option (Var × ℕ) → Option ℕ
pool_allocating rs None = None
pool_allocating rs (Some p) = allocating (slice_get rs p.1)

abbrev pub called_by_access : List RecordState → Option AccessEntry → Option ℕ
called_by_access rs None = None
called_by_access rs (Some a) = pool_allocating rs a.pool

abbrev pub called_by : States → Deed → Option ℕ
called_by states (Calls s) = Some s
called_by states (Creates t) = called_by_type states.records t
called_by states (Allocates a) = called_by_access states.records (slice_get states.accesses a)
called_by states d = None

-- the last one so far, and that of these deeds
abbrev pub called_by_deeds : States → Option ℕ → List Deed → Option ℕ
called_by_deeds states last [] = last
called_by_deeds states last (d ∷ ds) = called_by_deeds states (later last (called_by states d)) ds

abbrev pub called_by_components : List RecordState → Option ℕ → List ComponentEntry → Option ℕ
called_by_components rs last [] = last
called_by_components rs last (c ∷ cs) = called_by_components rs (later last (called_by_type rs c.ty)) cs

abbrev pub called_by_parent : List RecordState → Option ℕ → Option ℕ
called_by_parent rs None = None
called_by_parent rs (Some t) = called_by_type rs (ty.Record t)

-- Allocate and Deallocate are no part of it
abbrev pub called_by_operations : Operations → Option ℕ
called_by_operations o = later o.initialize (later o.adjust o.finalize)

-- its parent, its own operations, its components and its defaults (7.6)
abbrev pub called_of : States → RecordEntry → RecordState → Option ℕ
called_of states r s = called_by_deeds states (called_by_components states.records (later (called_by_parent states.records r.parent) (called_by_operations s.operations)) r.own) r.deeds

abbrev pub counted_from : ℕ → Option RecordEntry → Option RecordState → States → States
counted_from t (Some r) (Some s) states = record states { records = slice_set states.records t (record s { called = called_of states r s }) }
counted_from t r s states = states

abbrev pub counted : List RecordEntry → ℕ → States → States
counted rs t states = counted_from t (slice_get rs t) (slice_get states.records t) states

-- of so many from this one on
abbrev pub counted_up : List RecordEntry → ℕ → ℕ → States → States
counted_up rs zero t states = states
counted_up rs (suc n) t states = counted_up rs n (suc t) (counted rs t states)

abbrev pub all_counted : Around → List RecordEntry → States → States
all_counted around rs states = counted_up rs (length rs - around.first_record) around.first_record states

-- whether the subprogram is one of the part
abbrev pub is_of_part : Around → Option ℕ → Bool
is_of_part around None = false
is_of_part around (Some s) = nat_le around.first_subprogram s

abbrev pub is_early : Around → States → Waiting → Bool
is_early around states w = is_of_part around (called_by_deeds states (called_by_type states.records w.ty) w.deeds)

abbrev pub early_notes : Around → States → List Waiting → Notes → Notes
early_notes around states [] n = n
early_notes around states (w ∷ ws) n = early_notes around states ws (if is_early around states w then with_early rule.Elab w.span n else n)

abbrev pub with_notes : Notes → Draft → Draft
with_notes n d = record d { notes = n }

-- at the end of a part, with so many that wait around it: which of its objects stand too early
abbrev pub early_in : Around → ℕ → Draft → Draft
early_in around waiting d = with_notes (early_notes around d.tables.states (drop waiting d.waiting) d.notes) d

abbrev pub end_of_part : Around → ℕ → Draft → Draft
end_of_part around waiting d = early_in around waiting (with_states (all_counted around d.tables.records d.tables.states) d)
