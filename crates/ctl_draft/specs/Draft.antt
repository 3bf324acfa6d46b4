-- How the program grows that was checked so far.
use Rattle.std.specs.Prelude.{ℕ, Bool, ◌&&◌, if◌then◌else◌, nat_le, nat_lt, List, [], ◌∷◌, ◌++◌, length, take, slice_set, Option, Some, None}
use Rattle.ctl_tree.specs.declared.span.Span.{Span}
use Rattle.ctl_tree.specs.declared.fault.FaultCode.{FaultCode}
use Rattle.ctl_program.specs.declared.types.Ty.{Ty}
use Rattle.ctl_program.specs.declared.types.Var.{Var}
use Rattle.ctl_syntax.specs.declared.item.Aliasing.{Aliasing}
use Rattle.ctl_typing.specs.declared.notes.Deed.{Deed}
use Rattle.ctl_typing.specs.declared.notes.Notes.{Notes}
use Rattle.ctl_typing.specs.declared.table.Tables.{Tables}
use Rattle.ctl_typing.specs.declared.table.Entry.{Entry}
use Rattle.ctl_typing.specs.declared.table.Entry.TheVariants as entry
use Rattle.ctl_typing.specs.declared.table.ObjectEntry.{ObjectEntry}
use Rattle.ctl_typing.specs.declared.table.Standing.{Standing}
use Rattle.ctl_typing.specs.declared.table.Mutability.{Mutability}
use Rattle.ctl_draft.specs.declared.draft.Draft.{Draft}
use Rattle.ctl_draft.specs.declared.draft.Around.{Around}
use Rattle.ctl_typing.specs.Judgement.{Judging, Judgement, wrong, with_early, with_fault}

-- what a statement or an item is, after the program so far
abbrev pub Doing : Type 0 → Type 0
Doing A = Judging Draft A

-- Judging by the tables --------------------------------------------------------

abbrev pub noted : {A : Type 0} → Draft → Option A × Notes → Option A × Draft
noted d (a, n) = (a, record d { notes = n })

-- what is judged by the tables alone
abbrev pub by_tables : {A : Type 0} → (Tables → Judgement A) → Doing A
by_tables p d = noted d (p d.tables d.notes)

-- a rule is broken, and nothing is known
abbrev pub broken : {A : Type 0} → FaultCode → Span → Doing A
broken code place d = noted d (wrong code place d.notes)

-- a rule on names, order or completion is broken, where this holds
abbrev pub early_when : Bool → FaultCode → Span → Draft → Draft
early_when b code place d = if b then record d { notes = with_early code place d.notes } else d

-- a rule on types is broken, where this holds
abbrev pub fault_when : Bool → FaultCode → Span → Draft → Draft
fault_when b code place d = if b then record d { notes = with_fault code place d.notes } else d

-- Deeds ------------------------------------------------------------------------

-- from here on, what expressions do is asked for
abbrev pub asking : Draft → Draft
asking d = record d { notes = record d.notes { deeds = Some [] } }

abbrev pub deeds_in : Option (List Deed) → List Deed
deeds_in None = []
deeds_in (Some ds) = ds

-- what the expressions did since then
abbrev pub deeds_of : Draft → List Deed
deeds_of d = deeds_in d.notes.deeds

-- no more is asked for
abbrev pub asked : Draft → Draft
asked d = record d { notes = record d.notes { deeds = None } }

-- Declarations in view -----------------------------------------------------------

abbrev pub with_entries : List Entry → Draft → Draft
with_entries es d = record d { tables = record d.tables { entries = es } }

-- one more declaration
abbrev pub declare : Entry → Draft → Draft
declare e d = with_entries (d.tables.entries ++ e ∷ []) d

-- whether the part around has a declaration of this number
abbrev pub is_declared_in : Around → ℕ → Draft → Bool
is_declared_in around number d = nat_le around.start number && nat_lt number (length d.tables.entries)

-- a declaration of this number: a new one, or what completes one of the part (3.11.1)
abbrev pub enter : Around → ℕ → Entry → Draft → Draft
enter around number e d = if is_declared_in around number d then with_entries (slice_set d.tables.entries number e) d else declare e d

-- only the first declarations stay in view
abbrev pub leave_view : ℕ → Draft → Draft
leave_view count d = with_entries (take count d.tables.entries) d

-- Slots ----------------------------------------------------------------------------

-- the next slot of the master around
abbrev pub next_var : Around → Draft → Var
next_var around d = record { level = around.level; slot = length d.slots }

-- it holds a value of this type
abbrev pub take_slot : Ty → Draft → Draft
take_slot t d = record d { slots = d.slots ++ t ∷ [] }

-- an object that takes the next slot
abbrev pub next_object : Around → Ty → Standing → Mutability → Aliasing → Draft → ObjectEntry
next_object around t s m a d = record { ty = t; var = next_var around d; standing = s; mutability = m; aliasing = a }

-- one more object is in view
abbrev pub declare_object : Around → Ty → Standing → Mutability → Aliasing → Draft → Draft
declare_object around t s m a d = take_slot t (declare (entry.Object (next_object around t s m a d)) d)

-- Texts ------------------------------------------------------------------------------

-- nothing else changes
abbrev pub doing : {A : Type 0} → (Draft → Draft) → A → Doing A
doing f a d = (Some a, f d)
