-- Access types as they are declared (3.10, 13.11), and the incomplete types that they may designate (3.10.1).
use Rattle.std.specs.Prelude.{ℕ, ◌+◌, Bool, true, false, if◌then◌else◌, nat_eq, nat_lt, List, [], ◌∷◌, ◌++◌, length, drop, slice_get, Option, Some, None}
use Rattle.ctl_tree.specs.declared.span.Span.{Span}
use Rattle.ctl_tree.specs.declared.fault.FaultCode.{FaultCode}
use Rattle.ctl_tree.specs.declared.fault.FaultCode.TheVariants as rule
use Rattle.ctl_program.specs.declared.types.Ty.{Ty}
use Rattle.ctl_program.specs.declared.types.Ty.TheVariants as ty
use Rattle.ctl_program.specs.declared.types.Root.{Root}
use Rattle.ctl_program.specs.declared.types.Var.{Var}
use Rattle.ctl_program.specs.declared.statement.Item.{Item as Checked_item}
use Rattle.ctl_syntax.specs.declared.denoted.Denoted.{Denoted}
use Rattle.ctl_syntax.specs.declared.denoted.Denoted.TheVariants as denoted
use Rattle.ctl_syntax.specs.declared.denoted.Use.{Use}
use Rattle.ctl_syntax.specs.declared.denoted.Definition.{Definition}
use Rattle.ctl_syntax.specs.declared.item.Coverage.{Coverage}
use Rattle.ctl_syntax.specs.declared.item.Coverage.TheVariants as coverage
use Rattle.ctl_syntax.specs.declared.item.Generality.{Generality}
use Rattle.ctl_syntax.specs.declared.item.Generality.TheVariants as generality
use Rattle.ctl_syntax.specs.declared.item.Taggedness.TheVariants as taggedness
use Rattle.ctl_syntax.specs.declared.name.Mark.{Mark}
use Rattle.ctl_typing.specs.declared.table.Tables.{Tables}
use Rattle.ctl_typing.specs.declared.table.Entry.{Entry}
use Rattle.ctl_typing.specs.declared.table.Entry.TheVariants as entry
use Rattle.ctl_typing.specs.declared.table.AccessEntry.{AccessEntry}
use Rattle.ctl_typing.specs.declared.table.Designated.{Designated}
use Rattle.ctl_typing.specs.declared.table.Designated.TheVariants as designated
use Rattle.ctl_typing.specs.declared.table.Freezing.TheVariants.{Free}
use Rattle.ctl_draft.specs.declared.draft.Draft.{Draft}
use Rattle.ctl_draft.specs.declared.draft.Around.{Around}
use Rattle.ctl_typing.specs.declared.notes.Notes.{Notes}
use Rattle.ctl_typing.specs.Judgement.{Judgement, known, wrong, with_fault, ◌>>=◌}
use Rattle.ctl_typing.specs.Lookup.{root_of, is_mark_root}
use Rattle.ctl_draft.specs.Draft.{by_tables, fault_when, enter, take_slot, next_var}
use Rattle.ctl_draft.specs.Marks.{named_type, no_pool, is_pool_root, pool_named}
use Rattle.ctl_draft.specs.Freezing.{changed_each, with_accesses, with_notes}

-- Incomplete types (3.10.1) --------------------------------------------------------------------------------------

abbrev pub completed_designated : ℕ → Ty → Designated → Designated
completed_designated number t (designated.Awaited n place) = if nat_eq n number then designated.Known t else designated.Awaited n place
completed_designated number t d = d

abbrev pub completed_access : ℕ → Ty → AccessEntry → AccessEntry
completed_access number t a = record a { designated = completed_designated number t a.designated }

-- the access types of the part that wait for this declaration
abbrev pub complete : Around → ℕ → Ty → Draft → Draft
complete around number t d = with_accesses (changed_each (completed_access number t) around.first_access d.tables.states.accesses) d

abbrev pub pool_noted : ℕ → Designated → Notes → Notes
pool_noted number (designated.Awaited n place) notes = if nat_eq n number then with_fault rule.Pool place notes else notes
pool_noted number d notes = notes

abbrev pub pools_noted : ℕ → List AccessEntry → Notes → Notes
pools_noted number [] n = n
pools_noted number (a ∷ as') n = pools_noted number as' (pool_noted number a.designated n)

-- a type of this root completes nothing that an access type of the part designates, where it is a pool (profile)
abbrev pub no_pool_awaited : Around → ℕ → Root → Draft → Draft
no_pool_awaited around number r d =
    with_notes (if is_pool_root r then pools_noted number (drop around.first_access d.tables.states.accesses) d.notes else d.notes) d

-- the type of this number of declaration is known from here on
abbrev pub enter_type : Around → ℕ → Ty → Draft → Draft
enter_type around number t d = complete around number t (enter around number (entry.«Type» t) d)

abbrev pub is_said_tagged : Option Entry → Bool
is_said_tagged (Some (entry.Incomplete taggedness.Tagged)) = true
is_said_tagged e = false

-- a type that was said to be tagged is completed by one that is (3.10.1(4)): this one is not
abbrev pub untagged_kept : Span → ℕ → Draft → Draft
untagged_kept place number d = fault_when (is_said_tagged (slice_get d.tables.entries number)) rule.Type place d

-- Access types (3.10) ------------------------------------------------------------------------------------------------

-- a type that is complete, and no pool
abbrev pub designated_type : Tables → Span → Mark Use → Judgement Designated
designated_type tables place m = named_type tables place m >>= no_pool tables m.first.span >>= (λ t. known (designated.Known t))

abbrev pub designated_entry : Tables → Span → Mark Use → ℕ → Option Entry → Judgement Designated
designated_entry tables place m number (Some (entry.Incomplete t)) = known (designated.Awaited number m.first.span)
designated_entry tables place m number e = designated_type tables place m

abbrev pub designated_denoted : Tables → Span → Mark Use → Denoted → Judgement Designated
designated_denoted tables place m (denoted.Declared number level) = designated_entry tables place m number (slice_get tables.entries number)
designated_denoted tables place m d = designated_type tables place m

-- an access type may designate an incomplete type (3.10.1); a class only once class-wide types are there
abbrev pub designated_named : Span → Mark Use → Coverage → Tables → Judgement Designated
designated_named place m coverage.Specific tables = designated_denoted tables place m m.first.denoted
designated_named place m coverage.ClassWide tables = wrong rule.Type place

abbrev pub is_all : Generality → Bool
is_all generality.General = true
is_all generality.PoolSpecific = false

-- the pool, unless this rule is broken
abbrev pub unless : Bool → FaultCode → Span → Var × ℕ → Judgement (Var × ℕ)
unless b code place p = if b then wrong code place else known p

-- a type with subpools is no deeper than its pool, which is told at its identifier, and not general (13.11.4, profile)
abbrev pub pool_for : Tables → Generality → ℕ → Span → Span → Var × ℕ → Judgement (Var × ℕ)
pool_for tables g level identifier place p =
    if is_mark_root (root_of (slice_get tables.records p.1))
    then (unless (nat_lt p.0.level level) rule.SubpoolLevel identifier p >>= unless (is_all g) rule.Pool place)
    else known p

abbrev pub pool_given : Generality → ℕ → Span → Option (Mark Use) → Tables → Judgement (Var × ℕ)
pool_given g level identifier None tables = λ n. (None, n)
pool_given g level identifier (Some m) tables = pool_named tables m >>= pool_for tables g level identifier m.first.span

abbrev pub or_unclear : Option Designated → Designated
or_unclear None = designated.Unclear
or_unclear (Some t) = t

abbrev pub add_access : Around → ℕ → AccessEntry → Draft → Draft
add_access around number a d =
    take_slot (ty.Access (length d.tables.states.accesses))
    (enter_type around number (ty.Access (length d.tables.states.accesses)) (with_accesses (d.tables.states.accesses ++ a ∷ []) d))

abbrev pub access_entry : Around → Span → Generality → Coverage → Option Designated → Option (Var × ℕ) → Draft → AccessEntry
access_entry around identifier g c t p d =
    record { level = around.level; span = identifier; generality = g; coverage = c; designated = or_unclear t; collection = next_var around d; pool = p; freezing = Free }

abbrev pub enter_access : Around → ℕ → Span → Generality → Coverage → Option Designated → Option (Var × ℕ) × Draft → Draft
enter_access around number identifier g c t (p, d) = add_access around number (access_entry around identifier g c t p d) d

abbrev pub access_with : Around → ℕ → Span → Generality → Coverage → Option (Mark Use) → Option Designated × Draft → Draft
access_with around number identifier g c pool (t, d) = enter_access around number identifier g c t (by_tables (pool_given g around.level identifier pool) d)

-- it takes a slot, for its collection; it is elaborated where that is made
abbrev pub access_type : Span → Definition → Generality → Mark Use → Coverage → Option (Mark Use) → Around → Draft → List Checked_item × Draft
access_type place name g m c pool around d =
    ([], access_with around name.number name.identifier.span g c pool (by_tables (designated_named place m c) (untagged_kept place name.number d)))
