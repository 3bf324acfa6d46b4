-- What the tables say of types.
use Rattle.std.specs.Prelude.{ℕ, zero, suc, Bool, true, false, ◌&&◌, ◌||◌, if◌then◌else◌, nat_eq, List, [], ◌∷◌, length, slice_get, Option, Some, None}
use Rattle.ctl_grammar.specs.Spelling.{same_name}
use Rattle.ctl_program.specs.declared.types.Ty.{Ty}
use Rattle.ctl_program.specs.declared.types.Ty.TheVariants as ty
use Rattle.ctl_program.specs.declared.types.Var.{Var}
use Rattle.ctl_program.specs.declared.types.Root.{Root}
use Rattle.ctl_program.specs.declared.types.Root.TheVariants as root
use Rattle.ctl_syntax.specs.declared.item.Limitation.{Limitation}
use Rattle.ctl_syntax.specs.declared.item.Limitation.TheVariants as limitation
use Rattle.ctl_syntax.specs.declared.item.Generality.{Generality}
use Rattle.ctl_syntax.specs.declared.item.Generality.TheVariants as generality
use Rattle.ctl_typing.specs.declared.table.Tables.{Tables}
use Rattle.ctl_typing.specs.declared.table.RecordEntry.{RecordEntry}
use Rattle.ctl_typing.specs.declared.table.ComponentEntry.{ComponentEntry}
use Rattle.ctl_typing.specs.declared.table.AccessEntry.{AccessEntry}
use Rattle.ctl_typing.specs.declared.table.Designated.{Designated}
use Rattle.ctl_typing.specs.declared.table.Designated.TheVariants as designated

-- Types ------------------------------------------------------------------------

abbrev pub same : Ty → Ty → Bool
same ty.Integer ty.Integer = true
same ty.Count ty.Count = true
same ty.Boolean ty.Boolean = true
same ty.Address ty.Address = true
same ty.Handle ty.Handle = true
same (ty.Access a) (ty.Access b) = nat_eq a b
same (ty.Record a) (ty.Record b) = nat_eq a b
same _ _ = false

-- of a number (3.5.4, 13.7.1)
abbrev pub is_numeric : Ty → Bool
is_numeric ty.Integer = true
is_numeric ty.Count = true
is_numeric _ = false

-- what an order is defined on: numbers and Booleans (4.5.2, profile)
abbrev pub is_ordered : Ty → Bool
is_ordered ty.Boolean = true
is_ordered t = is_numeric t

-- what equality is defined on: all but records (4.5.2, profile)
abbrev pub is_comparable : Ty → Bool
is_comparable (ty.Record t) = false
is_comparable _ = true

abbrev pub is_record : Ty → Bool
is_record (ty.Record t) = true
is_record _ = false

-- Records ----------------------------------------------------------------------

-- the component of this name among these, by its position, and its type
abbrev pub component_among : List ℕ → List ComponentEntry → Option (ℕ × Ty)
component_among name [] = None
component_among name (c ∷ cs) = if same_name name c.name then Some (c.position, c.ty) else component_among name cs

abbrev pub or_else : {A : Type 0} → Option A → Option A → Option A
or_else (Some a) b = Some a
or_else None b = b

abbrev pub on : {A B : Type 0} → (A → Option B) → Option A → Option B
on f None = None
on f (Some a) = f a

-- its own, or an inherited one; inherited ones have the first positions (3.4, 3.9.1)
abbrev pub component_in : (ℕ → Option (ℕ × Ty)) → List ℕ → RecordEntry → Option (ℕ × Ty)
component_in inherited name r = or_else (component_among name r.own) (on inherited r.parent)

abbrev pub component_within : ℕ → List RecordEntry → List ℕ → ℕ → Option (ℕ × Ty)
component_within zero rs name t = None
component_within (suc n) rs name t = on (component_in (component_within n rs name) name) (slice_get rs t)

-- the component of this name that a record type has: its position, from 1, and its type. A parent stands before its extensions
abbrev pub component_of : Tables → List ℕ → ℕ → Option (ℕ × Ty)
component_of tables name t = component_within (length tables.records) tables.records name t

abbrev pub is_parent : (ℕ → Bool) → Option RecordEntry → Bool
is_parent f None = false
is_parent f (Some r) = holds f r.parent
  where
    holds : (ℕ → Bool) → Option ℕ → Bool
    holds f None = false
    holds f (Some t) = f t

abbrev pub descends_within : ℕ → List RecordEntry → ℕ → ℕ → Bool
descends_within zero rs u t = nat_eq t u
descends_within (suc n) rs u t = nat_eq t u || is_parent (descends_within n rs u) (slice_get rs t)

-- t is u, or descends from it (3.4.1)
abbrev pub descends : Tables → ℕ → ℕ → Bool
descends tables u t = descends_within (length tables.records) tables.records u t

abbrev pub root_of : Option RecordEntry → Root
root_of None = root.Untagged
root_of (Some r) = r.root

abbrev pub says_limited : Limitation → Bool
says_limited limitation.Limited = true
says_limited limitation.Nonlimited = false

abbrev pub limited_in : Option RecordEntry → Bool
limited_in None = false
limited_in (Some r) = says_limited r.limitation

-- whether values of a type cannot be copied (7.5)
abbrev pub is_limited : Tables → Ty → Bool
is_limited tables (ty.Record t) = limited_in (slice_get tables.records t)
is_limited tables t = false

-- Access types -------------------------------------------------------------------

abbrev pub designated_in : AccessEntry → Option Ty
designated_in a = known_type a.designated
  where
    known_type : Designated → Option Ty
    known_type (designated.Known t) = Some t
    known_type designated.Unclear = None
    known_type (designated.Awaited n place) = None

-- the type that the values of an access type designate (3.10)
abbrev pub designated_by : Tables → ℕ → Option Ty
designated_by tables a = on designated_in (slice_get tables.states.accesses a)

abbrev pub is_general : Option AccessEntry → Bool
is_general None = false
is_general (Some a) = says_all a.generality
  where
    says_all : Generality → Bool
    says_all generality.General = true
    says_all generality.PoolSpecific = false

abbrev pub is_mark_root : Root → Bool
is_mark_root root.MarkPool = true
is_mark_root r = false

-- whether a pool is one with subpools (13.11.4)
abbrev pub is_mark_pool : Tables → Option (Var × ℕ) → Bool
is_mark_pool tables None = false
is_mark_pool tables (Some p) = is_mark_root (root_of (slice_get tables.records p.1))

-- whether the objects of an access type stand in subpools
abbrev pub has_subpools : Tables → Option AccessEntry → Bool
has_subpools tables None = false
has_subpools tables (Some a) = is_mark_pool tables a.pool

-- the number of masters around the declaration of an access type (3.10.2)
abbrev pub level_of_access : Option AccessEntry → ℕ
level_of_access None = 0
level_of_access (Some a) = a.level

abbrev pub level_of : Tables → Ty → ℕ
level_of tables (ty.Access b) = level_of_access (slice_get tables.states.accesses b)
level_of tables t = 0

abbrev pub designate_same : Option Ty → Option Ty → Bool
designate_same (Some s) (Some t) = same s t
designate_same _ _ = false

-- whether a type converts to an access type: it is that type, or one to the same designated type where that one is general (4.6)
abbrev pub is_convertible : Tables → ℕ → Ty → Bool
is_convertible tables a (ty.Access b) = nat_eq a b || (is_general (slice_get tables.states.accesses a) && designate_same (designated_by tables a) (designated_by tables b))
is_convertible tables a t = false
