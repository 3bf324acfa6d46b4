-- What the tables say of a type. A record's components and parent stand before it, so a depth as great as the table suffices.
use Rattle.std.specs.Prelude.{ℕ, zero, suc, ◌+◌, List, [], ◌∷◌, ◌++◌, length, Option, Some, None, Bool, true, false, ◌||◌, nat_lt, nat_eq, if◌then◌else◌, slice_get, replicate, is_some}
use Rattle.ctl_program.specs.declared.program.Checked.{Checked}
use Rattle.ctl_program.specs.declared.types.Ty.{Ty}
use Rattle.ctl_program.specs.declared.types.Ty.TheVariants.{Record}
use Rattle.ctl_program.specs.declared.types.Root.{Root}
use Rattle.ctl_program.specs.declared.types.Root.TheVariants.{Untagged}
use Rattle.ctl_program.specs.declared.types.Component.{Component}
use Rattle.ctl_program.specs.declared.types.Operations.{Operations}
use Rattle.ctl_program.specs.declared.types.RecordType.{RecordType}
use Rattle.ctl_program.specs.declared.types.AccessType.{AccessType}
use Rattle.ctl_program.specs.Limits.{scalar_size, tag_size, least_record_size}
use Rattle.ctl_meaning.specs.Lists.{any_of}

-- the tables of types of a checked program
pub record Tables : Type 0 where
  pub records : List RecordType
  pub accesses : List AccessType

unfoldable pub tables_of : Checked → Tables
tables_of p = record { records = p.records; accesses = p.accesses }

-- Categories (3.2) -----------------------------------------------------------

-- the category of a type: composite are records, elementary all others
pub data Category : Type 0 where
  Elementary Composite : Category

unfoldable pub category_of : Ty → Category
category_of (Record t) = Composite
category_of _ = Elementary

-- Components -----------------------------------------------------------------

unfoldable pub of_parent : {A : Type 0} → A → (ℕ → A) → Option ℕ → A
of_parent d f None = d
of_parent d f (Some p) = f p

unfoldable pub with_own : (ℕ → List Component) → Option RecordType → List Component
with_own inherited None = []
with_own inherited (Some r) = of_parent [] inherited r.parent ++ r.own

-- inherited components first (3.4, 3.9.1)
unfoldable pub components : ℕ → List RecordType → ℕ → List Component
components zero rs t = []
components (suc n) rs t = with_own (components n rs) (slice_get rs t)

-- what holds of a record type; the first for each other type
unfoldable pub of_record : {A : Type 0} → A → (ℕ → A) → Ty → A
of_record d f (Record t) = f t
of_record d f _ = d

unfoldable pub record_of : Ty → ℕ
record_of ty = of_record 0 (λ t. t) ty

unfoldable pub total : (Ty → ℕ) → List Component → ℕ
total f [] = 0
total f (x ∷ xs) = f x.ty + total f xs

unfoldable pub cells_within : ℕ → List RecordType → ℕ → ℕ
cells_within zero rs t = 0
cells_within (suc n) rs t = total (of_record 1 (cells_within n rs)) (components (suc n) rs t)

unfoldable pub depth : Tables → ℕ
depth k = suc (length k.records)

unfoldable pub components_of : Tables → ℕ → List Component
components_of k t = components (depth k) k.records t

-- how many cells a value has: one for a scalar, those of its components for a record
unfoldable pub cells_of : Tables → Ty → ℕ
cells_of k ty = of_record 1 (cells_within (depth k) k.records) ty

-- the value that an object begins with: 0, False, null (3.3.1; profile: scalars too)
unfoldable pub begin_cells : Tables → Ty → List ℕ
begin_cells k ty = replicate (cells_of k ty) 0

-- a component with its position, from 1, the place of its cells, and whether it has a default expression
pub record Placed : Type 0 where
  pub position : ℕ
  pub offset : ℕ
  pub ty : Ty
  pub defaulted : Bool

unfoldable pub placed_from : Tables → ℕ → ℕ → List Component → List Placed
placed_from k position offset [] = []
placed_from k position offset (x ∷ xs) = (record { position = position; offset = offset; ty = x.ty; defaulted = is_some x.default }) ∷ placed_from k (position + 1) (offset + cells_of k x.ty) xs

unfoldable pub placed : Tables → ℕ → List Placed
placed k t = placed_from k 1 0 (components_of k t)

-- the offset of the component at a position
unfoldable pub offset_in : ℕ → List Placed → ℕ
offset_in position [] = 0
offset_in position (x ∷ xs) = if nat_eq position x.position then x.offset else offset_in position xs

-- Kinds ------------------------------------------------------------------------

unfoldable pub root_in : Option RecordType → Root
root_in None = Untagged
root_in (Some r) = r.root

unfoldable pub is_tagged_root : Root → Bool
is_tagged_root Untagged = false
is_tagged_root _ = true

unfoldable pub root_of : Tables → ℕ → Root
root_of k t = root_in (slice_get k.records t)

-- each tagged type of the language is controlled (7.6): it descends from Controlled, Limited_Controlled or a storage pool
unfoldable pub is_controlled : Tables → ℕ → Bool
is_controlled k t = is_tagged_root (root_of k t)

unfoldable pub controlled_within : ℕ → List RecordType → ℕ → Bool
controlled_within zero rs t = false
controlled_within (suc n) rs t = is_tagged_root (root_in (slice_get rs t)) || any_of (λ x. of_record false (controlled_within n rs) x.ty) (components (suc n) rs t)

-- controlled, or with a controlled part
unfoldable pub has_controlled : Tables → Ty → Bool
has_controlled k ty = of_record false (controlled_within (depth k) k.records) ty

unfoldable pub default_within : ℕ → List RecordType → ℕ → Bool
default_within zero rs t = false
default_within (suc n) rs t = any_of (λ x. is_some x.default || of_record false (default_within n rs) x.ty) (components (suc n) rs t)

-- with a component that has a default expression, at any depth
unfoldable pub has_default : Tables → Ty → Bool
has_default k ty = of_record false (default_within (depth k) k.records) ty

-- what default initialization chooses among: components with a default expression, or with a controlled part or such a component inside (7.6)
unfoldable pub is_initialized : Tables → Placed → Bool
is_initialized k x = x.defaulted || has_controlled k x.ty || has_default k x.ty

-- t is u, or descends from it
unfoldable pub parent_in : Option RecordType → Option ℕ
parent_in None = None
parent_in (Some r) = r.parent

unfoldable pub descends_within : ℕ → List RecordType → ℕ → ℕ → Bool
descends_within zero rs u t = false
descends_within (suc n) rs u t = nat_eq t u || of_parent false (descends_within n rs u) (parent_in (slice_get rs t))

unfoldable pub descends : Tables → ℕ → ℕ → Bool
descends k u t = descends_within (depth k) k.records u t

-- Sizes ------------------------------------------------------------------------

unfoldable pub as_record_size : ℕ → ℕ
as_record_size n = if nat_lt n least_record_size then least_record_size else n

unfoldable pub size_within : ℕ → List RecordType → ℕ → ℕ
size_within zero rs t = least_record_size
size_within (suc n) rs t = as_record_size (total (of_record scalar_size (size_within n rs)) (components (suc n) rs t) + (if is_tagged_root (root_in (slice_get rs t)) then tag_size else 0))

-- in storage units (13.3; profile): for a record its components and its tag, and no less than the least
unfoldable pub size_of : Tables → Ty → ℕ
size_of k ty = of_record scalar_size (size_within (depth k) k.records) ty

-- Operations -------------------------------------------------------------------

unfoldable pub operation_in : (Operations → Option ℕ) → Option RecordType → Option ℕ
operation_in f None = None
operation_in f (Some r) = f r.operations

-- an operation of a type that the user wrote, its own or inherited; none where it is the library's, which does nothing
unfoldable pub operation : (Operations → Option ℕ) → Tables → ℕ → Option ℕ
operation f k t = operation_in f (slice_get k.records t)

-- an operation of an object's own type, and what that descends from: an object of an elementary type has none, and descends from nothing
unfoldable pub operation_for : (Operations → Option ℕ) → Tables → Ty → Option ℕ
operation_for f k ty = of_record None (operation f k) ty

unfoldable pub root_for : Tables → Ty → Root
root_for k ty = of_record Untagged (root_of k) ty

-- everything here, opened at once
unfoldable pub opened_types : Unit {0}
unfolding tables_of category_of of_parent with_own components of_record record_of total cells_within depth components_of cells_of begin_cells placed_from placed offset_in root_in is_tagged_root root_of is_controlled controlled_within has_controlled default_within has_default is_initialized parent_in descends_within descends as_record_size size_within size_of operation_in operation operation_for root_for
opened_types = tt
