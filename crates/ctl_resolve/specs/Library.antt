-- The library units, and what they declare (A.1, 10.1.1).
use Rattle.std.specs.Prelude.{ℕ, ◌==◌, Bool, List, [], ◌∷◌, Option, Some, None, codes}
use Rattle.std.specs.List.{find, list_any}
use Rattle.ctl_grammar.specs.Spelling.{same_name}
use Rattle.ctl_syntax.specs.declared.denoted.LibraryName.{LibraryName}
use Rattle.ctl_syntax.specs.declared.denoted.LibraryName.TheVariants as name
use Rattle.ctl_syntax.specs.declared.denoted.OperationName.{OperationName}
use Rattle.ctl_syntax.specs.declared.denoted.OperationName.TheVariants as operation
use Rattle.ctl_resolve.specs.declared.library.Unit.{Unit as LibraryUnit}
use Rattle.ctl_resolve.specs.declared.library.Unit.TheVariants as unit

-- How they are spelled, in lower case ------------------------------------------------------------

abbrev pub unit_spelling : LibraryUnit → List ℕ
unit_spelling unit.Ada = codes "ada"
unit_spelling unit.TextIo = codes "text_io"
unit_spelling unit.Finalization = codes "finalization"
unit_spelling unit.UncheckedDeallocation = codes "unchecked_deallocation"
unit_spelling unit.UncheckedDeallocateSubpool = codes "unchecked_deallocate_subpool"
unit_spelling unit.System = codes "system"
unit_spelling unit.StorageElements = codes "storage_elements"
unit_spelling unit.StoragePools = codes "storage_pools"
unit_spelling unit.Subpools = codes "subpools"
unit_spelling unit.BlockPools = codes "block_pools"
unit_spelling unit.MarkReleasePools = codes "mr_pools"

-- what is no name in a package is spelled as its unit
abbrev pub name_spelling : LibraryName → List ℕ
name_spelling name.Integer = codes "integer"
name_spelling name.Boolean = codes "boolean"
name_spelling name.True = codes "true"
name_spelling name.False = codes "false"
name_spelling name.ConstraintError = codes "constraint_error"
name_spelling name.ProgramError = codes "program_error"
name_spelling name.StorageError = codes "storage_error"
name_spelling name.Put = codes "put"
name_spelling name.PutLine = codes "put_line"
name_spelling name.NewLine = codes "new_line"
name_spelling name.Controlled = codes "controlled"
name_spelling name.LimitedControlled = codes "limited_controlled"
name_spelling name.Address = codes "address"
name_spelling name.NullAddress = codes "null_address"
name_spelling name.StorageCount = codes "storage_count"
name_spelling name.RootStoragePool = codes "root_storage_pool"
name_spelling name.SubpoolHandle = codes "subpool_handle"
name_spelling name.BlockPool = codes "block_pool"
name_spelling name.MarkReleasePool = codes "mark_release_pool"
name_spelling name.Mark = codes "mark"
name_spelling name.DefaultSubpool = codes "default_subpool_for_pool"
name_spelling name.UncheckedDeallocation = codes "unchecked_deallocation"
name_spelling name.UncheckedDeallocateSubpool = codes "unchecked_deallocate_subpool"
name_spelling name.Package = []

abbrev pub operation_spelling : OperationName → List ℕ
operation_spelling operation.Initialize = codes "initialize"
operation_spelling operation.Adjust = codes "adjust"
operation_spelling operation.Finalize = codes "finalize"
operation_spelling operation.Allocate = codes "allocate"
operation_spelling operation.Deallocate = codes "deallocate"

-- What declares what ------------------------------------------------------------------------------

-- the units that are no child of another
abbrev pub roots : List LibraryUnit
roots = unit.Ada ∷ unit.System ∷ unit.BlockPools ∷ unit.MarkReleasePools ∷ []

abbrev pub children : LibraryUnit → List LibraryUnit
children unit.Ada = unit.TextIo ∷ unit.Finalization ∷ unit.UncheckedDeallocation ∷ unit.UncheckedDeallocateSubpool ∷ []
children unit.System = unit.StorageElements ∷ unit.StoragePools ∷ []
children unit.StoragePools = unit.Subpools ∷ []
children _ = []

-- a unit with the units that it is a descendant of: what a with clause for it brings (10.1.2)
abbrev pub with_ancestors : LibraryUnit → List LibraryUnit
with_ancestors unit.Ada = unit.Ada ∷ []
with_ancestors unit.TextIo = unit.TextIo ∷ unit.Ada ∷ []
with_ancestors unit.Finalization = unit.Finalization ∷ unit.Ada ∷ []
with_ancestors unit.UncheckedDeallocation = unit.UncheckedDeallocation ∷ unit.Ada ∷ []
with_ancestors unit.UncheckedDeallocateSubpool = unit.UncheckedDeallocateSubpool ∷ unit.Ada ∷ []
with_ancestors unit.System = unit.System ∷ []
with_ancestors unit.StorageElements = unit.StorageElements ∷ unit.System ∷ []
with_ancestors unit.StoragePools = unit.StoragePools ∷ unit.System ∷ []
with_ancestors unit.Subpools = unit.Subpools ∷ unit.StoragePools ∷ unit.System ∷ []
with_ancestors unit.BlockPools = unit.BlockPools ∷ []
with_ancestors unit.MarkReleasePools = unit.MarkReleasePools ∷ []

-- what a unit itself is: a package, or a procedure
abbrev pub unit_itself : LibraryUnit → LibraryName
unit_itself unit.UncheckedDeallocation = name.UncheckedDeallocation
unit_itself unit.UncheckedDeallocateSubpool = name.UncheckedDeallocateSubpool
unit_itself _ = name.Package

-- what Standard declares (A.1)
abbrev pub standard_names : List LibraryName
standard_names = name.Integer ∷ name.Boolean ∷ name.True ∷ name.False ∷ name.ConstraintError ∷ name.ProgramError ∷ name.StorageError ∷ []

-- what a unit declares
abbrev pub names_of : LibraryUnit → List LibraryName
names_of unit.TextIo = name.Put ∷ name.PutLine ∷ name.NewLine ∷ []
names_of unit.Finalization = name.Controlled ∷ name.LimitedControlled ∷ []
names_of unit.System = name.Address ∷ name.NullAddress ∷ []
names_of unit.StorageElements = name.StorageCount ∷ []
names_of unit.StoragePools = name.RootStoragePool ∷ []
names_of unit.Subpools = name.SubpoolHandle ∷ []
names_of unit.BlockPools = name.BlockPool ∷ []
names_of unit.MarkReleasePools = name.MarkReleasePool ∷ name.Mark ∷ name.DefaultSubpool ∷ []
names_of _ = []

-- the operations that a type may override (7.6, 13.11)
abbrev pub operations : List OperationName
operations = operation.Initialize ∷ operation.Adjust ∷ operation.Finalize ∷ operation.Allocate ∷ operation.Deallocate ∷ []

-- What a name names --------------------------------------------------------------------------------

unfoldable pub is_unit : List ℕ → LibraryUnit → Bool
is_unit n u = same_name n (unit_spelling u)

unfoldable pub is_name : List ℕ → LibraryName → Bool
is_name n l = same_name n (name_spelling l)

unfoldable pub is_operation : List ℕ → OperationName → Bool
is_operation n o = same_name n (operation_spelling o)

-- the unit of this name that is no child of another
unfoldable pub root_unit : List ℕ → Option LibraryUnit
root_unit n = find (is_unit n) roots

-- the child of a unit that has this name
unfoldable pub child_of : LibraryUnit → List ℕ → Option LibraryUnit
child_of u n = find (is_unit n) (children u)

-- what a unit declares under a name
unfoldable pub name_in : LibraryUnit → List ℕ → Option LibraryName
name_in u n = find (is_name n) (names_of u)

-- what Standard declares under a name
unfoldable pub standard_name : List ℕ → Option LibraryName
standard_name n = find (is_name n) standard_names

-- the operation of this name
unfoldable pub operation_named : List ℕ → Option OperationName
operation_named n = find (is_operation n) operations

-- the same unit
abbrev pub number_of : LibraryUnit → ℕ
number_of unit.Ada = 0
number_of unit.TextIo = 1
number_of unit.Finalization = 2
number_of unit.UncheckedDeallocation = 3
number_of unit.UncheckedDeallocateSubpool = 4
number_of unit.System = 5
number_of unit.StorageElements = 6
number_of unit.StoragePools = 7
number_of unit.Subpools = 8
number_of unit.BlockPools = 9
number_of unit.MarkReleasePools = 10

-- is the unit among these?
abbrev pub is_among : List LibraryUnit → LibraryUnit → Bool
is_among units u = list_any (λ w. number_of w == number_of u) units

-- what these units declare under a name
abbrev pub first_of_names : Option LibraryName → Option LibraryName → Option LibraryName
first_of_names (Some l) other = Some l
first_of_names None other = other

abbrev pub name_in_units : List LibraryUnit → List ℕ → Option LibraryName
name_in_units [] n = None
name_in_units (u ∷ us) n = first_of_names (name_in u n) (name_in_units us n)

-- the declaration of Standard, or of one of these units, that is direct under a name (8.4)
abbrev pub direct_name : List LibraryUnit → List ℕ → Option LibraryName
direct_name used n = first_of_names (standard_name n) (name_in_units used n)
