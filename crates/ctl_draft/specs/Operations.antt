-- The operations that types have and may override, and their formals (7.6, 13.11).
use Rattle.std.specs.Prelude.{ℕ, Bool, true, false, not, List, [], ◌∷◌, Option, Some, None}
use Rattle.ctl_program.specs.declared.types.Ty.{Ty}
use Rattle.ctl_program.specs.declared.types.Ty.TheVariants as ty
use Rattle.ctl_program.specs.declared.types.Root.{Root}
use Rattle.ctl_program.specs.declared.types.Root.TheVariants as root
use Rattle.ctl_program.specs.declared.types.Operations.{Operations}
use Rattle.ctl_syntax.specs.declared.denoted.OperationName.{OperationName}
use Rattle.ctl_syntax.specs.declared.denoted.OperationName.TheVariants.{Initialize, Adjust, Finalize, Allocate, Deallocate}
use Rattle.ctl_syntax.specs.declared.item.Mode.{Mode}
use Rattle.ctl_syntax.specs.declared.item.Mode.TheVariants as mode
use Rattle.ctl_typing.specs.declared.table.FormalEntry.{FormalEntry}
use Rattle.ctl_typing.specs.declared.table.RecordState.{RecordState}

-- the operations that a type has: Adjust is one of those that are not limited, Allocate and Deallocate of block pools (7.6, 13.11)
abbrev pub provides : Root → Bool → OperationName → Bool
provides root.Untagged limited o = false
provides r limited Initialize = true
provides r limited Finalize = true
provides root.Controlled limited Adjust = not limited
provides root.BlockPool limited Allocate = true
provides root.BlockPool limited Deallocate = true
provides r limited o = false

abbrev pub user_operation : OperationName → Operations → Option ℕ
user_operation Initialize os = os.initialize
user_operation Adjust os = os.adjust
user_operation Finalize os = os.finalize
user_operation Allocate os = os.allocate
user_operation Deallocate os = os.deallocate

abbrev pub formal : Mode → Ty → FormalEntry
formal m t = record { mode = m; ty = t }

-- the formals of an operation of this type
abbrev pub operation_formals : OperationName → Ty → List FormalEntry
operation_formals Allocate t = formal mode.InOut t ∷ formal mode.Out ty.Address ∷ formal mode.In ty.Count ∷ formal mode.In ty.Count ∷ []
operation_formals Deallocate t = formal mode.InOut t ∷ formal mode.In ty.Address ∷ formal mode.In ty.Count ∷ formal mode.In ty.Count ∷ []
operation_formals o t = formal mode.InOut t ∷ []

abbrev pub operations_of : Option RecordState → Operations
operations_of None = record { initialize = None; adjust = None; finalize = None; allocate = None; deallocate = None }
operations_of (Some s) = s.operations
