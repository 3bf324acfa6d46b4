-- The values of components of objects and of their parts.
use Rattle.std.specs.Prelude.{ℕ, ◌+◌, Option, Some, None, drop}
use Rattle.ctl_program.specs.declared.operators.CopyStart.{CopyStart}
use Rattle.ctl_program.specs.declared.operators.CopyStart.TheVariants as CopyStartOf
use Rattle.ctl_meaning.specs.World.{Object, World}
use Rattle.ctl_meaning.specs.Names.{scalar_of}
use Rattle.ctl_meaning.specs.Objects.{cells_at}
use Rattle.ctl_meaning.specs.Changes.{object_at}
use Rattle.ctl_code.specs.States.{Word, Scalar, Located, Cells}

-- the value of the cell of a component, of an object that exists
abbrev pub part_in : ℕ → Option Object → Option ℕ
part_in offset None = None
part_in offset (Some o) = Some (scalar_of (cells_at offset 1 o))

-- that of a component of what is an operand, or held by a slot: a part, or the value of a record
abbrev pub component_at : ℕ → Word → World → Option ℕ
component_at offset (Located s) w = part_in (s.offset + offset) (object_at s.object w)
component_at offset (Cells v) w = Some (scalar_of (drop offset v))
component_at offset (Scalar n) w = None

abbrev pub part_at : ℕ → Option Word → World → Option ℕ
part_at offset None w = None
part_at offset (Some x) w = component_at offset x w

-- what the copy of a component begins with, where this was read of the component: its value, or the beginning value of its type (6.4.1)
abbrev pub begun_with : CopyStart → Option ℕ → Option ℕ
begun_with CopyStartOf.Actual x = x
begun_with CopyStartOf.Beginning x = Some 0
