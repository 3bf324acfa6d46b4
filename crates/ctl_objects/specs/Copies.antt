-- Cells of one object that are written into another one.
use Rattle.std.specs.Prelude.{ℕ, List, Option}
use Rattle.std.specs.Option.{option_map_or}
use Rattle.ctl_meaning.specs.World.{Object}
use Rattle.ctl_meaning.specs.Objects.{cells_at, change_in, with_cells}

-- so many cells of an object, from one on, are written over those of the object of a number, from one on; nothing where there is no object
abbrev pub copied : ℕ → ℕ → ℕ → ℕ → Option Object → List Object → List Object
copied start to target count from os = option_map_or (λ o. change_in to (with_cells target (cells_at start count o)) os) from os
