-- A variable of a master around, by how many masters out it stands, or by the number of its master.
use Rattle.std.specs.Prelude.{◌≡◌, ℕ, ◌+◌, ◌<◌, ◌≤◌, List, Some, ◌⊎◌, reverse, slice_get, slice_set}
use Rattle.ctl_code.specs.Table.{out_of}
use Rattle.ctl_engine.specs.declared.engine.Engine.{Engine}
use Rattle.ctl_frames.specs.declared.frame.Master.{Master}
use Rattle.ctl_frames.specs.declared.frame.Mode.TheVariants as ModeOf
use Rattle.ctl_frames.specs.Masters.{IsAmong}
use Rattle.ctl_engine.specs.Moves.{GoesOn}

-- the cell of a slot of the master so many further out in a display
pub record IsVariable (d : List ℕ) (out slot place : ℕ) (ms : List Master) : Type 0 where
  pub master : Master
  pub among : IsAmong master ms
  pub number : out_of d out ≡ master.number
  pub within : slot < master.slots
  pub cell : master.base + slot ≡ place

-- the master of this number stands at a place among these, the outermost first, and has this slot
pub record HasSlotAt (number slot place : ℕ) (masters : List Master) : Type 0 where
  pub master : Master
  pub found : slice_get masters place ≡ Some master
  pub numbered : number ≡ master.number
  pub within : slot < master.slots

-- that master has no such slot
pub record IsBeyond (d : List ℕ) (out slot : ℕ) (ms : List Master) : Type 0 where
  pub master : Master
  pub among : IsAmong master ms
  pub number : out_of d out ≡ master.number
  pub beyond : master.slots ≤ slot

-- no master has such a slot: no master has the number 0
abbrev pub IsNoVariable : List ℕ → ℕ → ℕ → List Master → Type 0
IsNoVariable d out slot ms = (out_of d out ≡ 0) ⊎ IsBeyond d out slot ms

-- the cell of that slot takes a value, and the machine goes on at a place
pub record Takes (d : List ℕ) (out slot x place : ℕ) (old new : Engine) : Type 0 where
  pub cell : ℕ
  pub variable : IsVariable d out slot cell (reverse old.masters.items)
  pub goes_on : GoesOn old new (ModeOf.At place) (slice_set old.cells.items cell x)

-- there is no such slot, and the machine only goes on
pub record TakesNone (d : List ℕ) (out slot place : ℕ) (old new : Engine) : Type 0 where
  pub none : IsNoVariable d out slot (reverse old.masters.items)
  pub goes_on : GoesOn old new (ModeOf.At place) old.cells.items

-- a variable takes a value, if there is one
abbrev pub Gives : List ℕ → ℕ → ℕ → ℕ → ℕ → Engine → Engine → Type 0
Gives d out slot x place old new = Takes d out slot x place old new ⊎ TakesNone d out slot place old new
