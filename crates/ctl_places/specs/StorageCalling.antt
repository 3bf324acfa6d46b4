-- Calls of the Allocate and the Deallocate that the user wrote for the type of a pool: what the table calls, and what stands there before (13.11).
use Rattle.std.specs.Prelude.{◌≡◌, ℕ, ◌+◌, ◌-◌, ◌≤◌, List, Some, length, reverse, slice_get, slice_set}
use Rattle.ctl_program.specs.Limits.{alignment}
use Rattle.ctl_meaning.specs.World.{Object, World}
use Rattle.ctl_meaning.specs.Changes.{home_master}
use Rattle.ctl_code.specs.declared.kinds.Kind.{Kind}
use Rattle.ctl_code.specs.declared.code.Code.{Code}
use Rattle.ctl_code.specs.declared.code.Entry.{Entry}
use Rattle.ctl_code.specs.States as T
use Rattle.ctl_code.specs.Valid.{Leads, over_numbers, storage_formals}
use Rattle.ctl_code.specs.Windows.{height}
use Rattle.ctl_engine.specs.declared.engine.Engine.{Engine}
use Rattle.ctl_frames.specs.declared.frame.After.{After}
use Rattle.ctl_frames.specs.declared.frame.After.TheVariants as AfterOf
use Rattle.ctl_places.specs.declared.storage_calls.StorageActuals.{StorageActuals}
use Rattle.ctl_frames.specs.Masters.{heads_of, first_display, first_window}
use Rattle.ctl_engine.specs.Moves.{Inside, cleared}
use Rattle.ctl_engine.specs.Shows.{Sized, Holds, kept}
use Rattle.ctl_frames.specs.Spots.{standing}
use Rattle.ctl_frames.specs.Under.{tall}

-- what the table calls a body for: the pool object, an address and so many units; the body; how many of its first formals are new operands in
-- the end; where the call goes on, with the operands that stay; what waits, and the world
pub record StorageCall : Type 0 where
  pub object : Object
  pub address : ℕ
  pub units : ℕ
  pub body : ℕ
  pub copies : ℕ
  pub point : T.Point
  pub control : List T.Frame
  pub world : World

-- the machine has these actuals
pub record AreActualsOf (x : StorageActuals) (t : StorageCall) : Type 0 where
  pub pool : x.pool ≡ t.object.number
  pub address : x.address ≡ t.address
  pub units : x.units ≡ t.units

-- this body is called for a pool object of a master, over the operands that stay, in a window that begins there, and its end leads there
pub record CallsStorage (code : Code) (e : Engine) (entry : Entry) (master base : ℕ) (after : After) (t : StorageCall) : Type 0 where
  pub holds : Holds code (kept e) t.control t.point.operands t.world
  pub spots : e.spots.items ≡ standing t.control t.point.operands
  pub stack : List Kind
  pub leads : Leads code t.point.place (over_numbers t.copies stack)
  pub sized : Sized code stack t.control (heads_of t.world.activations)
  pub seen : t.point.display ≡ first_display (heads_of t.world.activations)
  pub leads_to : after ≡ AfterOf.Procedure t.point.place t.copies
  pub window : base ≡ tall t.control (heads_of t.world.activations) + length t.point.operands
  pub home : home_master t.world t.object.origin ≡ master
  pub body : slice_get code.entries.items t.body ≡ Some entry
  pub slots : storage_formals ≤ entry.slots
  pub few : t.copies ≤ storage_formals

-- an Allocate is to be called for an allocator: the next instruction finds what it gives over the operands that stay, behind which this cell is
pub record AsksAllocate (code : Code) (e : Engine) (place first : ℕ) (s : T.State) : Type 0 where
  pub mode : s.mode ≡ T.At (first_display (heads_of s.world.activations)) place
  pub stack : List Kind
  pub leads : Leads code (place + 1) (over_numbers 4 stack)
  pub inside : Inside code (kept e) stack s.control s.operands s.world
  pub cell : first ≡ first_window (reverse e.masters.items) + height stack

-- from one on, the first cells of a body are those of its formals: that of a pool object, an address, so many units and the alignment
abbrev pub with_formals : ℕ → ℕ → ℕ → List ℕ → List ℕ
with_formals base address units cells = slice_set (slice_set (slice_set (slice_set cells base 0) (base + 1) address) (base + 2) units) (base + 3) alignment

-- and the cells of its other slots are cleared
abbrev pub storage_begun : ℕ → ℕ → ℕ → ℕ → List ℕ → List ℕ
storage_begun base slots address units cells = cleared (base + storage_formals) (slots - storage_formals) (with_formals base address units cells)
