-- Objects that take values, and objects that allocators create: what stands there before they are adjusted, and where that has ended.
use Rattle.std.specs.Prelude.{◌≡◌, ℕ, ◌<◌, List, [], ◌∷◌, ◌++◌, Option, None, Some, drop, length, reverse, slice_set, false, true}
use Rattle.ctl_program.specs.declared.types.Ty.{Ty}
use Rattle.ctl_tree.specs.declared.ending.Stop.TheVariants.{UseAfterFree}
use Rattle.ctl_meaning.specs.Finalization.{Spot}
use Rattle.ctl_meaning.specs.World.{Collection}
use Rattle.ctl_code.specs.declared.kinds.Kind.{Kind}
use Rattle.ctl_code.specs.declared.kinds.Kind.TheVariants.{Operand}
use Rattle.ctl_code.specs.declared.code.Code.{Code}
use Rattle.ctl_code.specs.declared.code.Way.TheVariants as WayOf
use Rattle.ctl_code.specs.States as T
use Rattle.ctl_code.specs.States.{Maker, Point, State}
use Rattle.ctl_code.specs.Table.{is_refused}
use Rattle.ctl_code.specs.Valid.{IsScalar, Leads}
use Rattle.ctl_engine.specs.Allocating.{OwnsNone}
use Rattle.ctl_engine.specs.Declaring.{NewObject}
use Rattle.ctl_frames.specs.Filling.{AllLeaveSame}
use Rattle.ctl_frames.specs.Masters.{first_display, heads_of}
use Rattle.ctl_engine.specs.Moves.{Inside}
use Rattle.ctl_frames.specs.Noted.{noted_in}
use Rattle.ctl_engine.specs.Shows.{Holds, Kept, SizedBelow, Wait, kept}
use Rattle.ctl_frames.specs.Spots.{standing, value_spot}
use Rattle.ctl_engine.specs.declared.engine.Engine.{Engine}
use Rattle.ctl_frames.specs.declared.frame.Frame.{Frame}
use Rattle.ctl_frames.specs.declared.frame.Mode.{Mode}
use Rattle.ctl_frames.specs.declared.frame.Mode.TheVariants as ModeOf

-- Collections that take objects ------------------------------------------------------------------

-- the collection of this number takes an object of a type
pub record Takes (code : Code) (of : Ty) (seen : Option Collection) (set : ℕ) : Type 0 where
  pub collection : Collection
  pub is : seen ≡ Some collection
  pub number : collection.number ≡ set
  pub takes : is_refused code of collection ≡ false

-- no collection does, and this comes instead: it is gone, or its finalization has started (4.8, 13.11.2)
abbrev pub Refuses : Code → Ty → Option Collection → Mode → Type 0
Refuses code of None mode = mode ≡ ModeOf.Stopped UseAfterFree
Refuses code of (Some c) mode = (is_refused code of c ≡ true) × (mode ≡ ModeOf.Transfers (WayOf.Raise 1))

-- Allocated objects ------------------------------------------------------------------------------

-- where an allocator goes on, over these operands
abbrev pub point_at : ℕ → State → Point
point_at place s = record { display = first_display (heads_of s.world.activations); place = place; operands = s.operands }

-- the object of this number is one that an allocator creates, which goes on at a place, with its value on top; no frame waits for it
pub record IsMember (code : Code) (e : Engine) (object place : ℕ) (s : State) : Type 0 where
  pub stack : List Kind
  pub type : Ty
  pub scalar : IsScalar type
  pub leads : Leads code place (Operand type ∷ stack)
  pub inside : Inside code (kept e) stack s.control s.operands s.world
  pub foreign : OwnsNone object e.owned.items

-- the value of a record has taken the place of the newest part, in this cell, over these parts
abbrev pub with_value : ℕ → List ℕ → List Spot → Kept → Kept
with_value cell value below e = record e { cells = slice_set e.cells cell 1; spots = below ++ value_spot value ∷ [] }

-- Adjustments ------------------------------------------------------------------------------------

-- an object that has taken a value is to be adjusted: this frame is to wait for it
pub record AwaitsCopy (code : Code) (e : Engine) (copy : Frame) (by : Maker) (type : ℕ) (t : NewObject) : Type 0 where
  pub holds : Holds code (record (kept e) { control = copy ∷ (kept e).control }) (T.Copying by t.number type [] t.point ∷ t.control) [] t.world
  pub spots : e.spots.items ≡ standing t.control t.point.operands
  pub sized : SizedBelow code (T.Copying by t.number type [] t.point ∷ t.control) (heads_of t.world.activations)

-- the newest frame is that of a copy, for an object of this number and record type, and this one is to take its place, which waits for the
-- end of the creation
pub record IsCopy (code : Code) (e : Engine) (creation : Frame) (object type first : ℕ) (s : State) : Type 0 where
  pub by : Maker
  pub paths : List (List ℕ)
  pub point : Point
  pub waiting : List T.Frame
  pub is : s.control ≡ T.Copying by object type paths point ∷ waiting
  pub some : 0 < length e.control.items
  pub waits : Wait (creation ∷ drop 1 (reverse e.control.items)) (reverse e.masters.items) (heads_of s.world.activations) e.owned.items (T.Creating by object type point ∷ waiting)
  pub left : AllLeaveSame code (creation ∷ drop 1 (reverse e.control.items)) (T.Creating by object type point ∷ waiting)
  pub mark : first ≡ length (noted_in waiting)
