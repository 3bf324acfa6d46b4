-- Targets of assignments that take the value that is saved for them, and are adjusted behind that.
use Rattle.std.specs.Prelude.{◌≡◌, ℕ, List, None, Some, length}
use Rattle.ctl_meaning.specs.Changes.{object_at}
use Rattle.ctl_meaning.specs.World.{Object}
use Rattle.ctl_code.specs.declared.code.Code.{Code}
use Rattle.ctl_code.specs.declared.code.Parts.TheVariants as PartsOf
use Rattle.ctl_code.specs.Table.{controlled_of, parts_of}
use Rattle.ctl_engine.specs.declared.engine.Engine.{Engine}
use Rattle.ctl_engine.specs.declared.finalizing.Assignment.{Assignment}
use Rattle.ctl_engine.specs.Assigning.{Assigned, Assigns, with_value}
use Rattle.ctl_engine.specs.Finishing.{HasRoomToFinish}

-- where a target of a record type is adjusted, nothing else is: the type is controlled, and no component has a controlled part
pub record IsAdjustedAlone (code : Code) (type : ℕ) : Type 0 where
  pub controlled : parts_of code type ≡ PartsOf.Controlled
  pub none : length (controlled_of code type) ≡ 0

-- the target, which is there, has taken this value, and there is room to adjust it
pub record TakesOver (code : Code) (old new : Engine) (x : Assignment) (v : List ℕ) (t : Assigned) : Type 0 where
  pub assigns : Assigns code new x None (with_value v t)
  pub object : Object
  pub found : object_at t.spot.object t.world ≡ Some object
  pub room : HasRoomToFinish code new x.base
  pub events : new.events.items ≡ old.events.items
  pub picks : new.picks.items ≡ old.picks.items
