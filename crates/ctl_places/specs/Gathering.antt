-- Collections and their objects, as the machine makes them.
use Rattle.std.specs.Prelude.{ℕ, ◌+◌, List, [], ◌∷◌, ◌++◌, false, nat_lt}
use Rattle.ctl_program.specs.declared.types.Ty.{Ty}
use Rattle.ctl_program.specs.declared.types.Ty.TheVariants.{Record}
use Rattle.ctl_tree.specs.declared.event.Owner.TheVariants as OwnerOf
use Rattle.ctl_meaning.specs.Changes.{new_object}
use Rattle.ctl_meaning.specs.World.{Allocated, Place, World}
use Rattle.ctl_code.specs.declared.code.Code.{Code}
use Rattle.ctl_code.specs.States as T
use Rattle.ctl_code.specs.Table.{newborn, with_member}
use Rattle.ctl_objects.specs.Stock.{Stock}
use Rattle.ctl_frames.specs.declared.frame.Master.{Master}
use Rattle.ctl_frames.specs.declared.frame.Owned.{Owned}
use Rattle.ctl_frames.specs.declared.frame.Role.TheVariants as RoleOf
use Rattle.ctl_engine.specs.Declaring.{slot_cleared}
use Rattle.ctl_engine.specs.Initializing.{Grown}
use Rattle.ctl_engine.specs.Shows.{Kept}

-- the next collection, of a master, in its slot: a layer, with so many up to it, if there are any
abbrev pub new_set : Master → ℕ → ℕ → Kept → Owned
new_set m slot count e = record { number = e.given_collections + 1; slot = slot; master = m.number; is_layer = nat_lt 0 count; collections = e.given_collections + 1; role = RoleOf.Collection false count }

-- with it, and the cell of its slot is cleared
abbrev pub with_set : Master → ℕ → ℕ → Kept → Kept
with_set m slot count e = record e {
  cells = slot_cleared m slot e.cells;
  owned = e.owned ++ new_set m slot count e ∷ [];
  given_collections = e.given_collections + 1;
}

-- Objects of collections ---------------------------------------------------------------------

-- an object that is allocated: its place, what waits, where its allocator goes on, and the world in which storage was granted
pub record Member : Type 0 where
  pub place : Place
  pub control : List T.Frame
  pub point : T.Point
  pub granted : World

-- one of a record type, as a part that is created behind the frame of its allocator, for a collection
abbrev pub member_at : Code → ℕ → ℕ → Member → Grown
member_at code set t m = record {
  new = newborn m.granted.ledger.next_object t (OwnerOf.Collection set);
  control = T.Creating T.ByAllocator m.granted.ledger.next_object t m.point ∷ m.control;
  world = with_member code set (Record t) m.place m.granted;
}

-- with it, which has these cells, and all pools as this stock has them
abbrev pub with_new_member : ℕ → Ty → Place → List ℕ → Stock → Kept → Kept
with_new_member set of place row x e = record e {
  objects = e.objects ++ new_object e.next_object of row (Allocated set place) ∷ [];
  sizes = x.sizes;
  blocks = x.blocks;
  given = x.given;
  next_object = e.next_object + 1;
}
