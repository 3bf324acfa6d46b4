-- Objects that allocators create.
use Rattle.std.specs.Prelude.{◌≡◌, ◌≢◌, ℕ, List, [], ◌∷◌, Some, true}
use Rattle.ctl_meaning.specs.Allocation.{is_new, set_of}
use Rattle.ctl_meaning.specs.Changes.{object_at}
use Rattle.ctl_meaning.specs.World.{Collection, Object, World}
use Rattle.ctl_frames.specs.declared.frame.Owned.{Owned}
use Rattle.ctl_frames.specs.Owned.{objects_owned}

-- none of these has this number
abbrev pub HaveNot : ℕ → List Owned → Type 0
HaveNot n [] = Unit {0}
HaveNot n (o ∷ os) = (o.number ≢ n) × HaveNot n os

-- none of the objects among what is owned has it
abbrev pub OwnsNone : ℕ → List Owned → Type 0
OwnsNone n owned = HaveNot n (objects_owned owned)

-- the object of a number is the one that an allocator creates, or that is freed: no master owns it
pub record IsAllocated (n object : ℕ) (owned : List Owned) : Type 0 where
  pub number : n ≡ object
  pub foreign : OwnsNone object owned

-- the object of a number is a new one, and its collection still stands: it may join it (4.8)
pub record MayJoin (n : ℕ) (w : World) : Type 0 where
  pub object : Object
  pub collection : Collection
  pub found : object_at n w ≡ Some object
  pub stands : set_of object.origin w ≡ Some collection
  pub new : is_new object ≡ true
