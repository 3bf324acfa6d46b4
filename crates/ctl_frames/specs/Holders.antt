-- What the slots of active masters hold: the objects and collections that came there, and the formals of bodies the parts that they stand for, or the
-- records that were copied to them.
use Rattle.std.specs.Prelude.{◌≡◌, ◌≢◌, ℕ, ◌-◌, ◌<◌, ◌≤◌, List, [], ◌∷◌, Option, Some, None, false, length, drop, take, slice_get, nat_eq, if◌then◌else◌}
use Rattle.ctl_meaning.specs.World.{Content, Nothing, Holds, Binds, Copies, Gathers, unset, Activation}
use Rattle.ctl_meaning.specs.Finalization.{Spot}
use Rattle.ctl_meaning.specs.Lists.{item_or}
use Rattle.ctl_code.specs.States.{Word, Located, Cells}
use Rattle.ctl_frames.specs.declared.frame.Formal.{Formal}
use Rattle.ctl_frames.specs.declared.frame.Master.{Master}
use Rattle.ctl_frames.specs.declared.frame.Holder.{Holder}
use Rattle.ctl_frames.specs.declared.frame.Holder.TheVariants as HolderOf
use Rattle.ctl_frames.specs.declared.frame.Owned.{Owned}
use Rattle.ctl_frames.specs.declared.frame.Role.{Role}
use Rattle.ctl_frames.specs.declared.frame.Role.TheVariants as RoleOf
use Rattle.ctl_frames.specs.Spots.{whole_spot}

-- what the slot of an object holds, or of a collection
abbrev pub content_as : Role → ℕ → Content
content_as (RoleOf.Object t) n = Holds n
content_as (RoleOf.Collection started count) n = Gathers n

abbrev pub content_of : Owned → Content
content_of o = content_as o.role o.number

-- what a slot holds where all of this came in its master, the oldest first, and what it held before
abbrev pub holder_in : List Owned → ℕ → Content → Content
holder_in [] slot before = before
holder_in (o ∷ os) slot before = holder_in os slot (if nat_eq o.slot slot then content_of o else before)

-- what the slot of a formal holds that stands for this part
abbrev pub binding : Spot → Content
binding s = Binds s.object s.offset s.path

-- and that of any formal that is kept: such a part, or the copy of a record
abbrev pub content_of_formal : Formal → Content
content_of_formal f = if f.is_value then Copies f.spot.path else binding f.spot

-- what a slot holds by these formals, the newest last, and what it held before them
abbrev pub bound_in : List Formal → ℕ → Content → Content
bound_in [] slot before = before
bound_in (f ∷ fs) slot before = bound_in fs slot (if nat_eq f.slot slot then content_of_formal f else before)

-- what a slot holds when its master is entered, by the formals of its body that stand for parts
abbrev pub formal_in : List Formal → ℕ → Content
formal_in fs slot = bound_in fs slot Nothing

-- the formal of an operation has the first slot, and stands for the part that it was called for
abbrev pub first_formal : Spot → Formal
first_formal s = record { slot = 0; spot = s; is_value = false }

-- the formals of a master, among those of all active ones
abbrev pub own_formals : Master → List Formal → List Formal
own_formals m formals = drop m.outer_formals (take m.formals formals)

-- what each slot of an active master holds, by what the master owns and by its formals
pub record IsHeld (m : Master) (a : Activation) (owned : List Owned) (formals : List Formal) : Type 0 where
  pub contents : (slot : ℕ) → slot < length a.slots → (item_or unset (slice_get a.slots slot)).content ≡ holder_in (drop m.owned owned) slot (formal_in (own_formals m formals) slot)
  pub rise : m.outer_formals ≤ m.formals
  pub within : m.formals ≤ length formals

-- the newest master first
abbrev pub AreHeld : List Master → List Activation → List Owned → List Formal → Type 0
AreHeld [] [] owned formals = Unit {0}
AreHeld (m ∷ ms) (a ∷ acts) owned formals = IsHeld m a owned formals × AreHeld ms acts (take m.owned owned) (take m.outer_formals formals)
AreHeld _ _ owned formals = ⊥

-- where what a master owns ends among all that is owned: where that of the next newer one begins, if there is one
abbrev pub own_end : Option Master → ℕ → ℕ
own_end None total = total
own_end (Some newer) total = newer.owned

-- of these masters, the outermost first, the newest of so many has this number; where there is none, none of them has
pub record IsMasterOf (masters : List Master) (number count : ℕ) : Type 0 where
  pub bound : count ≤ length masters
  pub found : (m : Master) → 0 < count → slice_get masters (count - 1) ≡ Some m → m.number ≡ number
  pub none : count ≡ 0 → (m : Master) (at : ℕ) → slice_get masters at ≡ Some m → m.number ≢ number

-- what was found is there, among these formals
abbrev pub IsThere : List Formal → Holder → Type 0
IsThere formals (HolderOf.Whole n) = Unit {0}
IsThere formals (HolderOf.Bound at) = at < length formals

-- what was found, as an operand, among these formals: a whole object, or what a formal stands for, a part or the copy of a record
abbrev pub word_of_formal : Formal → Word
word_of_formal f = if f.is_value then Cells f.spot.path else Located f.spot

abbrev pub held_by : Option Formal → Option Word
held_by None = None
held_by (Some f) = Some (word_of_formal f)

abbrev pub found_in : List Formal → Option Holder → Option Word
found_in formals None = None
found_in formals (Some (HolderOf.Whole n)) = Some (Located (whole_spot n))
found_in formals (Some (HolderOf.Bound at)) = held_by (slice_get formals at)
