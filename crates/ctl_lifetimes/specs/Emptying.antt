-- Collections that are emptied: the members that are still to be finalized, and the one among them that an order chooses.
use Rattle.std.specs.Prelude.{◌≡◌, ◌≢◌, ℕ, ◌<◌, ◌≤◌, List, [], ◌∷◌, ◌+◌, Option, None, Some, Bool, true, false, ◌&&◌, IfSome, length, nat_lt, not, reverse, if◌then◌else◌}
use Rattle.std.specs.Option.{option_map, option_map_or}
use Rattle.ctl_program.specs.declared.types.Ty.TheVariants.{Record}
use Rattle.ctl_tree.specs.declared.request.Order.{Order}
use Rattle.ctl_tree.specs.declared.request.Order.TheVariants as OrderOf
use Rattle.ctl_meaning.specs.Lists.{keep, pull_item}
use Rattle.ctl_meaning.specs.Objects.{object_in}
use Rattle.ctl_meaning.specs.World.{Object, World}
use Rattle.ctl_groups.specs.declared.groups.Group.{Group}
use Rattle.ctl_groups.specs.declared.groups.Start.{Start}
use Rattle.ctl_groups.specs.declared.needs.Need.{Need}
use Rattle.ctl_groups.specs.Groups.{group_of, is_from, is_waiting}
use Rattle.ctl_groups.specs.Members.{IsGreatest, IsLeast, is_between, passes}
use Rattle.ctl_objects.specs.Stock.{Stock}
use Rattle.ctl_code.specs.declared.code.Code.{Code}
use Rattle.ctl_code.specs.declared.code.Parts.TheVariants as PartsOf
use Rattle.ctl_code.specs.States as T
use Rattle.ctl_code.specs.States.{whole_spot}
use Rattle.ctl_code.specs.Table.{is_candidate, parts_of}
pub use Rattle.ctl_code.specs.Table.{is_due}
use Rattle.ctl_code.specs.Fits.{Waits}
use Rattle.ctl_lifetimes.specs.declared.emptying.Candidates.{Candidates}
use Rattle.ctl_lifetimes.specs.declared.emptying.Member.{Member}
use Rattle.ctl_engine.specs.declared.engine.Engine.{Engine}
use Rattle.ctl_frames.specs.declared.frame.Frame.{Frame}
use Rattle.ctl_frames.specs.declared.frame.Frame.TheVariants as FrameOf
use Rattle.ctl_frames.specs.Filling.{pick_among}
use Rattle.ctl_engine.specs.Finishing.{Finished}
use Rattle.ctl_frames.specs.Masters.{heads_of}
use Rattle.ctl_frames.specs.Owned.{AreFromTo}
use Rattle.ctl_engine.specs.Shows.{Holds, SizedBelow, kept}
use Rattle.ctl_frames.specs.Spots.{spots_in}

-- Members ------------------------------------------------------------------------------------

-- the members of these collections that are
abbrev pub due : Code → List ℕ → List Object → List Object
due code sets objects = keep (is_candidate code sets) objects

-- a member is the one of these candidates, so many, that an order takes
pub record IsMember (code : Code) (order : Order) (count : ℕ) (candidates : List Object) (m : Member) : Type 0 where
  pub object : Object
  pub chosen : (d : Object) → pull_item d (pick_among order count) candidates ≡ object
  pub number : object.number ≡ m.number
  pub ty : object.ty ≡ Record m.record_type
  pub parts : parts_of code m.record_type ≢ PartsOf.Plain

-- the one that is taken, where there is one
abbrev pub IsTaken : Code → Order → ℕ → List Object → Option Member → Type 0
IsTaken code order count candidates None = count ≡ 0
IsTaken code order count candidates (Some m) = (0 < count) × IsMember code order count candidates m

-- Groups -------------------------------------------------------------------------------------

-- the number that an order takes among those of which this holds
abbrev pub IsEnd : Order → (ℕ → Type 0) → Option ℕ → Type 0
IsEnd OrderOf.Newest P r = IsGreatest P r
IsEnd OrderOf.Oldest P r = IsLeast P r

-- with one candidate more an order takes this one, where it took that one before
abbrev pub taken_of : Order → Option Member → Member → Member
taken_of order None x = x
taken_of OrderOf.Newest (Some m) x = if nat_lt m.number x.number then x else m
taken_of OrderOf.Oldest (Some m) x = if nat_lt x.number m.number then x else m

-- with those of a group besides, of which it takes this one, if there is one
abbrev pub taken_with : Order → Option Member → Group → Option ℕ → Option Member
taken_with order chosen g None = chosen
taken_with order chosen g (Some n) = Some (taken_of order chosen (record { number = n; record_type = g.record_type }))

-- which member an order takes, where it takes this one among all but the objects of a group that wait
abbrev pub IsTakenWith : Order → Stock → Option Member → Group → Option Member → Type 0
IsTakenWith order s chosen g r = (n : Option ℕ) × IsEnd order (λ k. passes (is_waiting s.needs g) k s.objects ≡ true) n × (r ≡ taken_with order chosen g n)

-- the candidates with those of a group besides
pub record IsWith (order : Order) (s : Stock) (found : Candidates) (g : Group) (more : Candidates) : Type 0 where
  pub count : more.count ≡ found.count + length (keep (is_waiting s.needs g) s.objects)
  pub member : Option ℕ
  pub end : IsEnd order (λ k. passes (is_waiting s.needs g) k s.objects ≡ true) member
  pub chosen : more.chosen ≡ taken_with order found.chosen g member

-- a group comes before a start, if there is one
abbrev pub is_passed : Start → Option Group → Bool
is_passed start None = false
is_passed start (Some g) = not (is_from start g)

-- an object of a collection between two is still to be finalized, and its group comes before a start
abbrev pub is_counted : Code → List Need → ℕ → ℕ → Start → Object → Bool
is_counted code needs first last start o = is_due code o && (is_between first last o.origin && is_passed start (group_of needs o))

-- what is found among the objects whose groups come before a start
pub record AreCounted (code : Code) (order : Order) (first last : ℕ) (s : Stock) (start : Start) (found : Candidates) : Type 0 where
  pub count : found.count ≡ length (keep (is_counted code s.needs first last start) s.objects)
  pub end : IsEnd order (λ k. passes (is_counted code s.needs first last start) k s.objects ≡ true) (option_map (λ m. m.number) found.chosen)
  pub ty : IfSome found.chosen (λ m. (o : Object) → object_in m.number s.objects ≡ Some o → o.ty ≡ Record m.record_type)
  pub within : (g : Group) → is_from start g ≡ true → first ≤ g.collection

-- an object whose group is still to be looked at
abbrev pub is_ahead : List Need → Start → Object → Bool
is_ahead needs start o = option_map_or (λ g. is_from start g) (group_of needs o) false

-- Frames -------------------------------------------------------------------------------------

-- what the table empties: these collections, what waits, and the world
pub record Emptied : Type 0 where
  pub sets : List ℕ
  pub control : List T.Frame
  pub world : World

-- what a member waits over, whose number this is, where a finalization failed or did not
abbrev pub member_finished : Emptied → Bool → ℕ → Finished
member_finished t failed n = record { spot = whole_spot n; control = T.Emptying t.sets failed ∷ t.control; world = t.world }

-- the frame of these collections is the newest
pub record Empties (code : Code) (e : Engine) (first last : ℕ) (failed : Bool) (t : Emptied) : Type 0 where
  pub frames : List Frame
  pub top : reverse e.control.items ≡ FrameOf.Emptying first last failed ∷ frames
  pub holds : Holds code (kept e) (T.Emptying t.sets failed ∷ t.control) [] t.world
  pub spots : e.spots.items ≡ spots_in t.control
  pub sized : SizedBelow code t.control (heads_of t.world.activations)
  pub waits : Waits code t.control
  pub range : AreFromTo first last t.sets
