-- The newest part, whose frame waits for it: the frame comes off, or another one stands in its place.
use Rattle.std.proofs.Common.{◌≡◌, ℕ, ◌+◌, ◌-◌, ◌<◌, List, [], ◌∷◌, ◌++◌, Option, Some, None, length, refl, sym, ap, ◌∙◌, subst, arith, reverse, drop, take}
use Rattle.std.proofs.Math.Seq.{take-append_seam}
use Rattle.std.proofs.lemmas.List.{append-nil, length-reverse, reverse-append}
use Rattle.ctl_tree.specs.declared.event.Owner.{Owner}
use Rattle.ctl_tree.specs.declared.ending.Stop.TheVariants.{UseAfterFree}
use Rattle.ctl_tree.specs.declared.event.Event.{Event}
use Rattle.ctl_meaning.specs.World as W
use Rattle.ctl_meaning.specs.World.{World}
use Rattle.ctl_meaning.specs.Finalization.{Spot}
use Rattle.ctl_meaning.specs.Outcome.{Fine}
use Rattle.ctl_meaning.specs.Objects.{change_in, object_in, with_cells}
use Rattle.ctl_meaning.specs.Changes.{object_at, write_cells, opened_changes}
use Rattle.ctl_code.specs.declared.code.Begun.{Begun}
use Rattle.ctl_code.specs.declared.code.Code.{Code}
use Rattle.ctl_code.specs.declared.code.Parts.{Parts}
use Rattle.ctl_code.specs.declared.code.Parts.TheVariants as PartsOf
use Rattle.ctl_code.specs.States as T
use Rattle.ctl_code.specs.States.{Move, State}
use Rattle.ctl_code.specs.Table.{begun_of, birth, birth_of, completed, gone, initialize_by, initialize_own, operation_of, part_at, take_default}
use Rattle.ctl_code.specs.Fits.{Waits}
use Rattle.ctl_engine.specs.declared.engine.Engine.{Engine}
use Rattle.ctl_frames.specs.declared.frame.Ended.TheVariants as EndedOf
use Rattle.ctl_frames.specs.declared.frame.Frame.{Frame}
use Rattle.ctl_frames.specs.declared.frame.Frame.TheVariants as FrameOf
use Rattle.ctl_frames.specs.declared.frame.Left.{Left}
use Rattle.ctl_frames.specs.declared.frame.Mode.{Mode}
use Rattle.ctl_frames.specs.declared.frame.Mode.TheVariants as ModeOf
use Rattle.ctl_frames.specs.Filling.{IsCreation, AreLeft}
use Rattle.ctl_engine.specs.Finishing.{with_objects}
use Rattle.ctl_engine.specs.Initializing.{Awaits, CreatesPart, Grown, Grows, IsOf, ended_part, front_of, without_top}
use Rattle.ctl_frames.specs.Masters.{heads_of}
use Rattle.ctl_engine.specs.Moves.{BeforeResuming, Makes}
use Rattle.ctl_engine.specs.Shows.{ShowsMode, SizedBelow, Kept, Holds, kept}
use Rattle.ctl_frames.specs.Spots.{KeepsSpots, spots_in}
use Rattle.ctl_lifetimes.proofs.Assignments.{stops_makes}
use Rattle.ctl_engine.proofs.Operands.{other_spots}
use Rattle.ctl_engine.proofs.Owned.{cells_keep, holds_changed, object_shown}
use Rattle.ctl_lifetimes.proofs.PartFrames.{IsOver, fills, part_comes, part_goes, sized_with, spots_with, waits_with}
use Rattle.ctl_frames.proofs.Words.{many_of}

-- A creation that resumes ------------------------------------------------------------------------------

-- the frame that waits, without its part
pub grows_over : (code : Code) (e : Engine) (s : State) (f : Frame) (fs : List Frame) (x : T.Newborn) (type : ℕ) (owner : Owner) → BeforeResuming code e s → reverse e.control.items ≡ f ∷ fs → CreatesPart (f ∷ fs) → (o : IsOver code f fs (reverse e.masters.items) (heads_of s.world.activations) e.owned.items s.control)
    → x.spot ≡ o.spot → IsOf type owner x → Grows code e type owner (record { new = x; control = o.waiting; world = s.world })
grows_over code e s f fs x type owner b top creates o spot is =
    let hs = heads_of s.world.activations in
    let h = subst (λ (k : List T.Frame). Holds code (kept e) k s.operands s.world) o.is b.holds in
    let goes = part_goes code (kept e) f fs o.frame o.spot o.waiting s.operands s.world o.part top h in
    let rest : fs ≡ drop 1 (reverse e.control.items) = sym (ap (λ (l : List Frame). drop 1 l) top) in
    record {
      is_of = is;
      newest = subst (λ (l : List Frame). CreatesPart l) (sym top) creates;
      holds = subst (λ (l : List Frame). Holds code (record (kept e) { control = l }) o.waiting [] s.world) rest goes;
      spots = b.spots ∙ (ap (λ (k : List T.Frame). spots_in k) o.is ∙ (spots_with code o.part ∙ ap (λ (p : Spot). spots_in o.waiting ++ p ∷ []) (sym spot)));
      waits = subst (λ (t : Type 0). t) (waits_with code o.part) (subst (λ (k : List T.Frame). Waits code k) o.is b.waits);
      sized = subst (λ (t : Type 0). t) (sized_with code o.part hs) (subst (λ (k : List T.Frame). SizedBelow code k hs) o.is b.sized);
    }

-- there is a frame
pub has_frames : (code : Code) (e : Engine) (type : ℕ) (owner : Owner) (t : Grown) → Grows code e type owner t → 0 < length e.control.items
has_frames code e type owner t g = let some = one (reverse e.control.items) g.newest in let long = length-reverse e.control.items in omega (arith, some, long)
  where
    one : (fs : List Frame) → CreatesPart fs → 0 < length fs
    one [] c = absurd c
    one (f ∷ fs) c = omega arith

-- there is a part
pub has_spots : (code : Code) (e : Engine) (type : ℕ) (owner : Owner) (t : Grown) → Grows code e type owner t → 0 < length e.spots.items
has_spots code e type owner t g = let many = many_of e.spots.items (spots_in t.control) t.new.spot g.spots in omega (arith, many)

-- The frame comes off ----------------------------------------------------------------------------------

pub front_is : (xs below : List Spot) (x : Spot) → xs ≡ below ++ x ∷ [] → front_of xs ≡ below
front_is xs below x e =
    let many = many_of xs below x e in
    let fewer : length xs - 1 ≡ length below = omega (arith, many) in
    ap (λ n. take n xs) fewer ∙ (ap (λ (l : List Spot). take (length below) l) e ∙ take-append_seam below (x ∷ []))

-- and nothing failed; this was shown
pub ends_fine : (code : Code) (old new : Engine) (type : ℕ) (owner : Owner) (t : Grown) (shown : List Event) → Grows code old type owner t → new.mode ≡ ModeOf.Giving EndedOf.Complete → kept new ≡ ended_part (front_of old.spots.items) (kept old)
    → new.events.items ≡ old.events.items ++ shown → new.picks.items ≡ old.picks.items → Makes code old new (record { mode = T.Giving (Fine T.Complete); control = t.control; operands = []; world = t.world; shows = shown })
ends_fine code old new type owner t shown g mode kept_is events picks = record {
  mode = subst (λ (y : Mode). ShowsMode code y (T.Giving (Fine T.Complete)) t.control (heads_of t.world.activations)) (sym mode) (refl, g.sized);
  holds = subst (λ (y : Kept). Holds code y t.control [] t.world) (sym kept_is) (other_spots code (without_top (kept old)) (front_of old.spots.items) t.control [] t.world g.holds);
  spots = subst (λ (y : Mode). KeepsSpots y new.spots.items t.control []) (sym mode) (ap (λ (y : Kept). y.spots) kept_is ∙ front_is old.spots.items (spots_in t.control) t.new.spot g.spots);
  shows = events;
  picks = picks;
}

-- the object is not there
pub ends_gone : (code : Code) (old new : Engine) (type : ℕ) (owner : Owner) (t : Grown) (spots : List Spot) → Grows code old type owner t → new.mode ≡ ModeOf.Stopped UseAfterFree → kept new ≡ ended_part spots (kept old) → new.events.items ≡ old.events.items → new.picks.items ≡ old.picks.items → Makes code old new (gone t.control t.world)
ends_gone code old new type owner t spots g mode kept_is events picks =
    stops_makes code old new t.control [] t.world mode (subst (λ (y : Kept). Holds code y t.control [] t.world) (sym kept_is) (other_spots code (without_top (kept old)) spots t.control [] t.world g.holds)) events picks

-- the object of the part
pub object_there : (code : Code) (e : Engine) (type : ℕ) (owner : Owner) (t : Grown) → Grows code e type owner t → object_at t.new.spot.object t.world ≡ object_in t.new.spot.object e.stock.objects
object_there code e type owner t g = object_shown code (without_top (kept e)) t.control [] t.world t.new.spot.object g.holds

-- Another frame stands in its place --------------------------------------------------------------------

-- with this frame in place of the newest
abbrev pub with_next : Frame → Kept → Kept
with_next f e = record e { control = f ∷ drop 1 e.control }

-- the frame of the same part, with other components left
pub fills_further : (code : Code) (e : Engine) (type : ℕ) (owner : Owner) (t : Grown) (those incomplete : Left) (left before : List Begun) → Grows code e type owner t → AreLeft (begun_of code type) those left → AreLeft (begun_of code type) incomplete before → IsCreation t.control
    → Holds code (with_next (FrameOf.Filling type owner those incomplete) (kept e)) (T.Filling t.new left before ∷ t.control) [] t.world
fills_further code e type owner t those incomplete left before g are were new =
    part_comes code (without_top (kept e)) (FrameOf.Filling type owner those incomplete) (T.Filling t.new left before) t.new.spot t.control t.world (fills refl g.is_of.type_is g.is_of.owner_is are were new) g.holds

-- A component takes its default ------------------------------------------------------------------------

-- with this value in a component
abbrev pub with_default : Grown → ℕ → ℕ → Kept → Kept
with_default t offset v e = with_objects (change_in t.new.spot.object (with_cells (t.new.spot.offset + offset) (v ∷ [])) e.objects) e

-- the component is written, and the frame keeps the rest
pub record TakesDefault (old new : Engine) (type : ℕ) (owner : Owner) (t : Grown) (offset v : ℕ) (rest : Left) : Type 0 where
  pub mode : new.mode ≡ ModeOf.Giving EndedOf.Complete
  pub kept : kept new ≡ with_default t offset v (with_next (FrameOf.Filling type owner rest rest) (kept old))
  pub events : new.events.items ≡ old.events.items
  pub picks : new.picks.items ≡ old.picks.items

pub takes_default : (code : Code) (old new : Engine) (type : ℕ) (owner : Owner) (offset v : ℕ) (t : Grown) (rest : Left) (left : List Begun) (o : W.Object) → Grows code old type owner t → AreLeft (begun_of code type) rest left → object_in t.new.spot.object old.stock.objects ≡ Some o
    → TakesDefault old new type owner t offset v rest → IsCreation t.control → Makes code old new (take_default t.new offset v left (object_at t.new.spot.object t.world) t.control t.world)
unfolding opened_changes
takes_default code old new type owner offset v t rest left o g are found made within =
    let start = t.new.spot.offset + offset in
    let f = FrameOf.Filling type owner rest rest in
    let e = with_next f (kept old) in
    let k' : List T.Frame = T.Filling t.new left left ∷ t.control in
    let h = fills_further code old type owner t rest rest left left g are are within in
    let w' = write_cells t.new.spot.object start (v ∷ []) t.world in
    let h' : Holds code (with_default t offset v e) k' [] w' = holds_changed code e k' [] t.world t.new.spot.object (with_cells start (v ∷ [])) (cells_keep start (v ∷ [])) h in
    let all : Makes code old new (take_default t.new offset v left (Some o) t.control t.world) = record {
      mode = subst (λ (y : Mode). ShowsMode code y (T.Giving (Fine T.Complete)) k' (heads_of t.world.activations)) (sym made.mode) (refl, g.sized);
      holds = subst (λ (y : Kept). Holds code y k' [] w') (sym made.kept) h';
      spots = subst (λ (y : Mode). KeepsSpots y new.spots.items k' []) (sym made.mode) (ap (λ (y : Kept). y.spots) made.kept ∙ g.spots);
      shows = made.events ∙ sym (append-nil old.events.items);
      picks = made.picks;
    } in
    subst (λ (y : Option W.Object). Makes code old new (take_default t.new offset v left y t.control t.world)) (sym (object_there code old type owner t g ∙ found)) all

pub default_gone : (code : Code) (old new : Engine) (type : ℕ) (owner : Owner) (offset v : ℕ) (t : Grown) (left : List Begun) → Grows code old type owner t → object_in t.new.spot.object old.stock.objects ≡ None
    → new.mode ≡ ModeOf.Stopped UseAfterFree → kept new ≡ without_top (kept old) → new.events.items ≡ old.events.items → new.picks.items ≡ old.picks.items → Makes code old new (take_default t.new offset v left (object_at t.new.spot.object t.world) t.control t.world)
default_gone code old new type owner offset v t left g none mode kept_is events picks =
    subst (λ (y : Option W.Object). Makes code old new (take_default t.new offset v left y t.control t.world)) (sym (object_there code old type owner t g ∙ none))
    (ends_gone code old new type owner t old.spots.items g mode kept_is events picks)

-- the frames without the newest
pub rest_of : (frames more : List Frame) (x : Frame) → frames ≡ more ++ x ∷ [] → reverse more ≡ drop 1 (reverse frames)
rest_of frames more x e = sym (ap (λ (l : List Frame). drop 1 l) (ap (λ (l : List Frame). reverse l) e ∙ reverse-append more (x ∷ [])))

-- A component begins as a part of its own --------------------------------------------------------------

-- the component, behind the frame of its part, where these are left then and these were before
abbrev pub grown_in : Spot → ℕ → List Begun → List Begun → Grown → Grown
grown_in spot type rest before t = record { new = record { spot = spot; type = type; owner = t.new.owner }; control = T.Filling t.new rest before ∷ t.control; world = t.world }

pub child_awaits : (code : Code) (old mid : Engine) (type : ℕ) (owner : Owner) (part : ℕ) (spot : Spot) (t : Grown) (those incomplete : Left) (left before : List Begun) → Grows code old type owner t → AreLeft (begun_of code type) those left → AreLeft (begun_of code type) incomplete before
    → kept mid ≡ with_next (FrameOf.Filling type owner those incomplete) (kept old) → IsCreation t.control → Awaits code mid (grown_in spot part left before t).control (grown_in spot part left before t).world
child_awaits code old mid type owner part spot t those incomplete left before g are were is within = record {
  holds = subst (λ (y : Kept). Holds code y (T.Filling t.new left before ∷ t.control) [] t.world) (sym is) (fills_further code old type owner t those incomplete left before g are were within);
  spots = ap (λ (y : Kept). y.spots) is ∙ g.spots;
  sized = g.sized;
}

-- The creation is complete -----------------------------------------------------------------------------

pub completes : (code : Code) (old new : Engine) (type : ℕ) (owner : Owner) (t : Grown) (shown : List Event) → Grows code old type owner t → shown ≡ birth (operation_of (λ o. o.finalize) code type) (part_at t.new.spot) owner
    → new.mode ≡ ModeOf.Giving EndedOf.Complete → kept new ≡ ended_part (front_of old.spots.items) (kept old) → new.events.items ≡ old.events.items ++ shown → new.picks.items ≡ old.picks.items → Makes code old new (completed code t.new t.control t.world)
completes code old new type owner t shown g is mode kept_is events picks =
    let births : ℕ → Owner → List Event = λ n m. birth (operation_of (λ o. o.finalize) code n) (part_at t.new.spot) m in
    let same : shown ≡ birth_of code t.new = is ∙ (ap (λ n. births n owner) (sym g.is_of.type_is) ∙ ap (λ m. births t.new.type m) (sym g.is_of.owner_is)) in
    ends_fine code old new type owner t (birth_of code t.new) g mode kept_is (events ∙ ap (λ (l : List Event). old.events.items ++ l) same) picks

-- where the object of a controlled part is not there, it is not initialized
pub initialize_gone : (code : Code) (old new : Engine) (type : ℕ) (owner : Owner) (t : Grown) → Grows code old type owner t → object_in t.new.spot.object old.stock.objects ≡ None
    → new.mode ≡ ModeOf.Stopped UseAfterFree → kept new ≡ ended_part (front_of old.spots.items) (kept old) → new.events.items ≡ old.events.items → new.picks.items ≡ old.picks.items
    → Makes code old new (initialize_by code (operation_of (λ x. x.initialize) code type) t.new (object_at t.new.spot.object t.world) t.control t.world)
initialize_gone code old new type owner t g none mode kept_is events picks =
    subst (λ (y : Option W.Object). Makes code old new (initialize_by code (operation_of (λ x. x.initialize) code type) t.new y t.control t.world)) (sym (object_there code old type owner t g ∙ none))
    (by (operation_of (λ x. x.initialize) code type))
  where
    by : (f : Option ℕ) → Makes code old new (initialize_by code f t.new None t.control t.world)
    by f = ends_gone code old new type owner t (front_of old.spots.items) g mode kept_is events picks

-- a part that is not controlled is not initialized
pub ends_plain : (code : Code) (old new : Engine) (type : ℕ) (owner : Owner) (t : Grown) (parts : Parts) → Grows code old type owner t → (parts ≡ PartsOf.Controlled → ⊥)
    → new.mode ≡ ModeOf.Giving EndedOf.Complete → kept new ≡ ended_part (front_of old.spots.items) (kept old) → new.events.items ≡ old.events.items → new.picks.items ≡ old.picks.items → Makes code old new (initialize_own code parts t.new t.control t.world)
ends_plain code old new type owner t PartsOf.Controlled g other mode kept_is events picks = absurd (other refl)
ends_plain code old new type owner t PartsOf.Within g other mode kept_is events picks = ends_fine code old new type owner t [] g mode kept_is (events ∙ sym (append-nil old.events.items)) picks
ends_plain code old new type owner t PartsOf.Plain g other mode kept_is events picks = ends_fine code old new type owner t [] g mode kept_is (events ∙ sym (append-nil old.events.items)) picks
