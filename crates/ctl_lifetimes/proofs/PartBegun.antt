-- A part begins: its components are to begin, and its frame waits.
use Rattle.std.proofs.Common.{◌≡◌, ℕ, ◌-◌, List, [], ◌∷◌, ◌++◌, length, refl, sym, ap, ◌∙◌, subst, arith, drop, take}
use Rattle.std.proofs.lemmas.List.{append-nil, take_all}
use Rattle.ctl_tree.specs.declared.event.Owner.{Owner}
use Rattle.ctl_meaning.specs.Finalization.{Spot}
use Rattle.ctl_meaning.specs.Outcome.{Fine}
use Rattle.ctl_code.specs.declared.code.Begun.{Begun}
use Rattle.ctl_code.specs.declared.code.Code.{Code}
use Rattle.ctl_code.specs.States as T
use Rattle.ctl_code.specs.Table.{begin_part, begun_of}
use Rattle.ctl_engine.specs.declared.engine.Engine.{Engine}
use Rattle.ctl_frames.specs.declared.frame.Ended.TheVariants as EndedOf
use Rattle.ctl_frames.specs.declared.frame.Frame.{Frame}
use Rattle.ctl_frames.specs.declared.frame.Frame.TheVariants as FrameOf
use Rattle.ctl_frames.specs.declared.frame.Left.{Left}
use Rattle.ctl_frames.specs.declared.frame.Mode.{Mode}
use Rattle.ctl_frames.specs.declared.frame.Mode.TheVariants as ModeOf
use Rattle.ctl_frames.specs.Filling.{IsCreation, AreLeft}
use Rattle.ctl_engine.specs.Initializing.{Awaits, Grown, IsOf}
use Rattle.ctl_frames.specs.Masters.{heads_of}
use Rattle.ctl_engine.specs.Moves.{Makes}
use Rattle.ctl_engine.specs.Shows.{ShowsMode, Kept, Holds, kept}
use Rattle.ctl_frames.specs.Spots.{KeepsSpots}
use Rattle.ctl_engine.proofs.Operands.{other_spots}
use Rattle.ctl_lifetimes.proofs.PartFrames.{fills, part_comes}

-- all components are left
pub all_left : (all : List Begun) (those : Left) → those.first ≡ 0 → those.last ≡ length all → AreLeft all those all
all_left all those first last =
    let count : those.last - those.first ≡ length all = omega (arith, first, last) in
    record {
      rising = omega (arith, first);
      within = omega (arith, last);
      are = sym (ap (λ n. take (those.last - those.first) (drop n all)) first ∙ (ap (λ n. take n all) count ∙ take_all (length all) all (omega arith)));
    }

-- with this frame, and these parts
abbrev pub with_part_frame : Frame → List Spot → Kept → Kept
with_part_frame f spots e = record e { control = f ∷ e.control; spots = spots }

pub begins_makes : (code : Code) (old new : Engine) (t : Grown) (type : ℕ) (owner : Owner) (those : Left) (spots : List Spot) → Awaits code old t.control t.world → IsOf type owner t.new → those.first ≡ 0 → those.last ≡ length (begun_of code type)
    → spots ≡ old.spots.items ++ t.new.spot ∷ [] → kept new ≡ with_part_frame (FrameOf.Filling type owner those those) spots (kept old) → new.mode ≡ ModeOf.Giving EndedOf.Complete → new.events.items ≡ old.events.items → new.picks.items ≡ old.picks.items
    → IsCreation t.control → Makes code old new (begin_part code t.new t.control t.world)
begins_makes code old new t type owner those spots a is first last added kept_is mode events picks within =
    let all = begun_of code t.new.type in
    let same : begun_of code type ≡ all = ap (λ n. begun_of code n) (sym is.type_is) in
    let left : AreLeft (begun_of code type) those all = subst (λ (l : List Begun). AreLeft (begun_of code type) those l) same (all_left (begun_of code type) those first last) in
    let f = FrameOf.Filling type owner those those in
    let g = T.Filling t.new all all in
    let h = part_comes code (kept old) f g t.new.spot t.control t.world (fills refl is.type_is is.owner_is left left within) a.holds in
    record {
      mode = subst (λ (y : Mode). ShowsMode code y (T.Giving (Fine T.Complete)) (g ∷ t.control) (heads_of t.world.activations)) (sym mode) (refl, a.sized);
      holds = subst (λ (y : Kept). Holds code y (g ∷ t.control) [] t.world) (sym kept_is) (other_spots code (record (kept old) { control = f ∷ (kept old).control }) spots (g ∷ t.control) [] t.world h);
      spots = subst (λ (y : Mode). KeepsSpots y new.spots.items (g ∷ t.control) []) (sym mode) (ap (λ (y : Kept). y.spots) kept_is ∙ (added ∙ ap (λ (l : List Spot). l ++ t.new.spot ∷ []) a.spots));
      shows = events ∙ sym (append-nil old.events.items);
      picks = picks;
    }
