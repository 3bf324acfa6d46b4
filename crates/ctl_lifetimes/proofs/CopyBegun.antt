-- An object that has taken a value is to be adjusted; where no part of it is controlled, it is a layer at once.
use Rattle.std.proofs.Common.{◌≡◌, ◌≢◌, ℕ, List, [], ◌∷◌, ◌++◌, Some, length, refl, sym, ap, ◌∙◌, subst, reverse}
use Rattle.std.proofs.lemmas.List.{append-nil}
use Rattle.ctl_tree.specs.declared.event.Owner.{Owner}
use Rattle.ctl_meaning.specs.World.{World}
use Rattle.ctl_meaning.specs.Finalization.{Spot}
use Rattle.ctl_meaning.specs.Outcome.{Fine}
use Rattle.ctl_code.specs.declared.code.Code.{Code}
use Rattle.ctl_code.specs.declared.code.Parts.{Parts}
use Rattle.ctl_code.specs.declared.code.Parts.TheVariants as PartsOf
use Rattle.ctl_code.specs.States as T
use Rattle.ctl_code.specs.States.{Move}
use Rattle.ctl_code.specs.Table.{adjust_new, controlled_of, gives, newborn, parts_of}
use Rattle.ctl_code.specs.Valid.{Leads}
use Rattle.ctl_engine.specs.declared.engine.Engine.{Engine}
use Rattle.ctl_frames.specs.declared.frame.Declared.TheVariants as DeclaredOf
use Rattle.ctl_frames.specs.declared.frame.Ended.TheVariants as EndedOf
use Rattle.ctl_frames.specs.declared.frame.Frame.{Frame}
use Rattle.ctl_frames.specs.declared.frame.Frame.TheVariants as FrameOf
use Rattle.ctl_frames.specs.declared.frame.Left.{Left}
use Rattle.ctl_frames.specs.declared.frame.Mode.{Mode}
use Rattle.ctl_frames.specs.declared.frame.Mode.TheVariants as ModeOf
use Rattle.ctl_engine.specs.Copying.{AwaitsCopy}
use Rattle.ctl_engine.specs.Declaring.{IsDeclared, NewObject}
use Rattle.ctl_frames.specs.Filling.{AreLeft}
use Rattle.ctl_engine.specs.Finishing.{with_frames}
use Rattle.ctl_engine.specs.Initializing.{Turns, alive}
use Rattle.ctl_frames.specs.Masters.{heads_of}
use Rattle.ctl_engine.specs.Moves.{Makes}
use Rattle.ctl_frames.specs.Noted.{noted_in}
use Rattle.ctl_engine.specs.Shows.{Holds, Kept, ShowsMode, kept}
use Rattle.ctl_frames.specs.Spots.{KeepsSpots, standing, whole_spot}
use Rattle.ctl_lifetimes.proofs.MadeAtOnce.{declared_lives}
use Rattle.ctl_frames.proofs.Newest.{newest_object}
use Rattle.ctl_engine.proofs.Notes.{many_paths}
use Rattle.ctl_engine.proofs.Operands.{other_spots}
use Rattle.ctl_lifetimes.proofs.PartFrames.{adjusts, part_comes}
use Rattle.ctl_engine.proofs.Stages.{Copies, stage_begins, with_frame}

-- what is noted of it is to begin behind what is noted
pub noted_from : (code : Code) (old : Engine) (x : NewObject) (first : ℕ) → first ≡ length old.noted.items → Holds code (kept old) x.control x.point.operands x.world → first ≡ length (noted_in x.control)
noted_from code old x first begins h = begins ∙ (sym (many_paths old.noted.items) ∙ ap (λ (l : List (List ℕ)). length l) h.noted)

-- where no part of it is controlled, it comes to life
pub plain_lives : (code : Code) (old new : Engine) (type place : ℕ) (owner : Owner) (x : NewObject) → IsDeclared code old type place x → parts_of code type ≡ PartsOf.Plain → Turns old new (alive (newest_object old.owned.items)) (ModeOf.At place) []
    → Makes code old new (adjust_new code (parts_of code type) T.ByDeclaration (newborn x.number type owner) x.point x.control x.world)
plain_lives code old new type place owner x c plain turns =
    subst (λ (p : Parts). Makes code old new (adjust_new code p T.ByDeclaration (newborn x.number type owner) x.point x.control x.world)) (sym plain) (declared_lives code old new type place x c turns)

-- some part is: the frame of its declaration is to wait for it
pub declared_awaits : (code : Code) (old : Engine) (type place first : ℕ) (x : NewObject) → IsDeclared code old type place x → first ≡ length old.noted.items → AwaitsCopy code old (FrameOf.Copying place first) T.ByDeclaration type x
declared_awaits code old type place first x c begins = record {
  holds = stage_begins DeclaredOf.Object (Copies first []) code (kept old) c.master c.others x.number type place x.point x.control x.world (noted_from code old x first begins c.holds, refl) c.holds c.masters c.object c.goes_on c.seen;
  spots = c.spots;
  sized = (c.stack, (c.owns, subst (λ i. Leads code i c.stack) (sym c.goes_on) c.leads), c.sized);
}

-- Its adjustment begins ----------------------------------------------------------------------------------

-- what the table makes of it, where some part is controlled
table_adjusts : (code : Code) (p : Parts) (by : T.Maker) (n t : ℕ) (owner : Owner) (x : T.Point) (k : List T.Frame) (w : World) → p ≢ PartsOf.Plain
    → adjust_new code p by (newborn n t owner) x k w ≡ gives (Fine T.Complete) (T.Adjusting (Some owner) (whole_spot n) t (controlled_of code t) ∷ T.Copying by n t [] x ∷ k) w
table_adjusts code PartsOf.Controlled by n t owner x k w some = refl
table_adjusts code PartsOf.Within by n t owner x k w some = refl
table_adjusts code PartsOf.Plain by n t owner x k w some = absurd (some refl)

pub copy_begins : (code : Code) (old new : Engine) (copy : Frame) (by : T.Maker) (type object : ℕ) (owner : Owner) (those : Left) (x : NewObject) → AwaitsCopy code old copy by type x → x.number ≡ object → parts_of code type ≢ PartsOf.Plain → AreLeft (controlled_of code type) those (controlled_of code type)
    → kept new ≡ with_frames (FrameOf.Adjusting (Some owner) type those ∷ copy ∷ reverse old.control.items) (old.spots.items ++ whole_spot object ∷ []) (kept old) → new.mode ≡ ModeOf.Giving EndedOf.Complete
    → new.events.items ≡ old.events.items → new.picks.items ≡ old.picks.items → Makes code old new (adjust_new code (parts_of code type) by (newborn object type owner) x.point x.control x.world)
copy_begins code old new copy by type object owner those x c number some left are mode events picks =
    let w = x.world in
    let p = x.point in
    let k : List T.Frame = T.Copying by x.number type [] p ∷ x.control in
    let g = T.Adjusting (Some owner) (whole_spot x.number) type (controlled_of code type) in
    let h = part_comes code (with_frame copy (kept old)) (FrameOf.Adjusting (Some owner) type those) g (whole_spot x.number) k w (adjusts tt left) c.holds in
    let whole : whole_spot object ≡ whole_spot x.number = ap whole_spot (sym number) in
    let made : Makes code old new (gives (Fine T.Complete) (g ∷ k) w) = record {
      mode = subst (λ (z : Mode). ShowsMode code z (T.Giving (Fine T.Complete)) (g ∷ k) (heads_of w.activations)) (sym mode) (refl, c.sized);
      holds = subst (λ (e : Kept). Holds code e (g ∷ k) [] w) (sym are) (other_spots code (record (kept old) { control = FrameOf.Adjusting (Some owner) type those ∷ copy ∷ reverse old.control.items }) (old.spots.items ++ whole_spot object ∷ []) (g ∷ k) [] w h);
      spots = subst (λ (z : Mode). KeepsSpots z new.spots.items (g ∷ k) []) (sym mode) (ap (λ (e : Kept). e.spots) are ∙ (ap (λ (l : List Spot). l ++ whole_spot object ∷ []) c.spots ∙ ap (λ (s : Spot). standing x.control p.operands ++ s ∷ []) whole));
      shows = events ∙ sym (append-nil old.events.items);
      picks = picks;
    } in
    subst (λ n. Makes code old new (adjust_new code (parts_of code type) by (newborn n type owner) p x.control w)) number
    (subst (λ (z : Move). Makes code old new z) (sym (table_adjusts code (parts_of code type) by x.number type owner p x.control w some)) made)
