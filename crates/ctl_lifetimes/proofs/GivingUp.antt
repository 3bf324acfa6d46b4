-- The creation of a part is given up: what is complete of it is finalized, and then the exception goes on.
use Rattle.std.proofs.Common.{◌≡◌, ℕ, ◌<◌, List, [], ◌∷◌, ◌++◌, Bool, true, false, length, refl, sym, ap, ◌∙◌, subst, arith, reverse, drop}
use Rattle.std.specs.Prelude.{if◌then◌else◌}
use Rattle.std.proofs.lemmas.List.{length-reverse}
use Rattle.ctl_tree.specs.declared.event.Cause.TheVariants.{Failed}
use Rattle.ctl_meaning.specs.World.{World}
use Rattle.ctl_meaning.specs.Changes.{begin_finalization, end_finalization, opened_changes}
use Rattle.ctl_meaning.specs.Finalization.{Spot, is_whole}
use Rattle.ctl_meaning.specs.Outcome.{Tried, Fine, Raised}
use Rattle.ctl_code.specs.declared.code.Begun.{Begun}
use Rattle.ctl_code.specs.declared.code.Code.{Code}
use Rattle.ctl_code.specs.States as T
use Rattle.ctl_code.specs.States.{Giving, Move, State, Word}
use Rattle.ctl_code.specs.Table.{act, by_failing, controlled_of, fail, failed_with, says_failed}
use Rattle.ctl_engine.specs.declared.engine.Engine.{Engine}
use Rattle.ctl_frames.specs.declared.frame.Apart.{Apart}
use Rattle.ctl_frames.specs.declared.frame.Ended.TheVariants as EndedOf
use Rattle.ctl_frames.specs.declared.frame.Frame.{Frame}
use Rattle.ctl_frames.specs.declared.frame.Frame.TheVariants as FrameOf
use Rattle.ctl_frames.specs.declared.frame.Master.{Master}
use Rattle.ctl_frames.specs.declared.frame.Mode.TheVariants as ModeOf
use Rattle.ctl_frames.specs.declared.frame.Owned.{Owned}
use Rattle.ctl_frames.specs.Filling.{AllLeaveSame, AreApart}
use Rattle.ctl_engine.specs.Finishing.{DropsFrame, Finished, Finishes, with_frames, with_objects}
use Rattle.ctl_lifetimes.specs.GivingUp.{Creates, GivenUp}
use Rattle.ctl_frames.specs.Masters.{Head, heads_of}
use Rattle.ctl_engine.specs.Moves.{BeforeResuming, Makes}
use Rattle.ctl_engine.specs.Shows.{Holds, Kept, SizedBelow, Wait, filling_waits, initializing_waits, kept}
use Rattle.ctl_frames.specs.Spots.{spots_in}
use Rattle.ctl_lifetimes.proofs.AfterFinalize.{drops_to, failing_on_top, part_in}
use Rattle.ctl_lifetimes.proofs.Finishing.{finished_gives}
use Rattle.ctl_engine.proofs.Following.{makes_later}
use Rattle.ctl_engine.proofs.Operands.{other_spots}
use Rattle.ctl_lifetimes.proofs.PartFrames.{IsPartFrame, fails, fills, finalizes_parts, initializes, part_comes, part_goes, sized_with, spots_with}

-- The frame that gives up --------------------------------------------------------------------------------

-- the frame of the machine, and that of the table
pub record IsCreating (code : Code) (fs : List Frame) (k : List T.Frame) (s : Spot) (behind : List T.Frame) : Type 0 where
  pub top : Frame
  pub below : List Frame
  pub frame : T.Frame
  pub control : fs ≡ top ∷ below
  pub is : k ≡ frame ∷ behind
  pub part : IsPartFrame code behind top frame s

filling_so : (code : Code) {fs : List Frame} {ms : List Master} {hs : List Head} {owned : List Owned} {x : T.Newborn} {left incomplete : List Begun} {k : List T.Frame} (s : Spot) → x.spot ≡ s → Wait fs ms hs owned (T.Filling x left incomplete ∷ k) → AllLeaveSame code fs (T.Filling x left incomplete ∷ k)
    → IsCreating code fs (T.Filling x left incomplete ∷ k) s k
filling_so code s is (filling_waits i j w) h = record { top = _; below = _; frame = _; control = refl; is = refl; part = fills is i j h.0.0 h.0.1 h.0.2 }

initializing_so : (code : Code) {fs : List Frame} {ms : List Master} {hs : List Head} {owned : List Owned} {x : T.Newborn} {k : List T.Frame} (s : Spot) → x.spot ≡ s → Wait fs ms hs owned (T.Initializing x ∷ k) → IsCreating code fs (T.Initializing x ∷ k) s k
initializing_so code s is (initializing_waits i j w) = record { top = _; below = _; frame = _; control = refl; is = refl; part = initializes is i j }

creating_so : (code : Code) (e : Kept) (k : List T.Frame) (ops : List Word) (w : World) (s : Spot) (behind : List T.Frame) → Holds code e k ops w → Creates k s behind → IsCreating code e.control k s behind
creating_so code e (T.Filling x left incomplete ∷ k) ops w s behind h c = subst (λ (l : List T.Frame). IsCreating code e.control (T.Filling x left incomplete ∷ k) s l) c.1 (filling_so code s c.0 h.waits h.left)
creating_so code e (T.Initializing x ∷ k) ops w s behind h c = subst (λ (l : List T.Frame). IsCreating code e.control (T.Initializing x ∷ k) s l) c.1 (initializing_so code s c.0 h.waits)
creating_so code e _ ops w s behind h c = elim c [ ]

pub creating_of : (code : Code) (e : Engine) (s : State) (t : GivenUp) → BeforeResuming code e s → Creates s.control t.spot t.control → IsCreating code (reverse e.control.items) s.control t.spot t.control
creating_of code e s t b c = creating_so code (kept e) s.control s.operands s.world t.spot t.control b.holds c

-- its part is the newest
pub newest_part : (code : Code) (e : Engine) (s : State) (t : GivenUp) → BeforeResuming code e s → Creates s.control t.spot t.control → e.spots.items ≡ spots_in t.control ++ t.spot ∷ []
newest_part code e s t b c =
    let u = creating_of code e s t b c in
    b.spots ∙ (ap (λ (k : List T.Frame). spots_in k) u.is ∙ spots_with code u.part)

pub some_frame : (code : Code) (e : Engine) (s : State) (t : GivenUp) → BeforeResuming code e s → Creates s.control t.spot t.control → 0 < length e.control.items
some_frame code e s t b c =
    let u = creating_of code e s t b c in
    let long : length (reverse e.control.items) ≡ length (u.top ∷ u.below) = ap (λ (l : List Frame). length l) u.control in
    let same = length-reverse e.control.items in
    omega (arith, long, same)

-- It gives up --------------------------------------------------------------------------------------------

abbrev pub given_up : GivenUp → ℕ → World → Finished
given_up t e w = record { spot = t.spot; control = T.FinalizingParts Failed t.spot t.complete false ∷ T.Failing t.spot e ∷ t.control; world = begin_finalization t.spot.object w }

gives_up_so : (code : Code) (e : Kept) (f : Frame) (fs : List Frame) (g : T.Frame) (type : ℕ) (those : Apart) (exception : ℕ) (t : GivenUp) (ops : List Word) (w : World) → IsPartFrame code t.control f g t.spot → e.control ≡ f ∷ fs → AreApart (controlled_of code type) those t.complete → Holds code e (g ∷ t.control) ops w
    → Holds code (with_frames (FrameOf.FinalizingParts Failed type those false ∷ FrameOf.Failing exception ∷ fs) e.spots e) (T.FinalizingParts Failed t.spot t.complete false ∷ T.Failing t.spot exception ∷ t.control) [] w
gives_up_so code e f fs g type those exception t ops w part top apart h =
    let gone = part_goes code e f fs g t.spot t.control ops w part top h in
    let failing = part_comes code (record e { control = fs }) (FrameOf.Failing exception) (T.Failing t.spot exception) t.spot t.control w fails gone in
    part_comes code (record e { control = FrameOf.Failing exception ∷ fs }) (FrameOf.FinalizingParts Failed type those false) (T.FinalizingParts Failed t.spot t.complete false) t.spot (T.Failing t.spot exception ∷ t.control) w (finalizes_parts apart) failing

pub gives_up : (code : Code) (old mid new : Engine) (type : ℕ) (those : Apart) (exception : ℕ) (s : State) (t : GivenUp) → BeforeResuming code old s → Creates s.control t.spot t.control → AreApart (controlled_of code type) those t.complete
    → mid.control.items ≡ old.control.items → Holds code (kept mid) s.control s.operands (begin_finalization t.spot.object s.world)
    → kept new ≡ with_frames (FrameOf.FinalizingParts Failed type those false ∷ FrameOf.Failing exception ∷ drop 1 (reverse old.control.items)) (old.spots.items ++ t.spot ∷ []) (kept mid) → new.mode ≡ ModeOf.Giving EndedOf.Complete
    → new.events.items ≡ old.events.items → new.picks.items ≡ old.picks.items → Makes code old new (fail t.spot t.complete exception t.control s.world)
unfolding opened_changes
gives_up code old mid new type those exception s t b c apart control begun are mode events picks =
    let u = creating_of code old s t b c in
    let w = begin_finalization t.spot.object s.world in
    let x = given_up t exception s.world in
    let top : reverse mid.control.items ≡ u.top ∷ u.below = ap (λ (l : List Frame). reverse l) control ∙ u.control in
    let rest : u.below ≡ drop 1 (reverse old.control.items) = sym (ap (λ (l : List Frame). drop 1 l) u.control) in
    let h = gives_up_so code (kept mid) u.top u.below u.frame type those exception t s.operands w u.part top apart (subst (λ (l : List T.Frame). Holds code (kept mid) l s.operands w) u.is begun) in
    let two = λ (l : List Frame). FrameOf.FinalizingParts Failed type those false ∷ FrameOf.Failing exception ∷ l in
    let finishes : Finishes code new x = record {
      holds = subst (λ (e : Kept). Holds code e x.control [] w) (ap (λ (l : List Frame). with_frames (FrameOf.FinalizingParts Failed type those false ∷ FrameOf.Failing exception ∷ l) (old.spots.items ++ t.spot ∷ []) (kept mid)) rest ∙ sym are)
          (other_spots code (with_frames (FrameOf.FinalizingParts Failed type those false ∷ FrameOf.Failing exception ∷ u.below) mid.spots.items (kept mid)) (old.spots.items ++ t.spot ∷ []) x.control [] w h);
      spots = ap (λ (e : Kept). e.spots) are ∙ ap (λ (l : List Spot). l ++ t.spot ∷ []) (newest_part code old s t b c);
      sized = subst (λ (z : Type 0). z) (sized_with code u.part (heads_of s.world.activations)) (subst (λ (l : List T.Frame). SizedBelow code l (heads_of s.world.activations)) u.is b.sized);
    } in
    finished_gives code old new x EndedOf.Complete (Fine T.Complete) finishes mode refl events picks

-- It has been finalized ----------------------------------------------------------------------------------

heads_after : (b : Bool) (n : ℕ) (w : World) → heads_of (if b then end_finalization n w else w).activations ≡ heads_of w.activations
unfolding opened_changes
heads_after true n w = refl
heads_after false n w = refl

failing_moves : (code : Code) (tried : Tried T.Handed) (p : Spot) (e : ℕ) (all rest : List T.Frame) (ops : List Word) (w : World) → all ≡ T.Failing p e ∷ rest → act code (Giving tried) all ops w 0 ≡ by_failing tried p e rest w
failing_moves code tried p e all rest ops w is = rw is refl

pub fails_further : (code : Code) (old mid new : Engine) (tried : Tried T.Handed) (e raised : ℕ) (s : State) (fs : List Frame) (popped : Spot) → BeforeResuming code old s → reverse old.control.items ≡ FrameOf.Failing e ∷ fs → DropsFrame old mid popped
    → ((k : List T.Frame) (ops : List Word) (w : World) → Holds code (kept mid) k ops w → Holds code (kept new) k ops (if is_whole popped then end_finalization popped.object w else w))
    → kept new ≡ with_objects new.stock.objects (kept mid) → new.mode ≡ ModeOf.Giving (EndedOf.Raised raised) → raised ≡ failed_with e (says_failed tried) → new.events.items ≡ mid.events.items → new.picks.items ≡ mid.picks.items
    → Makes code old new (act code (Giving tried) s.control s.operands s.world 0)
fails_further code old mid new tried e raised s fs popped b top d holds are mode is events picks =
    let p = part_in s.control in
    let k = drop 1 s.control in
    let there = failing_on_top code old s e fs b top in
    let x = drops_to code old mid s (FrameOf.Failing e) fs (T.Failing p e) p popped b there refl fails top d in
    let w = if is_whole p then end_finalization p.object s.world else s.world in
    let h : Holds code (kept new) k [] w = subst (λ (y : Spot). Holds code (kept new) k [] (if is_whole y then end_finalization y.object s.world else s.world)) x.1 (holds k [] s.world x.0.holds) in
    let f : Finishes code new (record { spot = p; control = k; world = w }) = record {
      holds = h;
      spots = ap (λ (y : Kept). y.spots) are ∙ x.0.spots;
      sized = subst (λ (l : List Head). SizedBelow code k l) (sym (heads_after (is_whole p) p.object s.world)) x.0.sized;
    } in
    let made = finished_gives code mid new (record { spot = p; control = k; world = w }) (EndedOf.Raised raised) (Raised (failed_with e (says_failed tried))) f mode (ap (λ (n : ℕ). Raised n) is) events picks in
    subst (λ (m : Move). Makes code old new m) (sym (failing_moves code tried p e s.control k s.operands s.world there)) (makes_later code old mid new _ d.events d.picks made)
