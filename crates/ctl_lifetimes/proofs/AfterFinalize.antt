-- Frames that wait for a part which is finalized take what has ended; what frames do alike that wait for a part.
use Rattle.std.proofs.Common.{◌≡◌, ℕ, ◌+◌, ◌-◌, ◌<◌, List, [], ◌∷◌, Bool, true, false, length, refl, sym, ap, ◌∙◌, subst, arith, reverse, drop}
use Rattle.std.specs.Prelude.{◌||◌}
use Rattle.std.proofs.lemmas.List.{append-nil, length-reverse}
use Rattle.ctl_tree.specs.declared.event.Cause.{Cause}
use Rattle.ctl_tree.specs.declared.event.Cause.TheVariants as CauseOf
use Rattle.ctl_tree.specs.declared.request.Order.{Order}
use Rattle.ctl_meaning.specs.World.{World}
use Rattle.ctl_meaning.specs.Finalization.{Spot}
use Rattle.ctl_meaning.specs.Outcome.{Tried, Fine, Raised, program_error}
use Rattle.ctl_code.specs.declared.code.Begun.{Begun}
use Rattle.ctl_code.specs.declared.code.Code.{Code}
use Rattle.ctl_code.specs.States as T
use Rattle.ctl_code.specs.States.{Giving, Move, State, Word, whole_spot}
use Rattle.ctl_code.specs.Table.{act, by_frame, by_own_finalize, controlled_of, finalize_left, finalize_next, frame_width, gives, handed, says_failed, width}
use Rattle.ctl_code.specs.Fits.{Waits}
use Rattle.ctl_engine.specs.declared.engine.Engine.{Engine}
use Rattle.ctl_frames.specs.declared.frame.Apart.{Apart}
use Rattle.ctl_frames.specs.declared.frame.Ended.{Ended}
use Rattle.ctl_frames.specs.declared.frame.Ended.TheVariants as EndedOf
use Rattle.ctl_frames.specs.declared.frame.Frame.{Frame}
use Rattle.ctl_frames.specs.declared.frame.Frame.TheVariants as FrameOf
use Rattle.ctl_frames.specs.declared.frame.Master.{Master}
use Rattle.ctl_frames.specs.declared.frame.Mode.TheVariants as ModeOf
use Rattle.ctl_frames.specs.declared.frame.Owned.{Owned}
use Rattle.ctl_frames.specs.Filling.{AllLeaveSame, AreApart, noted_among, pick_among}
use Rattle.ctl_engine.specs.Finishing.{DropsFrame, FinalizesParts, Finished, Finishes, with_frames}
use Rattle.ctl_frames.specs.Masters.{Head, heads_of}
use Rattle.ctl_engine.specs.Moves.{BeforeResuming, Chooses, Makes, Resumes}
use Rattle.ctl_engine.specs.Shows.{Holds, Kept, SizedBelow, Wait, failing_waits, finalizing_own_waits, finalizing_parts_waits, kept, tried_of}
use Rattle.ctl_frames.specs.Spots.{spots_in}
use Rattle.ctl_lifetimes.proofs.AfterInitialize.{fine_of}
use Rattle.ctl_frames.proofs.Chosen.{count_apart}
use Rattle.ctl_lifetimes.proofs.Finishing.{finished_gives, nothing_there, same_finishes}
use Rattle.ctl_lifetimes.proofs.NextPart.{chooses}
use Rattle.ctl_engine.proofs.Following.{makes_later}
use Rattle.ctl_engine.proofs.Leaves.{tail_is}
use Rattle.ctl_engine.proofs.Operands.{other_spots}
use Rattle.ctl_lifetimes.proofs.PartFrames.{IsPartFrame, finalizes_own, finalizes_parts, part_goes, sized_with, spots_with}
use Rattle.ctl_engine.proofs.Plain.{no_operands}
use Rattle.ctl_frames.proofs.Words.{same_front}

-- The newest frame ---------------------------------------------------------------------------------------

-- the part that the newest frame waits for, and those of its components that are left
abbrev pub part_in : List T.Frame → Spot
part_in (T.Failing s e ∷ k) = s
part_in (T.Adjusting creation s t left ∷ k) = s
part_in (T.AdjustingOwn creation s t failed ∷ k) = s
part_in (T.UndoingOwn s t ∷ k) = s
part_in (T.UndoingParts s left ∷ k) = s
part_in (T.FinalizingOwn cause s t ∷ k) = s
part_in (T.FinalizingParts cause s left failed ∷ k) = s
part_in _ = whole_spot 0

abbrev pub left_in : List T.Frame → List Begun
left_in (T.UndoingParts s left ∷ k) = left
left_in (T.FinalizingParts cause s left failed ∷ k) = left
left_in (T.Adjusting creation s t left ∷ k) = left
left_in _ = []

-- what the table finalizes, or adjusts
abbrev pub finished_in : List T.Frame → World → Finished
finished_in k w = record { spot = part_in k; control = drop 1 k; world = w }

own_top : {cause : Cause} {t : ℕ} {fs : List Frame} {ms : List Master} {hs : List Head} {owned : List Owned} {k : List T.Frame} → Wait (FrameOf.FinalizingOwn cause t ∷ fs) ms hs owned k → (s : Spot) × (rest : List T.Frame) × (k ≡ T.FinalizingOwn cause s t ∷ rest)
own_top (finalizing_own_waits {s = s} {k = k} w) = (s, k, refl)

failing_top : {e : ℕ} {fs : List Frame} {ms : List Master} {hs : List Head} {owned : List Owned} {k : List T.Frame} → Wait (FrameOf.Failing e ∷ fs) ms hs owned k → (s : Spot) × (rest : List T.Frame) × (k ≡ T.Failing s e ∷ rest)
failing_top (failing_waits {s = s} {k = k} w) = (s, k, refl)

parts_top : {cause : Cause} {t : ℕ} {those : Apart} {failed : Bool} {fs : List Frame} {ms : List Master} {hs : List Head} {owned : List Owned} {k : List T.Frame} → Wait (FrameOf.FinalizingParts cause t those failed ∷ fs) ms hs owned k
    → (s : Spot) × (left : List Begun) × (rest : List T.Frame) × (k ≡ T.FinalizingParts cause s left failed ∷ rest)
parts_top (finalizing_parts_waits {s = s} {left = left} {k = k} w) = (s, left, k, refl)

pub waits_so : (code : Code) (e : Engine) (s : State) (f : Frame) (fs : List Frame) → BeforeResuming code e s → reverse e.control.items ≡ f ∷ fs → Wait (f ∷ fs) (reverse e.masters.items) (heads_of s.world.activations) e.owned.items s.control
waits_so code e s f fs b top = subst (λ (l : List Frame). Wait l (reverse e.masters.items) (heads_of s.world.activations) e.owned.items s.control) top b.holds.waits

pub own_on_top : (code : Code) (e : Engine) (s : State) (cause : Cause) (t : ℕ) (fs : List Frame) → BeforeResuming code e s → reverse e.control.items ≡ FrameOf.FinalizingOwn cause t ∷ fs → s.control ≡ T.FinalizingOwn cause (part_in s.control) t ∷ drop 1 s.control
own_on_top code e s cause t fs b top =
    let u = own_top (waits_so code e s (FrameOf.FinalizingOwn cause t) fs b top) in
    subst (λ (k : List T.Frame). k ≡ T.FinalizingOwn cause (part_in k) t ∷ drop 1 k) (sym u.2) refl

pub failing_on_top : (code : Code) (e : Engine) (s : State) (x : ℕ) (fs : List Frame) → BeforeResuming code e s → reverse e.control.items ≡ FrameOf.Failing x ∷ fs → s.control ≡ T.Failing (part_in s.control) x ∷ drop 1 s.control
failing_on_top code e s x fs b top =
    let u = failing_top (waits_so code e s (FrameOf.Failing x) fs b top) in
    subst (λ (k : List T.Frame). k ≡ T.Failing (part_in k) x ∷ drop 1 k) (sym u.2) refl

pub parts_on_top : (code : Code) (e : Engine) (s : State) (cause : Cause) (t : ℕ) (those : Apart) (failed : Bool) (fs : List Frame) → BeforeResuming code e s → reverse e.control.items ≡ FrameOf.FinalizingParts cause t those failed ∷ fs
    → s.control ≡ T.FinalizingParts cause (part_in s.control) (left_in s.control) failed ∷ drop 1 s.control
parts_on_top code e s cause t those failed fs b top =
    let u = parts_top (waits_so code e s (FrameOf.FinalizingParts cause t those failed) fs b top) in
    subst (λ (k : List T.Frame). k ≡ T.FinalizingParts cause (part_in k) (left_in k) failed ∷ drop 1 k) (sym u.3) refl

-- It is dropped ------------------------------------------------------------------------------------------

pub dropped : (code : Code) (old new : Engine) (f : Frame) (fs : List Frame) (g : T.Frame) (s popped : Spot) (k : List T.Frame) (ops : List Word) (w : World) → IsPartFrame code k f g s → Holds code (kept old) (g ∷ k) ops w → old.spots.items ≡ spots_in (g ∷ k) → SizedBelow code (g ∷ k) (heads_of w.activations)
    → reverse old.control.items ≡ f ∷ fs → DropsFrame old new popped → Finishes code new (record { spot = s; control = k; world = w }) × (popped ≡ s)
dropped code old new f fs g s popped k ops w is h spots sized top d =
    let rest : reverse new.control.items ≡ fs = tail_is d.frame.0 f (reverse new.control.items) fs (sym d.frame.1 ∙ top) in
    let front = same_front new.spots.items (spots_in k) popped s (sym d.spot ∙ (spots ∙ spots_with code is)) in
    let are : with_frames fs new.spots.items (kept old) ≡ kept new = ap (λ (l : List Frame). with_frames l new.spots.items (kept old)) (sym rest) ∙ sym d.kept in (
      record {
        holds = subst (λ (e : Kept). Holds code e k [] w) are (other_spots code (record (kept old) { control = fs }) new.spots.items k [] w (part_goes code (kept old) f fs g s k ops w is top h));
        spots = front.0;
        sized = subst (λ (x : Type 0). x) (sized_with code is (heads_of w.activations)) sized;
      },
      front.1,
    )

-- below the newest frame, whatever it is
pub drops_to : (code : Code) (old new : Engine) (s : State) (f : Frame) (fs : List Frame) (g : T.Frame) (p popped : Spot) → BeforeResuming code old s → s.control ≡ g ∷ drop 1 s.control → part_in s.control ≡ p → IsPartFrame code (drop 1 s.control) f g p → reverse old.control.items ≡ f ∷ fs → DropsFrame old new popped
    → Finishes code new (finished_in s.control s.world) × (popped ≡ part_in s.control)
drops_to code old new s f fs g p popped b is part frame top d =
    let k = drop 1 s.control in
    let x = dropped code old new f fs g p popped k s.operands s.world frame (subst (λ (l : List T.Frame). Holds code (kept old) l s.operands s.world) is b.holds) (b.spots ∙ ap (λ (l : List T.Frame). spots_in l) is) (subst (λ (l : List T.Frame). SizedBelow code l (heads_of s.world.activations)) is b.sized) top d in (
      subst (λ (y : Spot). Finishes code new (record { spot = y; control = k; world = s.world })) (sym part) x.0,
      x.1 ∙ sym part,
    )

-- Its own Finalize has ended -------------------------------------------------------------------------------

own_fine : (code : Code) (ended : Ended) (h : T.Handed) (cause : Cause) (s : Spot) (t : ℕ) (k : List T.Frame) (w : World) → tried_of ended ≡ Fine h → by_own_finalize code (tried_of ended) cause s t k w ≡ finalize_left cause s (controlled_of code t) false k w
own_fine code ended h cause s t k w is = rw is refl

own_raised : (code : Code) (cause : Cause) (e : ℕ) (s : Spot) (t : ℕ) (k : List T.Frame) (w : World) → (cause ≡ CauseOf.Assign → ⊥) → by_own_finalize code (Raised e) cause s t k w ≡ finalize_left cause s (controlled_of code t) true k w
own_raised code CauseOf.Scope e s t k w none = refl
own_raised code CauseOf.Collection e s t k w none = refl
own_raised code CauseOf.Free e s t k w none = refl
own_raised code CauseOf.Subpool e s t k w none = refl
own_raised code CauseOf.Assign e s t k w none = absurd (none refl)
own_raised code CauseOf.Failed e s t k w none = refl

own_moves : (code : Code) (tried : Tried T.Handed) (cause : Cause) (p : Spot) (t : ℕ) (all rest : List T.Frame) (ops : List Word) (w : World) → all ≡ T.FinalizingOwn cause p t ∷ rest → act code (Giving tried) all ops w 0 ≡ by_own_finalize code tried cause p t rest w
own_moves code tried cause p t all rest ops w is = rw is refl

pub own_resumes : (code : Code) (old mid new : Engine) (tried : Tried T.Handed) (cause : Cause) (t : ℕ) (s : State) (fs : List Frame) (move : Move) → BeforeResuming code old s → reverse old.control.items ≡ FrameOf.FinalizingOwn cause t ∷ fs
    → by_own_finalize code tried cause (part_in s.control) t (drop 1 s.control) s.world ≡ move → mid.events.items ≡ old.events.items → mid.picks.items ≡ old.picks.items → Makes code mid new move → Makes code old new (act code (Giving tried) s.control s.operands s.world 0)
own_resumes code old mid new tried cause t s fs move b top is events picks made =
    subst (λ (m : Move). Makes code old new m) (sym (own_moves code tried cause (part_in s.control) t s.control (drop 1 s.control) s.operands s.world (own_on_top code old s cause t fs b top) ∙ is))
    (makes_later code old mid new move events picks made)

pub own_drops : (code : Code) (old new : Engine) (s : State) (cause : Cause) (t : ℕ) (fs : List Frame) (popped : Spot) → BeforeResuming code old s → reverse old.control.items ≡ FrameOf.FinalizingOwn cause t ∷ fs → DropsFrame old new popped → Finishes code new (finished_in s.control s.world) × (popped ≡ part_in s.control)
own_drops code old new s cause t fs popped b top d =
    drops_to code old new s (FrameOf.FinalizingOwn cause t) fs (T.FinalizingOwn cause (part_in s.control) t) (part_in s.control) popped b (own_on_top code old s cause t fs b top) refl finalizes_own top d

pub after_fine : (code : Code) (old mid new : Engine) (ended : Ended) (cause : Cause) (t : ℕ) (s : State) (fs : List Frame) (p : Spot) → BeforeResuming code old s → reverse old.control.items ≡ FrameOf.FinalizingOwn cause t ∷ fs → ((e : ℕ) → ended ≡ EndedOf.Raised e → ⊥) → DropsFrame old mid p
    → (let x = finished_in s.control s.world in Makes code mid new (finalize_left cause x.spot (controlled_of code t) false x.control x.world)) → Makes code old new (act code (Giving (tried_of ended)) s.control s.operands s.world 0)
after_fine code old mid new ended cause t s fs p b top none d made =
    let h = fine_of ended none in
    own_resumes code old mid new (tried_of ended) cause t s fs _ b top (own_fine code ended h.0 cause (part_in s.control) t (drop 1 s.control) s.world h.1) d.events d.picks made

pub after_raised : (code : Code) (old mid new : Engine) (ended : Ended) (e : ℕ) (cause : Cause) (t : ℕ) (s : State) (fs : List Frame) (p : Spot) → BeforeResuming code old s → reverse old.control.items ≡ FrameOf.FinalizingOwn cause t ∷ fs → ended ≡ EndedOf.Raised e → (cause ≡ CauseOf.Assign → ⊥) → DropsFrame old mid p
    → (let x = finished_in s.control s.world in Makes code mid new (finalize_left cause x.spot (controlled_of code t) true x.control x.world)) → Makes code old new (act code (Giving (tried_of ended)) s.control s.operands s.world 0)
after_raised code old mid new ended e cause t s fs p b top is none d made =
    own_resumes code old mid new (tried_of ended) cause t s fs _ b top (ap (λ (x : Ended). by_own_finalize code (tried_of x) cause (part_in s.control) t (drop 1 s.control) s.world) is ∙ own_raised code cause e (part_in s.control) t (drop 1 s.control) s.world none) d.events d.picks made

own_raised_assigning : (code : Code) (e : ℕ) (s : Spot) (t : ℕ) (k : List T.Frame) (w : World) → by_own_finalize code (Raised e) CauseOf.Assign s t k w ≡ gives (Raised program_error) k w
own_raised_assigning code e s t k w = refl

program_error_is : (e : ℕ) → e ≡ 1 → e ≡ program_error
unfolding program_error
program_error_is e is = is

pub after_assigning : (code : Code) (old mid new : Engine) (ended : Ended) (e raised : ℕ) (cause : Cause) (t : ℕ) (s : State) (fs : List Frame) (p : Spot) → BeforeResuming code old s → reverse old.control.items ≡ FrameOf.FinalizingOwn cause t ∷ fs → ended ≡ EndedOf.Raised e → cause ≡ CauseOf.Assign → DropsFrame old mid p
    → kept new ≡ kept mid → new.events.items ≡ mid.events.items → new.picks.items ≡ mid.picks.items → new.mode ≡ ModeOf.Giving (EndedOf.Raised raised) → raised ≡ 1 → Makes code old new (act code (Giving (tried_of ended)) s.control s.operands s.world 0)
after_assigning code old mid new ended e raised cause t s fs p b top is assign d same events picks mode number =
    let x = finished_in s.control s.world in
    let f = same_finishes code mid new x (own_drops code old mid s cause t fs p b top d).0 same in
    let made = finished_gives code mid new x (EndedOf.Raised raised) (Raised program_error) f mode (ap (λ (n : ℕ). Raised n) (program_error_is raised number)) events picks in
    own_resumes code old mid new (tried_of ended) cause t s fs _ b top
    (ap (λ (y : Ended). by_own_finalize code (tried_of y) cause (part_in s.control) t (drop 1 s.control) s.world) is
    ∙ (ap (λ (c : Cause). by_own_finalize code (Raised e) c (part_in s.control) t (drop 1 s.control) s.world) assign ∙ own_raised_assigning code e (part_in s.control) t (drop 1 s.control) s.world))
    d.events d.picks made

-- A component has been finalized ---------------------------------------------------------------------------

-- those that are left
pub parts_left : (code : Code) (old : Engine) (s : State) (cause : Cause) (t : ℕ) (those : Apart) (failed : Bool) (fs : List Frame) → BeforeResuming code old s → reverse old.control.items ≡ FrameOf.FinalizingParts cause t those failed ∷ fs → AreApart (controlled_of code t) those (left_in s.control)
parts_left code old s cause t those failed fs b top =
    let is = parts_on_top code old s cause t those failed fs b top in
    (subst (λ (l : List Frame). AllLeaveSame code l (T.FinalizingParts cause (part_in s.control) (left_in s.control) failed ∷ drop 1 s.control)) top (subst (λ (k : List T.Frame). AllLeaveSame code (reverse old.control.items) k) is b.holds.left)).0

pub parts_drop : (code : Code) (old new : Engine) (s : State) (cause : Cause) (t : ℕ) (those : Apart) (failed : Bool) (fs : List Frame) (popped : Spot) → BeforeResuming code old s → reverse old.control.items ≡ FrameOf.FinalizingParts cause t those failed ∷ fs → DropsFrame old new popped
    → Finishes code new (finished_in s.control s.world) × (popped ≡ part_in s.control)
parts_drop code old new s cause t those failed fs popped b top d =
    let is = parts_on_top code old s cause t those failed fs b top in
    drops_to code old new s (FrameOf.FinalizingParts cause t those failed) fs (T.FinalizingParts cause (part_in s.control) (left_in s.control) failed) (part_in s.control) popped b is refl (finalizes_parts (parts_left code old s cause t those failed fs b top)) top d

-- the machine waits so
pub parts_awaited : (code : Code) (old : Engine) (s : State) (cause : Cause) (t : ℕ) (those : Apart) (failed : Bool) (fs : List Frame) → BeforeResuming code old s → reverse old.control.items ≡ FrameOf.FinalizingParts cause t those failed ∷ fs
    → FinalizesParts code old cause t those (finished_in s.control s.world) (left_in s.control)
parts_awaited code old s cause t those failed fs b top =
    let is = parts_on_top code old s cause t those failed fs b top in
    let k : List T.Frame = T.FinalizingParts cause (part_in s.control) (left_in s.control) failed ∷ drop 1 s.control in
    record {
      failed = failed;
      frames = fs;
      top = top;
      holds = no_operands code (kept old) k s.operands s.world (subst (λ (l : List T.Frame). Holds code (kept old) l s.operands s.world) is b.holds);
      spots = b.spots ∙ ap (λ (l : List T.Frame). spots_in l) is;
      sized = subst (λ (l : List T.Frame). SizedBelow code l (heads_of s.world.activations)) is b.sized;
      waits = subst (λ (l : List T.Frame). Waits code l) is b.waits;
      are = parts_left code old s cause t those failed fs b top;
    }

pub frame_there : (frames : List Frame) (f : Frame) (fs : List Frame) → reverse frames ≡ f ∷ fs → 0 < length frames
frame_there frames f fs top =
    let long : length (reverse frames) ≡ length (f ∷ fs) = ap (λ (l : List Frame). length l) top in
    let same = length-reverse frames in
    omega (arith, long, same)

-- what the table makes of the frame, with the pick of an order
pub resumes_so : (code : Code) (old new : Engine) (order : Order) (tried : Tried T.Handed) (g : T.Frame) (s : State) (k : List T.Frame) (move : Move) (noted : List ℕ) → s.control ≡ g ∷ k
    → (let n = frame_width code tried g s.world in (by_frame code tried g k s.world (pick_among order n) ≡ move) × (noted_among n (pick_among order n) ≡ noted)) → Chooses code old new move noted → Resumes code old new order tried s
resumes_so code old new order tried g s k move noted is e c =
    let n = frame_width code tried g s.world in
    let there : Chooses code old new (by_frame code tried g k s.world (pick_among order n)) (noted_among n (pick_among order n)) =
    subst (λ (l : List ℕ). Chooses code old new (by_frame code tried g k s.world (pick_among order n)) l) (sym e.1) (subst (λ (m : Move). Chooses code old new m noted) (sym e.0) c) in
    subst (λ (l : List T.Frame). Chooses code old new (act code (Giving tried) l s.operands s.world (pick_among order (width code (Giving tried) l s.world))) (noted_among (width code (Giving tried) l s.world) (pick_among order (width code (Giving tried) l s.world)))) (sym is) there

-- where the frame hands an exception on, which no choice comes before
pub raised_resumes : (code : Code) (old mid new : Engine) (order : Order) (ended : Ended) (e : ℕ) (g : T.Frame) (s : State) → frame_width code (Raised e) g s.world ≡ 0 → s.control ≡ g ∷ drop 1 s.control → ((pick : ℕ) → by_frame code (Raised e) g (drop 1 s.control) s.world pick ≡ gives (Raised e) (drop 1 s.control) s.world)
    → ended ≡ EndedOf.Raised e → Finishes code mid (finished_in s.control s.world) → mid.events.items ≡ old.events.items → mid.picks.items ≡ old.picks.items
    → kept new ≡ kept mid → new.events.items ≡ mid.events.items → new.picks.items ≡ mid.picks.items → new.mode ≡ ModeOf.Giving ended → Resumes code old new order (tried_of ended) s
raised_resumes code old mid new order ended e g s none top hands is there shown chosen same events picks mode =
    let x = finished_in s.control s.world in
    let made = finished_gives code mid new x ended (Raised e) (same_finishes code mid new x there same) mode (ap (λ (y : Ended). tried_of y) is) events picks in
    subst (λ (y : Ended). Resumes code old new order (tried_of y) s) (sym is)
    (resumes_so code old new order (Raised e) g s (drop 1 s.control) (gives (Raised e) (drop 1 s.control) s.world) [] top
    (let n = frame_width code (Raised e) g s.world in (hands (pick_among order n), ap (λ m. noted_among m (pick_among order m)) none))
    (chooses code old mid new _ [] shown (chosen ∙ sym (append-nil old.picks.items)) made))

pub after_raising : (code : Code) (old mid new : Engine) (order : Order) (ended : Ended) (e : ℕ) (cause : Cause) (t : ℕ) (those : Apart) (failed : Bool) (s : State) (fs : List Frame) (popped : Spot) → BeforeResuming code old s → reverse old.control.items ≡ FrameOf.FinalizingParts cause t those failed ∷ fs
    → ended ≡ EndedOf.Raised e → DropsFrame old mid popped → kept new ≡ kept mid → new.events.items ≡ mid.events.items → new.picks.items ≡ mid.picks.items → new.mode ≡ ModeOf.Giving ended → Resumes code old new order (tried_of ended) s
after_raising code old mid new order ended e cause t those failed s fs popped b top is d same events picks mode =
    raised_resumes code old mid new order ended e (T.FinalizingParts cause (part_in s.control) (left_in s.control) failed) s refl (parts_on_top code old s cause t those failed fs b top) (λ pick. refl) is
    (parts_drop code old mid s cause t those failed fs popped b top d).0 d.events d.picks same events picks mode

none_next : (code : Code) (cause : Cause) (p : Spot) (left : List Begun) (failed : Bool) (pick : ℕ) (k : List T.Frame) (w : World) → left ≡ [] → finalize_next code cause p left failed pick k w ≡ gives (Fine (handed failed)) k w
none_next code cause p left failed pick k w is = rw is refl

pub none_noted : (order : Order) (n : ℕ) → n ≡ 0 → noted_among n (pick_among order n) ≡ []
none_noted order n is = ap (λ i. noted_among i (pick_among order i)) is

pub after_last : (code : Code) (old mid new : Engine) (order : Order) (ended handed_on : Ended) (cause : Cause) (t : ℕ) (those : Apart) (failed failing : Bool) (s : State) (fs : List Frame) (popped : Spot) → BeforeResuming code old s → reverse old.control.items ≡ FrameOf.FinalizingParts cause t those failed ∷ fs
    → ((e : ℕ) → ended ≡ EndedOf.Raised e → ⊥) → failing ≡ (failed || says_failed (tried_of ended)) → tried_of handed_on ≡ Fine (handed failing) → (those.low.last - those.low.first) + (those.high.last - those.high.first) ≡ 0
    → DropsFrame old mid popped → kept new ≡ kept mid → new.events.items ≡ mid.events.items → new.picks.items ≡ mid.picks.items → new.mode ≡ ModeOf.Giving handed_on → Resumes code old new order (tried_of ended) s
after_last code old mid new order ended handed_on cause t those failed failing s fs popped b top fine are_failed on empty d same events picks mode =
    let x = finished_in s.control s.world in
    let k = drop 1 s.control in
    let left = left_in s.control in
    let h = fine_of ended fine in
    let says : failing ≡ (failed || says_failed (Fine h.0)) = are_failed ∙ ap (λ (y : Tried T.Handed). failed || says_failed y) h.1 in
    let f = same_finishes code mid new x (parts_drop code old mid s cause t those failed fs popped b top d).0 same in
    let made = finished_gives code mid new x handed_on (Fine (handed failing)) f mode on events picks in
    let many : length left ≡ 0 = count_apart (controlled_of code t) left those (parts_left code old s cause t those failed fs b top) ∙ empty in
    let none = nothing_there left many in
    subst (λ (y : Tried T.Handed). Resumes code old new order y s) (sym h.1)
    (resumes_so code old new order (Fine h.0) (T.FinalizingParts cause (part_in s.control) left failed) s k (gives (Fine (handed failing)) k s.world) [] (parts_on_top code old s cause t those failed fs b top)
    (none_next code cause (part_in s.control) left (failed || says_failed (Fine h.0)) (pick_among order (length left)) k s.world none ∙ ap (λ (y : Bool). gives (Fine (handed y)) k s.world) (sym says), none_noted order (length left) many)
    (chooses code old mid new _ [] d.events (d.picks ∙ sym (append-nil old.picks.items)) made))

pub after_next : (code : Code) (old new : Engine) (order : Order) (ended : Ended) (cause : Cause) (t : ℕ) (those : Apart) (failed failing : Bool) (s : State) (fs : List Frame) → BeforeResuming code old s → reverse old.control.items ≡ FrameOf.FinalizingParts cause t those failed ∷ fs
    → ((e : ℕ) → ended ≡ EndedOf.Raised e → ⊥) → failing ≡ (failed || says_failed (tried_of ended))
    → (let left = left_in s.control in let pick = pick_among order (length left) in Chooses code old new (finalize_next code cause (part_in s.control) left failing pick (drop 1 s.control) s.world) (noted_among (length left) pick)) → Resumes code old new order (tried_of ended) s
after_next code old new order ended cause t those failed failing s fs b top fine are_failed made =
    let k = drop 1 s.control in
    let left = left_in s.control in
    let h = fine_of ended fine in
    let says : failing ≡ (failed || says_failed (Fine h.0)) = are_failed ∙ ap (λ (y : Tried T.Handed). failed || says_failed y) h.1 in
    subst (λ (y : Tried T.Handed). Resumes code old new order y s) (sym h.1)
    (resumes_so code old new order (Fine h.0) (T.FinalizingParts cause (part_in s.control) left failed) s k _ _ (parts_on_top code old s cause t those failed fs b top)
    (ap (λ (y : Bool). finalize_next code cause (part_in s.control) left y (pick_among order (length left)) k s.world) (sym says), refl) made)
