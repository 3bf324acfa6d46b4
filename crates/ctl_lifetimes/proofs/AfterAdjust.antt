-- Frames that wait for a part which is adjusted take what has ended.
use Rattle.std.proofs.Common.{◌≡◌, ℕ, ◌+◌, ◌<◌, arith, List, [], ◌∷◌, ◌++◌, Option, Bool, length, refl, sym, ap, ◌∙◌, subst, reverse, drop}
use Rattle.std.proofs.lemmas.List.{append-nil, length-append}
use Rattle.ctl_tree.specs.declared.event.Owner.{Owner}
use Rattle.ctl_tree.specs.declared.request.Order.{Order}
use Rattle.ctl_meaning.specs.World.{World}
use Rattle.ctl_meaning.specs.Finalization.{Spot}
use Rattle.ctl_meaning.specs.Outcome.{Tried, Fine}
use Rattle.ctl_code.specs.declared.code.Begun.{Begun}
use Rattle.ctl_code.specs.declared.code.Code.{Code}
use Rattle.ctl_code.specs.States as T
use Rattle.ctl_code.specs.States.{Giving, Move, State, Word}
use Rattle.ctl_code.specs.Table.{act, adjust_next, adjust_own, adjusted, by_own_adjust, controlled_of, parts_of, says_failed}
use Rattle.ctl_code.specs.Fits.{Waits}
use Rattle.ctl_engine.specs.declared.engine.Engine.{Engine}
use Rattle.ctl_frames.specs.declared.frame.Ended.{Ended}
use Rattle.ctl_frames.specs.declared.frame.Ended.TheVariants as EndedOf
use Rattle.ctl_frames.specs.declared.frame.Frame.{Frame}
use Rattle.ctl_frames.specs.declared.frame.Frame.TheVariants as FrameOf
use Rattle.ctl_frames.specs.declared.frame.Left.{Left}
use Rattle.ctl_frames.specs.declared.frame.Master.{Master}
use Rattle.ctl_frames.specs.declared.frame.Mode.TheVariants as ModeOf
use Rattle.ctl_frames.specs.declared.frame.Owned.{Owned}
use Rattle.ctl_lifetimes.specs.Adjusting.{AdjustsParts}
use Rattle.ctl_frames.specs.Filling.{AllLeaveSame, AreLeft, noted_among, pick_among}
use Rattle.ctl_engine.specs.Finishing.{DropsFrame, Finishes}
use Rattle.ctl_frames.specs.Masters.{Head, heads_of}
use Rattle.ctl_engine.specs.Moves.{BeforeResuming, Chooses, Makes, Resumes}
use Rattle.ctl_frames.specs.Noted.{IsNoting}
use Rattle.ctl_engine.specs.Shows.{Holds, Kept, SizedBelow, Wait, adjusting_own_waits, adjusting_waits, kept, tried_of}
use Rattle.ctl_frames.specs.Spots.{spots_in}
use Rattle.ctl_lifetimes.proofs.AfterInitialize.{fine_of}
use Rattle.ctl_lifetimes.proofs.AfterFinalize.{drops_to, finished_in, left_in, none_noted, part_in, raised_resumes, resumes_so, waits_so}
use Rattle.ctl_lifetimes.proofs.Finishing.{finished_gives, same_finishes}
use Rattle.ctl_engine.proofs.Following.{makes_later}
use Rattle.ctl_lifetimes.proofs.NextPart.{chooses}
use Rattle.ctl_lifetimes.proofs.PartFrames.{adjusts, adjusts_own}
use Rattle.ctl_engine.proofs.Plain.{no_operands}
use Rattle.ctl_frames.proofs.StillLeft.{none_left}

-- The newest frame ---------------------------------------------------------------------------------------

parts_top : {creation : Option Owner} {t : ℕ} {those : Left} {fs : List Frame} {ms : List Master} {hs : List Head} {owned : List Owned} {k : List T.Frame} → Wait (FrameOf.Adjusting creation t those ∷ fs) ms hs owned k → (s : Spot) × (left : List Begun) × (rest : List T.Frame) × (k ≡ T.Adjusting creation s t left ∷ rest)
parts_top (adjusting_waits {s = s} {left = left} {k = k} w) = (s, left, k, refl)

own_top : {creation : Option Owner} {t : ℕ} {failed : Bool} {fs : List Frame} {ms : List Master} {hs : List Head} {owned : List Owned} {k : List T.Frame} → Wait (FrameOf.AdjustingOwn creation t failed ∷ fs) ms hs owned k → (s : Spot) × (rest : List T.Frame) × (k ≡ T.AdjustingOwn creation s t failed ∷ rest)
own_top (adjusting_own_waits {s = s} {k = k} w) = (s, k, refl)

pub parts_on_top : (code : Code) (e : Engine) (s : State) (creation : Option Owner) (t : ℕ) (those : Left) (fs : List Frame) → BeforeResuming code e s → reverse e.control.items ≡ FrameOf.Adjusting creation t those ∷ fs → s.control ≡ T.Adjusting creation (part_in s.control) t (left_in s.control) ∷ drop 1 s.control
parts_on_top code e s creation t those fs b top =
    let u = parts_top (waits_so code e s (FrameOf.Adjusting creation t those) fs b top) in
    subst (λ (k : List T.Frame). k ≡ T.Adjusting creation (part_in k) t (left_in k) ∷ drop 1 k) (sym u.3) refl

pub own_on_top : (code : Code) (e : Engine) (s : State) (creation : Option Owner) (t : ℕ) (failed : Bool) (fs : List Frame) → BeforeResuming code e s → reverse e.control.items ≡ FrameOf.AdjustingOwn creation t failed ∷ fs → s.control ≡ T.AdjustingOwn creation (part_in s.control) t failed ∷ drop 1 s.control
own_on_top code e s creation t failed fs b top =
    let u = own_top (waits_so code e s (FrameOf.AdjustingOwn creation t failed) fs b top) in
    subst (λ (k : List T.Frame). k ≡ T.AdjustingOwn creation (part_in k) t failed ∷ drop 1 k) (sym u.2) refl

-- what is adjusted over it is noted for the same copy
own_notes : (code : Code) (old : Engine) (s : State) (creation : Option Owner) (t : ℕ) (failed : Bool) (fs : List Frame) → BeforeResuming code old s → reverse old.control.items ≡ FrameOf.AdjustingOwn creation t failed ∷ fs → IsNoting creation (drop 1 s.control)
own_notes code old s creation t failed fs b top =
    let is = own_on_top code old s creation t failed fs b top in
    (subst (λ (l : List Frame). AllLeaveSame code l (T.AdjustingOwn creation (part_in s.control) t failed ∷ drop 1 s.control)) top (subst (λ (k : List T.Frame). AllLeaveSame code (reverse old.control.items) k) is b.holds.left)).0

pub own_spots : (code : Code) (old : Engine) (s : State) (creation : Option Owner) (t : ℕ) (failed : Bool) (fs : List Frame) → BeforeResuming code old s → reverse old.control.items ≡ FrameOf.AdjustingOwn creation t failed ∷ fs → old.spots.items ≡ spots_in (drop 1 s.control) ++ part_in s.control ∷ []
own_spots code old s creation t failed fs b top = b.spots ∙ ap (λ (k : List T.Frame). spots_in k) (own_on_top code old s creation t failed fs b top)

-- there is one
pub own_some : (code : Code) (old : Engine) (s : State) (creation : Option Owner) (t : ℕ) (failed : Bool) (fs : List Frame) → BeforeResuming code old s → reverse old.control.items ≡ FrameOf.AdjustingOwn creation t failed ∷ fs → 0 < length old.spots.items
own_some code old s creation t failed fs b top =
    let all : length old.spots.items ≡ length (spots_in (drop 1 s.control)) + 1 = ap (λ (l : List Spot). length l) (own_spots code old s creation t failed fs b top) ∙ length-append (spots_in (drop 1 s.control)) (part_in s.control ∷ []) in
    omega (arith, all)

-- where nothing that is kept has changed
pub resuming_same : (code : Code) (old ready : Engine) (s : State) → kept ready ≡ kept old → BeforeResuming code old s → BeforeResuming code ready s
resuming_same code old ready s same b = record {
  waits = b.waits;
  frames = b.frames;
  sized = b.sized;
  holds = subst (λ (e : Kept). Holds code e s.control s.operands s.world) (sym same) b.holds;
  spots = ap (λ (e : Kept). e.spots) same ∙ b.spots;
  world = b.world;
}

-- Its own Adjust has ended -------------------------------------------------------------------------------

own_moves : (code : Code) (tried : Tried T.Handed) (creation : Option Owner) (p : Spot) (t : ℕ) (failed : Bool) (all rest : List T.Frame) (ops : List Word) (w : World) → all ≡ T.AdjustingOwn creation p t failed ∷ rest → act code (Giving tried) all ops w 0 ≡ by_own_adjust code tried creation p t failed rest w
own_moves code tried creation p t failed all rest ops w is = rw is refl

-- its frame is dropped
pub own_drops : (code : Code) (old mid : Engine) (s : State) (creation : Option Owner) (t : ℕ) (failed : Bool) (fs : List Frame) (popped : Spot) → BeforeResuming code old s → reverse old.control.items ≡ FrameOf.AdjustingOwn creation t failed ∷ fs → DropsFrame old mid popped
    → Finishes code mid (finished_in s.control s.world) × (popped ≡ part_in s.control) × IsNoting creation (drop 1 s.control)
own_drops code old mid s creation t failed fs popped b top d =
    let noting = own_notes code old s creation t failed fs b top in
    let x = drops_to code old mid s (FrameOf.AdjustingOwn creation t failed) fs (T.AdjustingOwn creation (part_in s.control) t failed) (part_in s.control) popped b (own_on_top code old s creation t failed fs b top) refl (adjusts_own noting) top d in
    (x.0, x.1, noting)

pub after_own_raised : (code : Code) (old mid new : Engine) (ended : Ended) (e : ℕ) (creation : Option Owner) (t : ℕ) (failed : Bool) (s : State) (fs : List Frame) (popped : Spot) → BeforeResuming code old s → reverse old.control.items ≡ FrameOf.AdjustingOwn creation t failed ∷ fs → ended ≡ EndedOf.Raised e
    → DropsFrame old mid popped → kept new ≡ kept mid → new.events.items ≡ mid.events.items → new.picks.items ≡ mid.picks.items → new.mode ≡ ModeOf.Giving EndedOf.OperationFailed → Makes code old new (act code (Giving (tried_of ended)) s.control s.operands s.world 0)
after_own_raised code old mid new ended e creation t failed s fs popped b top is d same events picks mode =
    let x = finished_in s.control s.world in
    let k = drop 1 s.control in
    let drops = own_drops code old mid s creation t failed fs popped b top d in
    let made = finished_gives code mid new x EndedOf.OperationFailed (Fine T.OperationFailed) (same_finishes code mid new x drops.0 same) mode refl events picks in
    subst (λ (m : Move). Makes code old new m) (sym (own_moves code (tried_of ended) creation (part_in s.control) t failed s.control k s.operands s.world (own_on_top code old s creation t failed fs b top)
    ∙ ap (λ (y : Ended). by_own_adjust code (tried_of y) creation (part_in s.control) t failed k s.world) is))
    (makes_later code old mid new _ d.events d.picks made)

own_fine : (code : Code) (tried : Tried T.Handed) (h : T.Handed) (creation : Option Owner) (p : Spot) (t : ℕ) (failed : Bool) (k : List T.Frame) (w : World) → tried ≡ Fine h → by_own_adjust code tried creation p t failed k w ≡ adjusted code creation p t failed k w
own_fine code tried h creation p t failed k w is = rw is refl

pub after_own : (code : Code) (old mid new : Engine) (ended : Ended) (creation : Option Owner) (t : ℕ) (failed : Bool) (s : State) (fs : List Frame) → BeforeResuming code old s → reverse old.control.items ≡ FrameOf.AdjustingOwn creation t failed ∷ fs → ((e : ℕ) → ended ≡ EndedOf.Raised e → ⊥)
    → mid.events.items ≡ old.events.items → mid.picks.items ≡ old.picks.items → (let x = finished_in s.control s.world in Makes code mid new (adjusted code creation x.spot t failed x.control x.world))
    → Makes code old new (act code (Giving (tried_of ended)) s.control s.operands s.world 0)
after_own code old mid new ended creation t failed s fs b top none events picks made =
    let h = fine_of ended none in
    let k = drop 1 s.control in
    subst (λ (m : Move). Makes code old new m) (sym (own_moves code (tried_of ended) creation (part_in s.control) t failed s.control k s.operands s.world (own_on_top code old s creation t failed fs b top)
    ∙ own_fine code (tried_of ended) h.0 creation (part_in s.control) t failed k s.world h.1))
    (makes_later code old mid new _ events picks made)

-- A component has been adjusted ----------------------------------------------------------------------------

-- those that are left, and what is adjusted is noted for the same copy
pub parts_marked : (code : Code) (old : Engine) (s : State) (creation : Option Owner) (t : ℕ) (those : Left) (fs : List Frame) → BeforeResuming code old s → reverse old.control.items ≡ FrameOf.Adjusting creation t those ∷ fs → IsNoting creation (drop 1 s.control) × AreLeft (controlled_of code t) those (left_in s.control)
parts_marked code old s creation t those fs b top =
    let is = parts_on_top code old s creation t those fs b top in
    (subst (λ (l : List Frame). AllLeaveSame code l (T.Adjusting creation (part_in s.control) t (left_in s.control) ∷ drop 1 s.control)) top (subst (λ (k : List T.Frame). AllLeaveSame code (reverse old.control.items) k) is b.holds.left)).0

parts_left : (code : Code) (old : Engine) (s : State) (creation : Option Owner) (t : ℕ) (those : Left) (fs : List Frame) → BeforeResuming code old s → reverse old.control.items ≡ FrameOf.Adjusting creation t those ∷ fs → AreLeft (controlled_of code t) those (left_in s.control)
parts_left code old s creation t those fs b top = (parts_marked code old s creation t those fs b top).1

-- the machine waits so
pub parts_awaited : (code : Code) (old : Engine) (s : State) (creation : Option Owner) (t : ℕ) (those : Left) (fs : List Frame) → BeforeResuming code old s → reverse old.control.items ≡ FrameOf.Adjusting creation t those ∷ fs → AdjustsParts code old creation t those (finished_in s.control s.world) (left_in s.control)
parts_awaited code old s creation t those fs b top =
    let is = parts_on_top code old s creation t those fs b top in
    let k : List T.Frame = T.Adjusting creation (part_in s.control) t (left_in s.control) ∷ drop 1 s.control in
    record {
      frames = fs;
      top = top;
      holds = no_operands code (kept old) k s.operands s.world (subst (λ (l : List T.Frame). Holds code (kept old) l s.operands s.world) is b.holds);
      spots = b.spots ∙ ap (λ (l : List T.Frame). spots_in l) is;
      sized = subst (λ (l : List T.Frame). SizedBelow code l (heads_of s.world.activations)) is b.sized;
      waits = subst (λ (l : List T.Frame). Waits code l) is b.waits;
      noting = (parts_marked code old s creation t those fs b top).0;
      are = parts_left code old s creation t those fs b top;
    }

-- once none is left
pub last_awaited : (code : Code) (old : Engine) (s : State) (creation : Option Owner) (t : ℕ) (those : Left) (fs : List Frame) → BeforeResuming code old s → reverse old.control.items ≡ FrameOf.Adjusting creation t those ∷ fs → those.first ≡ those.last → AdjustsParts code old creation t those (finished_in s.control s.world) []
last_awaited code old s creation t those fs b top none =
    subst (λ (l : List Begun). AdjustsParts code old creation t those (finished_in s.control s.world) l) (none_left (controlled_of code t) (left_in s.control) those (parts_left code old s creation t those fs b top) none) (parts_awaited code old s creation t those fs b top)

pub after_raising : (code : Code) (old mid new : Engine) (order : Order) (ended : Ended) (e : ℕ) (creation : Option Owner) (t : ℕ) (those : Left) (s : State) (fs : List Frame) (popped : Spot) → BeforeResuming code old s → reverse old.control.items ≡ FrameOf.Adjusting creation t those ∷ fs
    → ended ≡ EndedOf.Raised e → DropsFrame old mid popped → kept new ≡ kept mid → new.events.items ≡ mid.events.items → new.picks.items ≡ mid.picks.items → new.mode ≡ ModeOf.Giving ended → Resumes code old new order (tried_of ended) s
after_raising code old mid new order ended e creation t those s fs popped b top is d same events picks mode =
    let there = parts_on_top code old s creation t those fs b top in
    let g : T.Frame = T.Adjusting creation (part_in s.control) t (left_in s.control) in
    let drops = drops_to code old mid s (FrameOf.Adjusting creation t those) fs g (part_in s.control) popped b there refl (adjusts (parts_marked code old s creation t those fs b top).0 (parts_left code old s creation t those fs b top)) top d in
    raised_resumes code old mid new order ended e g s refl there (λ pick. refl) is drops.0 d.events d.picks same events picks mode

none_next : (code : Code) (creation : Option Owner) (p : Spot) (t : ℕ) (left : List Begun) (failed : Bool) (pick : ℕ) (k : List T.Frame) (w : World) → left ≡ [] → adjust_next code creation p t left failed pick k w ≡ adjust_own code (parts_of code t) creation p t failed k w
none_next code creation p t left failed pick k w is = rw is refl

-- the part itself is adjusted
pub after_last : (code : Code) (old new : Engine) (order : Order) (ended : Ended) (creation : Option Owner) (t : ℕ) (those : Left) (failed : Bool) (s : State) (fs : List Frame) → BeforeResuming code old s → reverse old.control.items ≡ FrameOf.Adjusting creation t those ∷ fs → ((e : ℕ) → ended ≡ EndedOf.Raised e → ⊥)
    → failed ≡ says_failed (tried_of ended) → those.first ≡ those.last → Makes code old new (adjust_own code (parts_of code t) creation (part_in s.control) t failed (drop 1 s.control) s.world) → Resumes code old new order (tried_of ended) s
after_last code old new order ended creation t those failed s fs b top fine are_failed empty made =
    let k = drop 1 s.control in
    let p = part_in s.control in
    let left = left_in s.control in
    let h = fine_of ended fine in
    let says : failed ≡ says_failed (Fine h.0) = are_failed ∙ ap (λ (y : Tried T.Handed). says_failed y) h.1 in
    let none = none_left (controlled_of code t) left those (parts_left code old s creation t those fs b top) empty in
    let n = length left in
    subst (λ (y : Tried T.Handed). Resumes code old new order y s) (sym h.1)
    (resumes_so code old new order (Fine h.0) (T.Adjusting creation p t left) s k (adjust_own code (parts_of code t) creation p t failed k s.world) [] (parts_on_top code old s creation t those fs b top)
    (none_next code creation p t left (says_failed (Fine h.0)) (pick_among order n) k s.world none ∙ ap (λ (y : Bool). adjust_own code (parts_of code t) creation p t y k s.world) (sym says), none_noted order n (ap (λ (l : List Begun). length l) none))
    (chooses code old old new _ [] refl (sym (append-nil old.picks.items)) made))

-- one of those that are left is
pub after_next : (code : Code) (old new : Engine) (order : Order) (ended : Ended) (creation : Option Owner) (t : ℕ) (those : Left) (failed : Bool) (s : State) (fs : List Frame) → BeforeResuming code old s → reverse old.control.items ≡ FrameOf.Adjusting creation t those ∷ fs → ((e : ℕ) → ended ≡ EndedOf.Raised e → ⊥) → failed ≡ says_failed (tried_of ended)
    → (let left = left_in s.control in let pick = pick_among order (length left) in Chooses code old new (adjust_next code creation (part_in s.control) t left failed pick (drop 1 s.control) s.world) (noted_among (length left) pick)) → Resumes code old new order (tried_of ended) s
after_next code old new order ended creation t those failed s fs b top fine are_failed made =
    let k = drop 1 s.control in
    let left = left_in s.control in
    let h = fine_of ended fine in
    let says : failed ≡ says_failed (Fine h.0) = are_failed ∙ ap (λ (y : Tried T.Handed). says_failed y) h.1 in
    subst (λ (y : Tried T.Handed). Resumes code old new order y s) (sym h.1)
    (resumes_so code old new order (Fine h.0) (T.Adjusting creation (part_in s.control) t left) s k _ _ (parts_on_top code old s creation t those fs b top)
    (ap (λ (y : Bool). adjust_next code creation (part_in s.control) t left y (pick_among order (length left)) k s.world) (sym says), refl) made)
