-- Collections are emptied: the frame takes what has ended, and a member is finalized over it.
use Rattle.std.proofs.Common.{◌≡◌, ◌∙◌, ℕ, ◌<◌, List, [], ◌∷◌, ◌++◌, Option, None, Some, Bool, false, refl, sym, ap, arith, subst, length, reverse, drop}
use Rattle.std.specs.Prelude.{◌||◌}
use Rattle.std.proofs.lemmas.List.{append-nil}
use Rattle.ctl_tree.specs.declared.event.Cause.TheVariants as CauseOf
use Rattle.ctl_tree.specs.declared.request.Order.{Order}
use Rattle.ctl_program.specs.declared.types.Ty.TheVariants.{Record}
use Rattle.ctl_meaning.specs.Lists.{pull_item}
use Rattle.ctl_meaning.specs.Outcome.{Fine, Raised, Tried}
use Rattle.ctl_meaning.specs.World.{Object, World}
use Rattle.ctl_code.specs.declared.code.Code.{Code}
use Rattle.ctl_code.specs.Fits.{Waits}
use Rattle.ctl_code.specs.States as T
use Rattle.ctl_code.specs.States.{Move, State, Word, cells_of, whole_spot}
use Rattle.ctl_code.specs.Table.{candidates, empty_next, finalize_object, frame_width, gives, handed, parts_of, says_failed}
use Rattle.ctl_lifetimes.specs.declared.emptying.Member.{Member}
use Rattle.ctl_engine.specs.declared.engine.Engine.{Engine}
use Rattle.ctl_frames.specs.declared.frame.Ended.{Ended}
use Rattle.ctl_frames.specs.declared.frame.Frame.{Frame}
use Rattle.ctl_frames.specs.declared.frame.Frame.TheVariants as FrameOf
use Rattle.ctl_frames.specs.declared.frame.Master.{Master}
use Rattle.ctl_frames.specs.declared.frame.Mode.TheVariants as ModeOf
use Rattle.ctl_frames.specs.declared.frame.Owned.{Owned}
use Rattle.ctl_lifetimes.specs.Emptying.{Emptied, Empties, IsMember, IsTaken, due, member_finished}
use Rattle.ctl_frames.specs.Filling.{noted_among, pick_among}
use Rattle.ctl_engine.specs.Finishing.{BeginsOver, Finished, Finishes}
use Rattle.ctl_frames.specs.Links.{end_behind}
use Rattle.ctl_frames.specs.Masters.{Head, heads_of}
use Rattle.ctl_engine.specs.Moves.{BeforeResuming, Chooses, Resumes}
use Rattle.ctl_frames.specs.Owned.{AreFromTo}
use Rattle.ctl_engine.specs.Shows.{Holds, Kept, SizedBelow, Wait, emptying_waits, kept, tried_of, with_cells}
use Rattle.ctl_frames.specs.Spots.{spots_in}
use Rattle.ctl_lifetimes.proofs.AfterFinalize.{none_noted, resumes_so, waits_so}
use Rattle.ctl_engine.proofs.Bodies.{more_cells}
use Rattle.ctl_lifetimes.proofs.Finishing.{finished_gives}
use Rattle.ctl_lifetimes.proofs.NextPart.{chooses}
use Rattle.ctl_lifetimes.proofs.NextWindow.{end_is}
use Rattle.ctl_engine.proofs.Plain.{no_operands}
use Rattle.ctl_frames.proofs.StillLeft.{left_below}

-- The newest frame ---------------------------------------------------------------------------------------

-- the collections that the newest frame empties, and whether a finalization failed
abbrev pub sets_in : List T.Frame → List ℕ
sets_in (T.Emptying sets failed ∷ k) = sets
sets_in _ = []

abbrev pub failed_in : List T.Frame → Bool
failed_in (T.Emptying sets failed ∷ k) = failed
failed_in _ = false

-- what the table empties
abbrev pub emptied_in : State → Emptied
emptied_in s = record { sets = sets_in s.control; control = drop 1 s.control; world = s.world }

-- the frame of the machine and that of the table
record IsEmptying (first last : ℕ) (failed : Bool) (k : List T.Frame) : Type 0 where
  sets : List ℕ
  rest : List T.Frame
  is : k ≡ T.Emptying sets failed ∷ rest
  range : AreFromTo first last sets

emptying_top : {first last : ℕ} {failed : Bool} {fs : List Frame} {ms : List Master} {hs : List Head} {owned : List Owned} {k : List T.Frame} → Wait (FrameOf.Emptying first last failed ∷ fs) ms hs owned k → IsEmptying first last failed k
emptying_top (emptying_waits {sets = sets} {k = k} range w) = record { sets = sets; rest = k; is = refl; range = range }

pub emptying_on_top : (code : Code) (e : Engine) (s : State) (first last : ℕ) (failed : Bool) (fs : List Frame) → BeforeResuming code e s → reverse e.control.items ≡ FrameOf.Emptying first last failed ∷ fs → s.control ≡ T.Emptying (sets_in s.control) failed ∷ drop 1 s.control
emptying_on_top code e s first last failed fs b top =
    let u = emptying_top (waits_so code e s (FrameOf.Emptying first last failed) fs b top) in
    subst (λ (k : List T.Frame). k ≡ T.Emptying (sets_in k) failed ∷ drop 1 k) (sym u.is) refl

pub failed_is : (code : Code) (e : Engine) (s : State) (first last : ℕ) (failed : Bool) (fs : List Frame) → BeforeResuming code e s → reverse e.control.items ≡ FrameOf.Emptying first last failed ∷ fs → failed_in s.control ≡ failed
failed_is code e s first last failed fs b top = ap failed_in (emptying_on_top code e s first last failed fs b top)

pub emptying_range : (code : Code) (e : Engine) (s : State) (first last : ℕ) (failed : Bool) (fs : List Frame) → BeforeResuming code e s → reverse e.control.items ≡ FrameOf.Emptying first last failed ∷ fs → AreFromTo first last (sets_in s.control)
emptying_range code e s first last failed fs b top =
    let u = emptying_top (waits_so code e s (FrameOf.Emptying first last failed) fs b top) in
    subst (λ (l : List ℕ). AreFromTo first last l) (sym (ap sets_in u.is)) u.range

-- the machine empties these
pub empties : (code : Code) (e : Engine) (s : State) (first last : ℕ) (failed : Bool) (fs : List Frame) → BeforeResuming code e s → reverse e.control.items ≡ FrameOf.Emptying first last failed ∷ fs → Empties code e first last failed (emptied_in s)
empties code e s first last failed fs b top =
    let is = emptying_on_top code e s first last failed fs b top in
    let k : List T.Frame = T.Emptying (sets_in s.control) failed ∷ drop 1 s.control in
    record {
      frames = fs;
      top = top;
      holds = no_operands code (kept e) k s.operands s.world (subst (λ (l : List T.Frame). Holds code (kept e) l s.operands s.world) is b.holds);
      spots = b.spots ∙ ap (λ (l : List T.Frame). spots_in l) is;
      sized = subst (λ (l : List T.Frame). SizedBelow code l (heads_of s.world.activations)) is b.sized;
      waits = subst (λ (l : List T.Frame). Waits code l) is b.waits;
      range = emptying_range code e s first last failed fs b top;
    }

below_emptying : {first last : ℕ} {failed failed' : Bool} {fs : List Frame} {ms : List Master} {hs : List Head} {owned : List Owned} {sets : List ℕ} {k : List T.Frame} → Wait (FrameOf.Emptying first last failed ∷ fs) ms hs owned (T.Emptying sets failed' ∷ k) → Wait fs ms hs owned k
below_emptying (emptying_waits range w) = w

-- A member is finalized over it --------------------------------------------------------------------------

emptying_stays : {first last : ℕ} {failed failed' : Bool} {fs : List Frame} {ms : List Master} {hs : List Head} {owned : List Owned} {sets : List ℕ} {k : List T.Frame} (fails : Bool) → Wait (FrameOf.Emptying first last failed ∷ fs) ms hs owned (T.Emptying sets failed' ∷ k)
    → Wait (FrameOf.Emptying first last fails ∷ fs) ms hs owned (T.Emptying sets fails ∷ k)
emptying_stays fails (emptying_waits range w) = emptying_waits range w

-- with this frame in place of the newest
abbrev pub with_newest : Frame → Kept → Kept
with_newest f e = record e { control = f ∷ drop 1 e.control }

member_over : (code : Code) (e : Kept) (first last : ℕ) (failed fails : Bool) (fs : List Frame) (sets : List ℕ) (k : List T.Frame) (w : World) → Holds code e (T.Emptying sets failed ∷ k) [] w → e.control ≡ FrameOf.Emptying first last failed ∷ fs
    → Holds code (with_newest (FrameOf.Emptying first last fails) e) (T.Emptying sets fails ∷ k) [] w
member_over code e first last failed fails fs sets k w h top =
    let f = FrameOf.Emptying first last failed in
    let rest : drop 1 e.control ≡ fs = ap (λ (l : List Frame). drop 1 l) top in
    record {
      cells = h.cells;
      room = h.room;
      masters = h.masters;
      below = h.below;
      waits = subst (λ (l : List Frame). Wait (FrameOf.Emptying first last fails ∷ l) e.masters (heads_of w.activations) e.owned (T.Emptying sets fails ∷ k)) (sym rest)
          (emptying_stays fails (subst (λ (l : List Frame). Wait l e.masters (heads_of w.activations) e.owned (T.Emptying sets failed ∷ k)) top h.waits));
      objects = h.objects;
      needs = h.needs;
      pools = h.pools;
      owns = h.owns;
      held = h.held;
      rise = h.rise;
      next_master = h.next_master;
      next_object = h.next_object;
      next_collection = h.next_collection;
      collections = h.collections;
      left = (tt, left_below code f (drop 1 e.control) e.control (T.Emptying sets failed) k h.left (top ∙ ap (λ (l : List Frame). f ∷ l) (sym rest)));
      saved = h.saved;
      noted = h.noted;
    }

-- it is finalized so
pub member_finishes : (code : Code) (old mid : Engine) (first last : ℕ) (failed fails : Bool) (t : Emptied) (n : ℕ) (more : List ℕ) → Empties code old first last failed t
    → kept mid ≡ with_newest (FrameOf.Emptying first last fails) (with_cells (kept old) (old.cells.items ++ more)) → Finishes code mid (member_finished t fails n)
member_finishes code old mid first last failed fails t n more u are =
    let h = more_cells code (kept old) more (T.Emptying t.sets failed ∷ t.control) [] t.world u.holds in
    record {
      holds = subst (λ (e : Kept). Holds code e (T.Emptying t.sets fails ∷ t.control) [] t.world) (sym are) (member_over code (with_cells (kept old) (old.cells.items ++ more)) first last failed fails u.frames t.sets t.control t.world h u.top);
      spots = ap (λ (e : Kept). e.spots) are ∙ u.spots;
      sized = u.sized;
    }

-- a body over it begins behind what waits
pub member_base : (code : Code) (old : Engine) (first last base : ℕ) (failed fails : Bool) (t : Emptied) (n : ℕ) → Empties code old first last failed t → base ≡ end_behind code (reverse old.masters.items) (reverse old.control.items) → BeginsOver base (member_finished t fails n)
member_base code old first last base failed fails t n u is = is ∙ end_is code (kept old) (T.Emptying t.sets failed ∷ t.control) [] t.world u.holds u.waits u.sized

-- No member is left --------------------------------------------------------------------------------------

pub emptied : (code : Code) (e : Kept) (first last : ℕ) (failed : Bool) (fs : List Frame) (sets : List ℕ) (k : List T.Frame) (w : World) → Holds code e (T.Emptying sets failed ∷ k) [] w → e.control ≡ FrameOf.Emptying first last failed ∷ fs → Holds code (record e { control = fs }) k [] w
emptied code e first last failed fs sets k w h top = record {
  cells = h.cells;
  room = h.room;
  masters = h.masters;
  below = h.below;
  waits = below_emptying (subst (λ (l : List Frame). Wait l e.masters (heads_of w.activations) e.owned (T.Emptying sets failed ∷ k)) top h.waits);
  objects = h.objects;
  needs = h.needs;
  pools = h.pools;
  owns = h.owns;
  held = h.held;
  rise = h.rise;
  next_master = h.next_master;
  next_object = h.next_object;
  next_collection = h.next_collection;
  collections = h.collections;
  left = left_below code (FrameOf.Emptying first last failed) fs e.control (T.Emptying sets failed) k h.left top;
  saved = h.saved;
  noted = h.noted;
}

-- the members that are left are those of the world
due_are : (code : Code) (e : Kept) (k : List T.Frame) (ops : List Word) (w : World) (sets : List ℕ) → Holds code e k ops w → candidates code sets w ≡ due code sets e.objects
due_are code e k ops w sets h = ap (λ (l : List Object). due code sets l) h.objects

-- where no member is taken, there is none
pub none_taken : (code : Code) (order : Order) (count : ℕ) (os : List Object) (z : Option Member) → IsTaken code order count os z → ((m : Member) → z ≡ Some m → ⊥) → count ≡ 0
none_taken code order count os None taken none = taken
none_taken code order count os (Some m) taken none = absurd (none m refl)

-- so many are the candidates, whatever has ended
emptying_width : (code : Code) (t : Tried T.Handed) (sets : List ℕ) (failed : Bool) (w : World) → frame_width code t (T.Emptying sets failed) w ≡ length (candidates code sets w)
emptying_width code (Fine h) sets failed w = refl
emptying_width code (Raised e) sets failed w = refl

none_left : (os : List Object) → 0 ≡ length os → os ≡ []
none_left [] e = refl
none_left (o ∷ os) e = absurd (omega (arith, e))

pub resumes_empty : (code : Code) (old new : Engine) (order : Order) (ended handed_on : Ended) (first last : ℕ) (failed fails : Bool) (s : State) (fs : List Frame) → BeforeResuming code old s → reverse old.control.items ≡ FrameOf.Emptying first last failed ∷ fs
    → fails ≡ (failed || says_failed (tried_of ended)) → tried_of handed_on ≡ Fine (handed fails) → 0 ≡ length (due code (sets_in s.control) old.stock.objects)
    → kept new ≡ record (kept old) { control = fs } → new.events.items ≡ old.events.items → new.picks.items ≡ old.picks.items → new.mode ≡ ModeOf.Giving handed_on → Resumes code old new order (tried_of ended) s
resumes_empty code old new order ended handed_on first last failed fails s fs b top are_failed on many is events picks mode =
    let u = empties code old s first last failed fs b top in
    let t = emptied_in s in
    let x : Finished = record { spot = whole_spot 0; control = t.control; world = t.world } in
    let f : Finishes code new x = record {
      holds = subst (λ (e : Kept). Holds code e t.control [] t.world) (sym is) (emptied code (kept old) first last failed fs t.sets t.control t.world u.holds top);
      spots = ap (λ (e : Kept). e.spots) is ∙ u.spots;
      sized = u.sized;
    } in
    let made = finished_gives code old new x handed_on (Fine (handed fails)) f mode on events picks in
    let none : candidates code t.sets s.world ≡ [] = due_are code (kept old) (T.Emptying t.sets failed ∷ t.control) [] s.world t.sets u.holds ∙ none_left (due code t.sets old.stock.objects) many in
    let k = t.control in
    resumes_so code old new order (tried_of ended) (T.Emptying t.sets failed) s k (gives (Fine (handed fails)) k s.world) [] (emptying_on_top code old s first last failed fs b top) (
      ap (λ (l : List Object). empty_next code t.sets (failed || says_failed (tried_of ended)) (pick_among order (frame_width code (tried_of ended) (T.Emptying t.sets failed) s.world)) l k s.world) none ∙ ap (λ (y : Bool). gives (Fine (handed y)) k s.world) (sym are_failed),
      none_noted order (frame_width code (tried_of ended) (T.Emptying t.sets failed) s.world) (emptying_width code (tried_of ended) t.sets failed s.world ∙ ap (λ (l : List Object). length l) none),
    )
    (chooses code old old new _ [] refl (sym (append-nil old.picks.items)) made)

-- A member is chosen -------------------------------------------------------------------------------------

chosen_next : (code : Code) (sets : List ℕ) (fails : Bool) (pick type : ℕ) (o : Object) (os : List Object) (k : List T.Frame) (w : World) → 0 < length os → ((d : Object) → pull_item d pick os ≡ o) → o.ty ≡ Record type
    → empty_next code sets fails pick os k w ≡ finalize_object code (parts_of code type) CauseOf.Collection o.number type (T.Emptying sets fails ∷ k) w
chosen_next code sets fails pick type o [] k w some is ty = absurd (omega (arith, some))
chosen_next code sets fails pick type o (x ∷ xs) k w some is ty = rw (is x, ty) refl

pub resumes_member : (code : Code) (old new : Engine) (order : Order) (ended : Ended) (first last : ℕ) (failed fails : Bool) (s : State) (fs : List Frame) (count : ℕ) (m : Member) → BeforeResuming code old s → reverse old.control.items ≡ FrameOf.Emptying first last failed ∷ fs
    → fails ≡ (failed || says_failed (tried_of ended)) → count ≡ length (due code (sets_in s.control) old.stock.objects) → 0 < count → IsMember code order count (due code (sets_in s.control) old.stock.objects) m
    → Chooses code old new (finalize_object code (parts_of code m.record_type) CauseOf.Collection m.number m.record_type (T.Emptying (sets_in s.control) fails ∷ drop 1 s.control) s.world) (noted_among count (pick_among order count)) → Resumes code old new order (tried_of ended) s
resumes_member code old new order ended first last failed fails s fs count m b top are_failed many some is made =
    let u = empties code old s first last failed fs b top in
    let sets = sets_in s.control in
    let k = drop 1 s.control in
    let are = due_are code (kept old) (T.Emptying sets failed ∷ k) [] s.world sets u.holds in
    let same : frame_width code (tried_of ended) (T.Emptying sets failed) s.world ≡ count = emptying_width code (tried_of ended) sets failed s.world ∙ (ap (λ (l : List Object). length l) are ∙ sym many) in
    let next = chosen_next code sets fails (pick_among order count) m.record_type is.object (due code sets old.stock.objects) k s.world (subst (λ n. 0 < n) many some) is.chosen is.ty ∙ ap (λ n. finalize_object code (parts_of code m.record_type) CauseOf.Collection n m.record_type (T.Emptying sets fails ∷ k) s.world) is.number in
    resumes_so code old new order (tried_of ended) (T.Emptying sets failed) s k _ _ (emptying_on_top code old s first last failed fs b top) (
      ap (λ n. empty_next code sets (failed || says_failed (tried_of ended)) (pick_among order n) (candidates code sets s.world) k s.world) same
          ∙ (ap (λ (l : List Object). empty_next code sets (failed || says_failed (tried_of ended)) (pick_among order count) l k s.world) are
          ∙ (ap (λ (y : Bool). empty_next code sets y (pick_among order count) (due code sets old.stock.objects) k s.world) (sym are_failed) ∙ next)),
      ap (λ n. noted_among n (pick_among order n)) same,
    ) made
