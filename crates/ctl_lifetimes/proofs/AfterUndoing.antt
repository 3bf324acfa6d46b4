-- Frames that wait for a part of a copy that failed take what has ended.
use Rattle.std.proofs.Common.{◌≡◌, ℕ, ◌-◌, List, [], ◌∷◌, length, refl, sym, ap, ◌∙◌, subst, reverse, drop}
use Rattle.std.specs.Prelude.{slice_index_or}
use Rattle.std.proofs.lemmas.List.{append-nil}
use Rattle.ctl_tree.specs.declared.request.Order.{Order}
use Rattle.ctl_meaning.specs.World.{World}
use Rattle.ctl_meaning.specs.Finalization.{Spot}
use Rattle.ctl_meaning.specs.Outcome.{Tried, Fine}
use Rattle.ctl_code.specs.declared.code.Begun.{Begun}
use Rattle.ctl_code.specs.declared.code.Code.{Code}
use Rattle.ctl_code.specs.States as T
use Rattle.ctl_code.specs.States.{Giving, Move, State, Word}
use Rattle.ctl_code.specs.Table.{act, adjusted_in, controlled_of, gives, undo_components, undo_next}
use Rattle.ctl_code.specs.Fits.{Waits}
use Rattle.ctl_engine.specs.declared.engine.Engine.{Engine}
use Rattle.ctl_frames.specs.declared.frame.Ended.{Ended}
use Rattle.ctl_frames.specs.declared.frame.Ended.TheVariants as EndedOf
use Rattle.ctl_frames.specs.declared.frame.Frame.{Frame}
use Rattle.ctl_frames.specs.declared.frame.Frame.TheVariants as FrameOf
use Rattle.ctl_frames.specs.declared.frame.Left.{Left}
use Rattle.ctl_frames.specs.declared.frame.Master.{Master}
use Rattle.ctl_frames.specs.declared.frame.Mode.TheVariants as ModeOf
use Rattle.ctl_frames.specs.declared.frame.Owned.{Owned}
use Rattle.ctl_frames.specs.Filling.{AllLeaveSame, AreAmong, is_undone, noted_among, pick_among}
use Rattle.ctl_engine.specs.Finishing.{DropsFrame, Finished, Finishes}
use Rattle.ctl_frames.specs.Masters.{Head, heads_of}
use Rattle.ctl_engine.specs.Moves.{BeforeResuming, Chooses, Makes, Resumes}
use Rattle.ctl_frames.specs.Noted.{IsUndone}
use Rattle.ctl_engine.specs.Shows.{Holds, SizedBelow, Wait, kept, tried_of, undoing_own_waits, undoing_parts_waits}
use Rattle.ctl_frames.specs.Spots.{spots_in}
use Rattle.ctl_lifetimes.specs.Undoing.{IsChosenAmong, UndoesParts, among, has_any_of, noted_from}
use Rattle.ctl_lifetimes.proofs.AfterInitialize.{fine_of}
use Rattle.ctl_lifetimes.proofs.AfterFinalize.{drops_to, finished_in, left_in, none_noted, part_in, raised_resumes, resumes_so, waits_so}
use Rattle.ctl_lifetimes.proofs.Finishing.{finished_gives, nothing_there, same_finishes}
use Rattle.ctl_engine.proofs.Following.{makes_later}
use Rattle.ctl_lifetimes.proofs.NextPart.{chooses}
use Rattle.ctl_lifetimes.proofs.PartFrames.{undoes_own, undoes_parts}
use Rattle.ctl_engine.proofs.Plain.{no_operands}
use Rattle.ctl_frames.proofs.Words.{newest_read}

-- The newest frame ---------------------------------------------------------------------------------------

own_top : {t first : ℕ} {fs : List Frame} {ms : List Master} {hs : List Head} {owned : List Owned} {k : List T.Frame} → Wait (FrameOf.UndoingOwn t first ∷ fs) ms hs owned k → (s : Spot) × (rest : List T.Frame) × (k ≡ T.UndoingOwn s t ∷ rest)
own_top (undoing_own_waits {s = s} {k = k} w) = (s, k, refl)

parts_top : {t count first : ℕ} {those : Left} {fs : List Frame} {ms : List Master} {hs : List Head} {owned : List Owned} {k : List T.Frame} → Wait (FrameOf.UndoingParts t those count first ∷ fs) ms hs owned k → (s : Spot) × (left : List Begun) × (rest : List T.Frame) × (k ≡ T.UndoingParts s left ∷ rest)
parts_top (undoing_parts_waits {s = s} {left = left} {k = k} w) = (s, left, k, refl)

own_on_top : (code : Code) (e : Engine) (s : State) (t first : ℕ) (fs : List Frame) → BeforeResuming code e s → reverse e.control.items ≡ FrameOf.UndoingOwn t first ∷ fs → s.control ≡ T.UndoingOwn (part_in s.control) t ∷ drop 1 s.control
own_on_top code e s t first fs b top =
    let u = own_top (waits_so code e s (FrameOf.UndoingOwn t first) fs b top) in
    subst (λ (k : List T.Frame). k ≡ T.UndoingOwn (part_in k) t ∷ drop 1 k) (sym u.2) refl

parts_on_top : (code : Code) (e : Engine) (s : State) (t count first : ℕ) (those : Left) (fs : List Frame) → BeforeResuming code e s → reverse e.control.items ≡ FrameOf.UndoingParts t those count first ∷ fs → s.control ≡ T.UndoingParts (part_in s.control) (left_in s.control) ∷ drop 1 s.control
parts_on_top code e s t count first those fs b top =
    let u = parts_top (waits_so code e s (FrameOf.UndoingParts t those count first) fs b top) in
    subst (λ (k : List T.Frame). k ≡ T.UndoingParts (part_in k) (left_in k) ∷ drop 1 k) (sym u.3) refl

-- Its own Finalize has ended -------------------------------------------------------------------------------

-- the parts that are undone are noted
pub own_mark : (code : Code) (old : Engine) (s : State) (t first : ℕ) (fs : List Frame) → BeforeResuming code old s → reverse old.control.items ≡ FrameOf.UndoingOwn t first ∷ fs → IsUndone first (drop 1 s.control)
own_mark code old s t first fs b top =
    let is = own_on_top code old s t first fs b top in
    (subst (λ (l : List Frame). AllLeaveSame code l (T.UndoingOwn (part_in s.control) t ∷ drop 1 s.control)) top (subst (λ (k : List T.Frame). AllLeaveSame code (reverse old.control.items) k) is b.holds.left)).0

pub own_drops : (code : Code) (old new : Engine) (s : State) (t first : ℕ) (fs : List Frame) (popped : Spot) → BeforeResuming code old s → reverse old.control.items ≡ FrameOf.UndoingOwn t first ∷ fs → DropsFrame old new popped → Finishes code new (finished_in s.control s.world) × (popped ≡ part_in s.control)
own_drops code old new s t first fs popped b top d =
    drops_to code old new s (FrameOf.UndoingOwn t first) fs (T.UndoingOwn (part_in s.control) t) (part_in s.control) popped b (own_on_top code old s t first fs b top) refl (undoes_own (own_mark code old s t first fs b top)) top d

own_moves : (code : Code) (tried : Tried T.Handed) (p : Spot) (t : ℕ) (all rest : List T.Frame) (ops : List Word) (w : World) → all ≡ T.UndoingOwn p t ∷ rest → act code (Giving tried) all ops w 0 ≡ undo_components code p t rest w
own_moves code tried p t all rest ops w is = rw is refl

pub own_resumes : (code : Code) (old mid new : Engine) (tried : Tried T.Handed) (t first : ℕ) (s : State) (fs : List Frame) (popped : Spot) → BeforeResuming code old s → reverse old.control.items ≡ FrameOf.UndoingOwn t first ∷ fs → DropsFrame old mid popped
    → (let x = finished_in s.control s.world in Makes code mid new (undo_components code x.spot t x.control x.world)) → Makes code old new (act code (Giving tried) s.control s.operands s.world 0)
own_resumes code old mid new tried t first s fs popped b top d made =
    subst (λ (m : Move). Makes code old new m) (sym (own_moves code tried (part_in s.control) t s.control (drop 1 s.control) s.operands s.world (own_on_top code old s t first fs b top)))
    (makes_later code old mid new _ d.events d.picks made)

-- A component has been finalized ---------------------------------------------------------------------------

-- those that are left
parts_left : (code : Code) (old : Engine) (s : State) (t count first : ℕ) (those : Left) (fs : List Frame) → BeforeResuming code old s → reverse old.control.items ≡ FrameOf.UndoingParts t those count first ∷ fs
    → IsUndone first (drop 1 s.control) × AreAmong (controlled_of code t) those (is_undone (part_in s.control) (drop 1 s.control)) (left_in s.control) × (count ≡ length (left_in s.control))
parts_left code old s t count first those fs b top =
    let is = parts_on_top code old s t count first those fs b top in
    (subst (λ (l : List Frame). AllLeaveSame code l (T.UndoingParts (part_in s.control) (left_in s.control) ∷ drop 1 s.control)) top (subst (λ (k : List T.Frame). AllLeaveSame code (reverse old.control.items) k) is b.holds.left)).0

parts_drop : (code : Code) (old new : Engine) (s : State) (t count first : ℕ) (those : Left) (fs : List Frame) (popped : Spot) → BeforeResuming code old s → reverse old.control.items ≡ FrameOf.UndoingParts t those count first ∷ fs → DropsFrame old new popped → Finishes code new (finished_in s.control s.world) × (popped ≡ part_in s.control)
parts_drop code old new s t count first those fs popped b top d =
    let is = parts_on_top code old s t count first those fs b top in
    let left = parts_left code old s t count first those fs b top in
    drops_to code old new s (FrameOf.UndoingParts t those count first) fs (T.UndoingParts (part_in s.control) (left_in s.control)) (part_in s.control) popped b is refl (undoes_parts left.0 left.1 left.2) top d

-- the machine waits so
pub undone_awaited : (code : Code) (old : Engine) (s : State) (t count first : ℕ) (those : Left) (fs : List Frame) → BeforeResuming code old s → reverse old.control.items ≡ FrameOf.UndoingParts t those count first ∷ fs → UndoesParts code old t those count first (finished_in s.control s.world) (left_in s.control)
undone_awaited code old s t count first those fs b top =
    let is = parts_on_top code old s t count first those fs b top in
    let left = parts_left code old s t count first those fs b top in
    let k : List T.Frame = T.UndoingParts (part_in s.control) (left_in s.control) ∷ drop 1 s.control in
    record {
      frames = fs;
      top = top;
      holds = no_operands code (kept old) k s.operands s.world (subst (λ (l : List T.Frame). Holds code (kept old) l s.operands s.world) is b.holds);
      spots = b.spots ∙ ap (λ (l : List T.Frame). spots_in l) is;
      sized = subst (λ (l : List T.Frame). SizedBelow code l (heads_of s.world.activations)) is b.sized;
      waits = subst (λ (l : List T.Frame). Waits code l) is b.waits;
      undone = left.0;
      are = left.1;
      many = left.2;
    }

-- those that are left, as the machine finds them
pub left_so : (code : Code) (e : Engine) (type count first : ℕ) (those : Left) (t : Finished) (left : List Begun) (s : Spot) → UndoesParts code e type those count first t left → s ≡ t.spot → among (controlled_of code type) those.first those.last (has_any_of (noted_from first e.noted.items) s) ≡ left
left_so code e type count first those t left s f same =
    let noted = ap (λ (l : List (List ℕ)). drop first l) f.holds.noted ∙ f.undone in
    ap (λ (l : List (List ℕ)). among (controlled_of code type) those.first those.last (has_any_of l s)) noted
    ∙ (ap (λ (x : Spot). among (controlled_of code type) those.first those.last (has_any_of (adjusted_in t.control) x)) same ∙ sym f.are.are)

-- the part, as the machine finds it
pub spot_read : (code : Code) (e : Engine) (type count first n : ℕ) (those : Left) (t : Finished) (left : List Begun) (s : Spot) → UndoesParts code e type those count first t left → n ≡ length e.spots.items → s ≡ slice_index_or e.spots.items (n - 1) s → s ≡ t.spot
spot_read code e type count first n those t left s f many read = newest_read e.spots.items (spots_in t.control) t.spot s n f.spots many read

-- and the component that it chooses
pub chosen_so : (code : Code) (e : Engine) (type count first pick at : ℕ) (those rest : Left) (t : Finished) (left : List Begun) (s : Spot) → UndoesParts code e type those count first t left → s ≡ t.spot
    → (let passes = has_any_of (noted_from first e.noted.items) s in IsChosenAmong (controlled_of code type) passes (among (controlled_of code type) those.first those.last passes) pick at rest)
    → IsChosenAmong (controlled_of code type) (is_undone t.spot t.control) left pick at rest
chosen_so code e type count first pick at those rest t left s f same c =
    let all = controlled_of code type in
    let noted : noted_from first e.noted.items ≡ adjusted_in t.control = ap (λ (l : List (List ℕ)). drop first l) f.holds.noted ∙ f.undone in
    let those_of : List (List ℕ) → Spot → Type 0 = λ ps x. IsChosenAmong all (has_any_of ps x) (among all those.first those.last (has_any_of ps x)) pick at rest in
    subst (λ (l : List Begun). IsChosenAmong all (is_undone t.spot t.control) l pick at rest) (sym f.are.are)
    (subst (λ (x : Spot). those_of (adjusted_in t.control) x) same (subst (λ (ps : List (List ℕ)). those_of ps s) noted c))

pub after_raising : (code : Code) (old mid new : Engine) (order : Order) (ended : Ended) (e t count first : ℕ) (those : Left) (s : State) (fs : List Frame) (popped : Spot) → BeforeResuming code old s → reverse old.control.items ≡ FrameOf.UndoingParts t those count first ∷ fs
    → ended ≡ EndedOf.Raised e → DropsFrame old mid popped → kept new ≡ kept mid → new.events.items ≡ mid.events.items → new.picks.items ≡ mid.picks.items → new.mode ≡ ModeOf.Giving ended → Resumes code old new order (tried_of ended) s
after_raising code old mid new order ended e t count first those s fs popped b top is d same events picks mode =
    raised_resumes code old mid new order ended e (T.UndoingParts (part_in s.control) (left_in s.control)) s refl (parts_on_top code old s t count first those fs b top) (λ pick. refl) is (parts_drop code old mid s t count first those fs popped b top d).0 d.events d.picks same events picks mode

none_next : (code : Code) (p : Spot) (left : List Begun) (pick : ℕ) (k : List T.Frame) (w : World) → left ≡ [] → undo_next code p left pick k w ≡ gives (Fine T.Complete) k w
none_next code p left pick k w is = rw is refl

pub after_last : (code : Code) (old mid new : Engine) (order : Order) (ended : Ended) (t count first : ℕ) (those : Left) (s : State) (fs : List Frame) (popped : Spot) → BeforeResuming code old s → reverse old.control.items ≡ FrameOf.UndoingParts t those count first ∷ fs
    → ((e : ℕ) → ended ≡ EndedOf.Raised e → ⊥) → count ≡ 0
    → DropsFrame old mid popped → kept new ≡ kept mid → new.events.items ≡ mid.events.items → new.picks.items ≡ mid.picks.items → new.mode ≡ ModeOf.Giving EndedOf.Complete → Resumes code old new order (tried_of ended) s
after_last code old mid new order ended t count first those s fs popped b top fine none d same events picks mode =
    let x = finished_in s.control s.world in
    let k = drop 1 s.control in
    let left = left_in s.control in
    let h = fine_of ended fine in
    let many = sym (parts_left code old s t count first those fs b top).2 ∙ none in
    let f = same_finishes code mid new x (parts_drop code old mid s t count first those fs popped b top d).0 same in
    let made = finished_gives code mid new x EndedOf.Complete (Fine T.Complete) f mode refl events picks in
    subst (λ (y : Tried T.Handed). Resumes code old new order y s) (sym h.1)
    (resumes_so code old new order (Fine h.0) (T.UndoingParts (part_in s.control) left) s k (gives (Fine T.Complete) k s.world) [] (parts_on_top code old s t count first those fs b top)
    (none_next code (part_in s.control) left (pick_among order (length left)) k s.world (nothing_there left many), none_noted order (length left) many)
    (chooses code old mid new _ [] d.events (d.picks ∙ sym (append-nil old.picks.items)) made))

pub after_next : (code : Code) (old new : Engine) (order : Order) (ended : Ended) (t count first : ℕ) (those : Left) (s : State) (fs : List Frame) → BeforeResuming code old s → reverse old.control.items ≡ FrameOf.UndoingParts t those count first ∷ fs → ((e : ℕ) → ended ≡ EndedOf.Raised e → ⊥)
    → (let left = left_in s.control in let pick = pick_among order (length left) in Chooses code old new (undo_next code (part_in s.control) left pick (drop 1 s.control) s.world) (noted_among (length left) pick)) → Resumes code old new order (tried_of ended) s
after_next code old new order ended t count first those s fs b top fine made =
    let h = fine_of ended fine in
    subst (λ (y : Tried T.Handed). Resumes code old new order y s) (sym h.1)
    (resumes_so code old new order (Fine h.0) (T.UndoingParts (part_in s.control) (left_in s.control)) s (drop 1 s.control) _ _ (parts_on_top code old s t count first those fs b top) (refl, refl) made)
