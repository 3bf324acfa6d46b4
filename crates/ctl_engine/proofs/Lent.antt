-- The newest master lends its record to the evaluation of a default, with another window and other spots, and has it back.
use Rattle.std.proofs.Common.{◌≡◌, ℕ, suc, ◌+◌, ◌≤◌, List, [], ◌∷◌, ◌++◌, length, drop, ap, sym, subst, refl, append_assoc, append-nil, ◌∙◌, reverse, arith}
use Rattle.std.specs.Prelude.{slice_set}
use Rattle.std.proofs.lemmas.List.{reverse-append}
use Rattle.ctl_meaning.specs.World as W
use Rattle.ctl_meaning.specs.World.{Activation}
use Rattle.ctl_frames.specs.declared.frame.Formal.{Formal}
use Rattle.ctl_frames.specs.declared.frame.Master.{Master}
use Rattle.ctl_frames.specs.declared.frame.Owned.{Owned}
use Rattle.ctl_frames.specs.Holders.{AreHeld}
use Rattle.ctl_meaning.specs.World.{World}
use Rattle.ctl_code.specs.declared.code.Code.{Code}
use Rattle.ctl_code.specs.States as T
use Rattle.ctl_code.specs.States.{Word, cells_of}
use Rattle.ctl_frames.specs.declared.frame.Frame.{Frame}
use Rattle.ctl_frames.specs.declared.frame.Frame.TheVariants as FrameOf
use Rattle.ctl_frames.specs.Filling.{AllLeaveSame}
use Rattle.ctl_frames.specs.Spots.{spots_in}
use Rattle.ctl_frames.specs.Under.{tall, under}
use Rattle.ctl_engine.specs.Shows.{Holds, IsEvaluating, Kept, Wait, evaluating_waits, lent}
use Rattle.ctl_engine.specs.Lending.{lending}
use Rattle.ctl_engine.proofs.Tops.{top_replaced_at}
use Rattle.ctl_frames.specs.Masters.{AreBelow, AreMasters, HaveRoom, Head, heads_of, IsHead, IsOwner, newest_master}

lent_head : (m : Master) (w s : ℕ) (h : Head) (hs : List Head) → IsHead m h hs → IsHead (lent m w s) h hs
lent_head m w s h hs x = record { head = x.head; link = x.link; display = x.display; depth = x.depth; shallow = x.shallow; slots = x.slots }

lent_owner : (m : Master) (w s : ℕ) (k : W.Master) (owned : List Owned) → IsOwner m k owned → IsOwner (lent m w s) k owned
lent_owner m w s k owned x = record { kept = x.kept; owned = x.owned; layers = x.layers; owns = x.owns }

pub lent_masters : (m : Master) (w s : ℕ) (ms : List Master) (hs : List Head) (ks : List W.Master) (owned : List Owned) → AreMasters (m ∷ ms) hs ks owned → AreMasters (lent m w s ∷ ms) hs ks owned
lent_masters m w s ms [] ks owned x = elim x [ ]
lent_masters m w s ms (h ∷ hs) [] owned x = elim x [ ]
lent_masters m w s ms (h ∷ hs) (k ∷ ks) owned (newest_master x y r) = newest_master (lent_head m w s h hs x) (lent_owner m w s k owned y) r

pub lent_below : (m : Master) (w s : ℕ) (ms : List Master) (n : ℕ) → AreBelow (m ∷ ms) n → AreBelow (lent m w s ∷ ms) n
lent_below m w s ms n x = x

pub lent_held : (m : Master) (w s : ℕ) (ms : List Master) (acts : List Activation) (owned : List Owned) (formals : List Formal) → AreHeld (m ∷ ms) acts owned formals → AreHeld (lent m w s ∷ ms) acts owned formals
lent_held m w s ms [] owned formals x = absurd x
lent_held m w s ms (a ∷ acts) owned formals x = (record { contents = x.0.contents; rise = x.0.rise; within = x.0.within }, x.1)

pub lent_room : (m : Master) (w s room cells : ℕ) (ms : List Master) → w ≤ m.window → HaveRoom room (m ∷ ms) cells → HaveRoom room (lent m w s ∷ ms) cells
lent_room m w s room cells ms le x = let here = x.0 in (omega (arith, le, here), x.1)

-- The frame of an evaluation -----------------------------------------------------------------------------

record IsLent (n off object start offset window spots : ℕ) (fs : List Frame) (m : Master) (ms : List Master) (hs : List Head) (owned : List Owned) (k : List T.Frame) : Type 0 where
  is : IsEvaluating n off object start offset window m hs k
  waits : Wait fs (lent m window spots ∷ ms) hs owned k

evaluated : {object start offset window spots : ℕ} {fs : List Frame} {m : Master} {ms : List Master} {hs : List Head} {owned : List Owned} {n off : ℕ} {k : List T.Frame}
    → Wait (FrameOf.Evaluating object start offset window spots ∷ fs) (m ∷ ms) hs owned (T.Evaluating n off ∷ k) → IsLent n off object start offset window spots fs m ms hs owned k
evaluated (evaluating_waits i w) = record { is = i; waits = w }

-- it ends: the newest master has its record back
pub gives_back : (code : Code) (e : Kept) (object start offset window spots : ℕ) (fs : List Frame) (m : Master) (ms : List Master) (n off : ℕ) (k : List T.Frame) (ops : List Word) (w : World)
    → e.control ≡ FrameOf.Evaluating object start offset window spots ∷ fs → e.masters ≡ m ∷ ms → Holds code e (T.Evaluating n off ∷ k) ops w → Holds code (record e { control = fs; masters = lent m window spots ∷ ms }) k [] w
gives_back code e object start offset window spots fs m ms n off k ops w top newest h =
    let hs = heads_of w.activations in
    let waits = subst (λ (l : List Frame). Wait l (m ∷ ms) hs e.owned (T.Evaluating n off ∷ k)) top (subst (λ (l : List Master). Wait e.control l hs e.owned (T.Evaluating n off ∷ k)) newest h.waits) in
    let lent_so = evaluated waits in
    let left = subst (λ (l : List Frame). AllLeaveSame code l (T.Evaluating n off ∷ k)) top h.left in
    record {
      cells = (reverse (cells_of ops) ++ h.cells.0, h.cells.1 ∙ (append_assoc (under k w.activations) (reverse (cells_of ops)) h.cells.0 ∙ ap (λ (l : List ℕ). l ++ (reverse (cells_of ops) ++ h.cells.0)) (sym (append-nil (under k w.activations)))));
      room = lent_room m window spots code.room (length e.cells) ms lent_so.is.lower (subst (λ (l : List Master). HaveRoom code.room l (length e.cells)) newest h.room);
      masters = lent_masters m window spots ms hs w.ledger.masters e.owned (subst (λ (l : List Master). AreMasters l hs w.ledger.masters e.owned) newest h.masters);
      below = lent_below m window spots ms e.next_master (subst (λ (l : List Master). AreBelow l e.next_master) newest h.below);
      waits = lent_so.waits;
      objects = h.objects;
      needs = h.needs;
      pools = h.pools;
      owns = h.owns;
      held = lent_held m window spots ms w.activations e.owned e.formals (subst (λ (l : List Master). AreHeld l w.activations e.owned e.formals) newest h.held);
      rise = h.rise;
      next_master = h.next_master;
      next_object = h.next_object;
      next_collection = h.next_collection;
      collections = h.collections;
      left = left.1;
      saved = h.saved;
      noted = h.noted;
    }

room_over : (m : Master) (w s room cells : ℕ) (ms : List Master) → w + room ≤ cells → HaveRoom room (m ∷ ms) cells → HaveRoom room (lent m w s ∷ ms) cells
room_over m w s room cells ms fits x = (fits, x.1)

-- it begins, over all that waits
pub lends : (code : Code) (e : Kept) (object start offset window : ℕ) (m : Master) (ms : List Master) (k : List T.Frame) (w : World)
    → e.masters ≡ m ∷ ms → window ≡ tall k (heads_of w.activations) → m.window ≤ window → window + code.room ≤ length e.cells → Holds code e k [] w
    → Holds code (record e { control = FrameOf.Evaluating object start offset m.window m.spots ∷ e.control; masters = lent m window (length (spots_in k)) ∷ ms }) (T.Evaluating object (start + offset) ∷ k) [] w
lends code e object start offset window m ms k w newest begins lower fits h =
    let hs = heads_of w.activations in
    let spots = length (spots_in k) in
    record {
      cells = h.cells;
      room = room_over m window spots code.room (length e.cells) ms fits (subst (λ (l : List Master). HaveRoom code.room l (length e.cells)) newest h.room);
      masters = lent_masters m window spots ms hs w.ledger.masters e.owned (subst (λ (l : List Master). AreMasters l hs w.ledger.masters e.owned) newest h.masters);
      below = lent_below m window spots ms e.next_master (subst (λ (l : List Master). AreBelow l e.next_master) newest h.below);
      waits = evaluating_waits (record { named = refl; cell = refl; begins = begins; mark = refl; lower = lower }) (subst (λ (l : List Master). Wait e.control l hs e.owned k) newest h.waits);
      objects = h.objects;
      needs = h.needs;
      pools = h.pools;
      owns = h.owns;
      held = lent_held m window spots ms w.activations e.owned e.formals (subst (λ (l : List Master). AreHeld l w.activations e.owned e.formals) newest h.held);
      rise = h.rise;
      next_master = h.next_master;
      next_object = h.next_object;
      next_collection = h.next_collection;
      collections = h.collections;
      left = (tt, h.left);
      saved = h.saved;
      noted = h.noted;
    }

-- What is written -----------------------------------------------------------------------------------------

-- the newest master stands last
newest_lent : (masters : List Master) (i window spots : ℕ) (m : Master) (ms : List Master) → reverse masters ≡ m ∷ ms → length masters ≡ suc i → reverse (slice_set masters i (lent m window spots)) ≡ lent m window spots ∷ ms
newest_lent masters i window spots m ms newest long = top_replaced_at masters i (lent m window spots) long ∙ ap (λ (l : List Master). lent m window spots ∷ drop 1 l) newest

-- the frame is pushed, and that master's record is written
pub lending_kept : (e : Kept) (frames pushed : List Frame) (masters : List Master) (i object start offset window spots : ℕ) (m : Master) (ms : List Master)
    → reverse frames ≡ e.control → reverse masters ≡ m ∷ ms → length masters ≡ suc i → spots ≡ length e.spots → pushed ≡ frames ++ FrameOf.Evaluating object start offset m.window m.spots ∷ []
    → record e { control = reverse pushed; masters = reverse (slice_set masters i (lent m window spots)) } ≡ lending object start offset window m ms e
lending_kept e frames pushed masters i object start offset window spots m ms control newest long count is =
    let frame = FrameOf.Evaluating object start offset m.window m.spots in
    let over : reverse pushed ≡ frame ∷ e.control = ap (λ (l : List Frame). reverse l) is ∙ (reverse-append frames (frame ∷ []) ∙ ap (λ (l : List Frame). frame ∷ l) control) in
    ap (λ (l : List Frame). record e { control = l; masters = reverse (slice_set masters i (lent m window spots)) }) over
    ∙ (ap (λ (l : List Master). record e { control = frame ∷ e.control; masters = l }) (newest_lent masters i window spots m ms newest long)
    ∙ ap (λ (n : ℕ). record e { control = frame ∷ e.control; masters = lent m window n ∷ ms }) count)

-- the frame comes off, and that master's record is written
pub given_back_kept : (e : Kept) (frames taken : List Frame) (f : Frame) (masters : List Master) (i window spots : ℕ) (m : Master) (ms : List Master)
    → reverse masters ≡ m ∷ ms → length masters ≡ suc i → frames ≡ taken ++ f ∷ []
    → record e { control = reverse taken; masters = reverse (slice_set masters i (lent m window spots)) } ≡ record e { control = drop 1 (reverse frames); masters = lent m window spots ∷ ms }
given_back_kept e frames taken f masters i window spots m ms newest long is =
    let below : reverse taken ≡ drop 1 (reverse frames) = sym (ap (λ (l : List Frame). drop 1 (reverse l)) is ∙ ap (λ (l : List Frame). drop 1 l) (reverse-append taken (f ∷ []))) in
    ap (λ (l : List Frame). record e { control = l; masters = reverse (slice_set masters i (lent m window spots)) }) below
    ∙ ap (λ (l : List Master). record e { control = drop 1 (reverse frames); masters = l }) (newest_lent masters i window spots m ms newest long)
