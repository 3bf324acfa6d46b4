-- A declared object is created in its slot.
use Rattle.std.proofs.Common.{◌≡◌, ℕ, zero, suc, ◌+◌, ◌<◌, ◌≤◌, List, [], ◌∷◌, ◌++◌, Bool, true, false, length, refl, sym, ap, ◌∙◌, subst, arith, take, inl}
use Rattle.std.specs.Prelude.{nat_lt, if◌then◌else◌, slice_set}
use Rattle.std.proofs.lemmas.Bool.Decides.{nat_tests}
use Rattle.ctl_meaning.specs.World as W
use Rattle.ctl_meaning.specs.World.{World, Content, Slot, Activation, Declared}
use Rattle.ctl_meaning.specs.Lists.{last_of, opened_lists}
use Rattle.ctl_meaning.specs.Names.{opened_names}
use Rattle.ctl_meaning.specs.Activations.{change_slot, opened_activations}
use Rattle.ctl_meaning.specs.Changes.{opened_changes}
use Rattle.ctl_code.specs.declared.kinds.Kind.{Kind}
use Rattle.ctl_code.specs.declared.kinds.Kind.TheVariants.{Operand, RecordValue, Block, Body, Default}
use Rattle.ctl_code.specs.declared.code.Code.{Code}
use Rattle.ctl_code.specs.States as T
use Rattle.ctl_code.specs.States.{Word}
use Rattle.ctl_code.specs.Fits.{OwnsOne, Stands}
use Rattle.ctl_code.specs.Table as Table
use Rattle.ctl_code.specs.Table.{size_of}
use Rattle.ctl_frames.specs.declared.frame.After.{After}
use Rattle.ctl_frames.specs.declared.frame.Frame.{Frame}
use Rattle.ctl_frames.specs.declared.frame.Handling.{Handling}
use Rattle.ctl_frames.specs.declared.frame.Frame.TheVariants as FrameOf
use Rattle.ctl_frames.specs.declared.frame.Master.{Master}
use Rattle.ctl_frames.specs.declared.frame.Owned.{Owned}
use Rattle.ctl_frames.specs.Masters.{Head, heads_of, first_display, display_from, AreMasters, newest_master, AreBelow, IsAmong}
use Rattle.ctl_frames.specs.Holders.{AreHeld, content_of}
use Rattle.ctl_frames.specs.Under.{cell_in, laid}
use Rattle.ctl_engine.specs.Shows.{Wait, master_waits, Kept, Holds, with_cells}
use Rattle.ctl_engine.specs.Declaring.{slot_cleared}
use Rattle.ctl_engine.proofs.Created.{created, newborn, with_newborn, drop_more, take_more}
use Rattle.ctl_engine.proofs.Held.{no_number, created_held}
use Rattle.ctl_engine.proofs.Values.{slot_written}
use Rattle.ctl_engine.proofs.Slots.{HaveNo, own_written, fewer}
use Rattle.ctl_engine.proofs.Closed.{newest_of}
use Rattle.ctl_frames.proofs.Lists.{eq_same, eq_differs, length_set}

-- The newest master ------------------------------------------------------------------------------------

-- inside a window the newest master waits
pub stands_in : (code : Code) (stack : List Kind) (k : List T.Frame) (ops : List Word) → Stands code stack k ops → OwnsOne stack → (n : ℕ) × (g : T.Handling) × (after : T.After) × (below : List T.Frame) × (k ≡ T.InMaster n g after ∷ below)
stands_in code (Operand ty ∷ stack) k (x ∷ ops) stands owns = stands_in code stack k ops stands.1 owns
stands_in code (RecordValue ∷ stack) k (T.Cells v ∷ ops) stands owns = stands_in code stack k ops stands owns
stands_in code (Block slots ∷ stack) (T.InMaster n g (T.AfterBlock p) ∷ k) [] stands owns = (n, g, T.AfterBlock p, k, refl)
stands_in code (Body level slots number ∷ []) (T.InMaster n g (T.AfterProcedure copies p) ∷ k) [] stands owns = (n, g, (T.AfterProcedure copies p), k, refl)
stands_in code (Body level slots number ∷ []) (T.InMaster n g (T.AfterFunction given p) ∷ k) [] stands owns = (n, g, (T.AfterFunction given p), k, refl)
stands_in code (Body level slots number ∷ []) (T.InMaster n g T.AfterBody ∷ k) [] stands owns = (n, g, T.AfterBody, k, refl)
stands_in code (Default level number ∷ stack) k ops stands owns = absurd owns.1
stands_in code _ _ _ stands owns = elim stands [ ]

-- the newest master of the machine, and its frame
pub record IsInnermost (fs : List Frame) (ms : List Master) (hs : List Head) (objects : List Owned) : Type 0 where
  pub handling : Handling
  pub after : After
  pub frames : List Frame
  pub newest : Master
  pub others : List Master
  pub control : fs ≡ FrameOf.InMaster handling after ∷ frames
  pub masters : ms ≡ newest ∷ others
  pub display : last_of (first_display hs) ≡ newest.number
  pub owned : newest.owned ≤ length objects

last_is : (xs : List ℕ) (x : ℕ) → last_of (xs ++ x ∷ []) ≡ x
unfolding opened_lists
last_is [] x = refl
last_is (y ∷ []) x = refl
last_is (y ∷ z ∷ zs) x = last_is (z ∷ zs) x

pub innermost : {fs : List Frame} {ms : List Master} {hs : List Head} {ks : List W.Master} {owned : List Owned} {n : ℕ} {g' : T.Handling} {after : T.After} {k : List T.Frame}
    → Wait fs ms hs owned (T.InMaster n g' after ∷ k) → AreMasters ms hs ks owned → IsInnermost fs ms hs owned
innermost (master_waits {g = g} {after = after} {fs = fs} s i w) (newest_master {m = m} {h = h} {ms = ms} {hs = hs} head o r) = record {
  handling = g;
  after = after;
  frames = fs;
  newest = m;
  others = ms;
  control = refl;
  masters = refl;
  display = ap last_of head.display ∙ last_is (display_from m.link hs) m.number;
  owned = o.owned;
}

-- Its slot --------------------------------------------------------------------------------------------------

holds_no_cell : (n : ℕ) → cell_in (W.holding (W.Holds n)) ≡ 0
unfolding opened_lists opened_names
holds_no_cell n = refl

pub cleared_within : (m : Master) (slot : ℕ) (cells : List ℕ) → slot < m.slots → slot_cleared m slot cells ≡ slice_set cells (m.base + slot) 0
cleared_within m slot cells less = ap (λ (b : Bool). if b then slice_set cells (m.base + slot) 0 else cells) (yes less)
  where
    yes : slot < m.slots → nat_lt slot m.slots ≡ true
    yes h = grind (arith, nat_tests)

pub cleared_beyond : (m : Master) (slot : ℕ) (cells : List ℕ) → m.slots ≤ slot → slot_cleared m slot cells ≡ cells
cleared_beyond m slot cells more = ap (λ (b : Bool). if b then slice_set cells (m.base + slot) 0 else cells) (no more)
  where
    no : m.slots ≤ slot → nat_lt slot m.slots ≡ false
    no h = grind (arith, nat_tests)

set_beyond : {X : Type 0} (xs : List X) (i : ℕ) (v : X) → length xs ≤ i → slice_set xs i v ≡ xs
set_beyond [] i v h = refl
set_beyond (x ∷ xs) zero v h = absurd (omega (arith, h))
set_beyond (x ∷ xs) (suc i) v h = ap (λ l. x ∷ l) (set_beyond xs i v (omega (arith, h)))

-- the slots of older masters stay
older_stay : (n i : ℕ) (y : Slot) (ms : List Master) (acts : List Activation) (ks : List W.Master) (owned : List Owned) → AreMasters ms (heads_of acts) ks owned → AreBelow ms n → change_slot n i y acts ≡ acts
unfolding opened_lists opened_activations
older_stay n i y ms [] ks owned h b = refl
older_stay n i y ms (a ∷ acts) ks owned (newest_master {m = m} {ms = ms'} {ks = ks'} h o r) b =
    rw (eq_differs a.master n (λ same. let g = h.head in let l = b.0 in omega (arith, same, g, l)), older_stay n i y ms' acts ks' (take m.owned owned) r (fewer ms' m.number n b.0 b.1)) refl

-- a slot that the newest master does not have
slot_missing : (n i : ℕ) (y : Slot) (a : Activation) (acts : List Activation) → a.master ≡ n → length a.slots ≤ i → change_slot n i y acts ≡ acts → change_slot n i y (a ∷ acts) ≡ a ∷ acts
unfolding opened_lists opened_activations
slot_missing n i y a acts e more same = rw (eq_same a.master n e, same, set_beyond a.slots i y more) refl

pub length_slot_cleared : (m : Master) (slot : ℕ) (cells : List ℕ) → length (slot_cleared m slot cells) ≡ length cells
length_slot_cleared m slot cells = by_slot (nat_lt slot m.slots)
  where
    by_slot : (b : Bool) → length (if b then slice_set cells (m.base + slot) 0 else cells) ≡ length cells
    by_slot true = length_set cells (m.base + slot) 0
    by_slot false = refl

pub no_such_slot : (m : Master) (ms : List Master) (slot : ℕ) (y : Slot) (w : World) (owned : List Owned) (j bound : ℕ) → AreMasters (m ∷ ms) (heads_of w.activations) w.ledger.masters owned → AreBelow (m ∷ ms) bound → j ≡ m.number → m.slots ≤ slot → change_slot j slot y w.activations ≡ w.activations
no_such_slot m ms slot y w owned j bound masters below own more =
    let i = newest_of m ms w.activations w.ledger.masters owned masters in
    let many = i.head.slots in
    let others = older_stay j slot y ms i.older i.others (take m.owned owned) i.below (subst (λ c. AreBelow ms c) (sym own) below.1) in
    ap (λ (l : List Activation). change_slot j slot y l) i.activations ∙ (slot_missing j slot y i.newest i.older (i.head.head ∙ sym own) (omega (arith, many, more)) others ∙ sym i.activations)

-- what the slots hold where something new comes in one of the newest master
pub newest_held : (e : Kept) (m : Master) (ms : List Master) (x : Owned) (c : Content) (j : ℕ) (w : World) → AreMasters (m ∷ ms) (heads_of w.activations) w.ledger.masters e.owned → AreBelow (m ∷ ms) e.next_master → AreHeld (m ∷ ms) w.activations e.owned e.formals → j ≡ m.number → c ≡ content_of x
    → AreHeld (m ∷ ms) (change_slot j x.slot (W.holding c) w.activations) (e.owned ++ x ∷ []) e.formals
newest_held e m ms x c j w masters below held own same =
    let y = W.holding c in
    let slot = x.slot in
    let i = newest_of m ms w.activations w.ledger.masters e.owned masters in
    let less = i.owner.owned in
    let none : HaveNo j i.older = subst (λ k. HaveNo k i.older) (sym own) (no_number ms i.older i.others (take m.owned e.owned) m.number m.number i.below below.1 (omega arith)) in
    let wrote : change_slot j slot y w.activations ≡ (record i.newest { slots = slice_set i.newest.slots slot y }) ∷ i.older = ap (λ (l : List Activation). change_slot j slot y l) i.activations ∙ own_written j slot y i.newest i.older (i.head.head ∙ sym own) none in
    let before : AreHeld (m ∷ ms) (i.newest ∷ i.older) e.owned e.formals = subst (λ (l : List Activation). AreHeld (m ∷ ms) l e.owned e.formals) i.activations held in
    let after = created_held m ms i.newest i.older e.owned x e.formals (drop_more e.owned m.owned x less) (take_more e.owned m.owned x less) before in
    subst (λ (l : List Activation). AreHeld (m ∷ ms) l (e.owned ++ x ∷ []) e.formals) (sym wrote)
    (subst (λ (k : Content). AreHeld (m ∷ ms) ((record i.newest { slots = slice_set i.newest.slots slot (W.holding k) }) ∷ i.older) (e.owned ++ x ∷ []) e.formals) (sym same) after)

-- the new object stands in its slot
pub record HasSlot (code : Code) (e : Kept) (m : Master) (slot t : ℕ) (k : List T.Frame) (ops : List Word) (w : World) : Type 0 where
  pub holds : Holds code (with_cells (with_newborn e slot t (size_of code t) m) (slot_cleared m slot e.cells)) k ops (Table.with_object code (first_display (heads_of w.activations)) slot t w)
  pub within : slot < m.slots → m.base + slot < length e.cells
  pub heads : heads_of (Table.with_object code (first_display (heads_of w.activations)) slot t w).activations ≡ heads_of w.activations

pub has_slot : (code : Code) (e : Kept) (g : Handling) (after : After) (fs : List Frame) (m : Master) (ms : List Master) (n slot t : ℕ) (g' : T.Handling) (after' : T.After) (k : List T.Frame) (ops : List Word) (w : World)
    → Holds code e (T.InMaster n g' after' ∷ k) ops w → e.control ≡ FrameOf.InMaster g after ∷ fs → e.masters ≡ m ∷ ms → last_of (first_display (heads_of w.activations)) ≡ m.number
    → HasSlot code e m slot t (T.InMaster n g' after' ∷ k) ops w
unfolding opened_changes
has_slot code e g after fs m ms n slot t g' after' k ops w h top is own =
    by_slot (nat_lt slot m.slots) refl
  where
    j : ℕ
    j = last_of (first_display (heads_of w.activations))

    k' : List T.Frame
    k' = T.InMaster n g' after' ∷ k

    size : ℕ
    size = size_of code t

    y : Slot
    y = W.holding (W.Holds w.ledger.next_object)

    acts : List Activation
    acts = change_slot j slot y w.activations

    masters : AreMasters (m ∷ ms) (heads_of w.activations) w.ledger.masters e.owned
    masters = subst (λ (l : List Master). AreMasters l (heads_of w.activations) w.ledger.masters e.owned) is h.masters

    below : AreBelow (m ∷ ms) e.next_master
    below = subst (λ (l : List Master). AreBelow l e.next_master) is h.below

    held : AreHeld e.masters acts (e.owned ++ newborn e slot t m ∷ []) e.formals
    held = subst (λ (l : List Master). AreHeld l acts (e.owned ++ newborn e slot t m ∷ []) e.formals) (sym is)
        (newest_held e m ms (newborn e slot t m) (W.Holds w.ledger.next_object) j w masters below (subst (λ (l : List Master). AreHeld l w.activations e.owned e.formals) is h.held) own (ap (λ n. W.Holds n) h.next_object))

    made : ((rest : List ℕ) × (slot_cleared m slot e.cells ≡ laid k' acts ops ++ rest)) → heads_of acts ≡ heads_of w.activations → (slot < m.slots → m.base + slot < length e.cells) → HasSlot code e m slot t k' ops w
    made cells heads within = record {
      holds = created code e g after fs m ms n slot t size j g' after' k ops w acts (slot_cleared m slot e.cells) h top is own cells (length_slot_cleared m slot e.cells) heads held;
      within = within;
      heads = heads;
    }

    by_slot : (b : Bool) → nat_lt slot m.slots ≡ b → HasSlot code e m slot t k' ops w
    by_slot true f =
        let less : slot < m.slots = grind (arith, nat_tests, f) in
        let p = slot_written code e k' ops w j slot (m.base + slot) y m h (subst (λ (l : List Master). IsAmong m l) (sym is) (inl refl)) own less refl in
        made (p.0.0, cleared_within m slot e.cells less ∙ (ap (λ c. slice_set e.cells (m.base + slot) c) (sym (holds_no_cell w.ledger.next_object)) ∙ p.0.1)) p.2 (λ z. p.1)
    by_slot false f =
        let more : m.slots ≤ slot = grind (arith, nat_tests, f) in
        let same : acts ≡ w.activations = no_such_slot m ms slot y w e.owned j e.next_master masters below own more in
        made (h.cells.0, cleared_beyond m slot e.cells more ∙ (h.cells.1 ∙ ap (λ (l : List Activation). laid k' l ops ++ h.cells.0) (sym same))) (ap (λ (l : List Activation). heads_of l) same) (λ z. absurd (omega (arith, z, more)))
