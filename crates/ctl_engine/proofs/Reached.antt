-- Variables of bodies around, by their links.
use Rattle.std.proofs.Common.{◌≡◌, ℕ, zero, suc, ◌+◌, ◌-◌, ◌<◌, ◌≤◌, List, [], ◌∷◌, Option, Some, None, length, refl, sym, ap, ◌∙◌, subst, arith, reverse, ◌⊎◌, inl, inr}
use Rattle.std.specs.Prelude.{slice_get, slice_index_or}
use Rattle.std.proofs.lemmas.List.{reverse-append, reverse-reverse}
use Rattle.std.proofs.lemmas.Option.{slice_get_within}
use Rattle.ctl_meaning.specs.World as W
use Rattle.ctl_meaning.specs.World.{World, Slot, unset, Activation}
use Rattle.ctl_meaning.specs.Lists.{item_or, opened_lists}
use Rattle.ctl_meaning.specs.Activations.{slot_in, opened_activations}
use Rattle.ctl_meaning.specs.Changes.{opened_changes}
use Rattle.ctl_code.specs.declared.code.Code.{Code}
use Rattle.ctl_code.specs.States as T
use Rattle.ctl_code.specs.States.{Word}
use Rattle.ctl_code.specs.Table.{out_of, cell_at}
use Rattle.ctl_engine.specs.declared.engine.Engine.{Engine}
use Rattle.ctl_frames.specs.declared.frame.Master.{Master}
use Rattle.ctl_frames.specs.declared.frame.Owned.{Owned}
use Rattle.ctl_frames.specs.Masters.{Head, heads_of, AreBelow, AreMasters, newest_master, IsAmong, display_from}
use Rattle.ctl_frames.specs.Links.{AreLinked, IsAtPlace}
use Rattle.ctl_engine.specs.Shows.{Kept, Holds, kept}
use Rattle.ctl_engine.specs.Variables.{HasSlotAt, IsVariable, IsNoVariable}
use Rattle.ctl_frames.proofs.Lists.{eq_differs, same_at}
use Rattle.ctl_frames.proofs.Links.{got, get_split, none_around, are_linked}
use Rattle.ctl_engine.proofs.Places.{out_none, out_more}
use Rattle.ctl_engine.proofs.Slots.{HaveNo, slot_of_other, slot_of_own, is_older}

-- Along the links --------------------------------------------------------------------------------------

place_before : (count : ℕ) (ms : List Master) (hs : List Head) (m : Master) → AreLinked ms hs → 0 < count → slice_get ms (count - 1) ≡ Some m → (i : ℕ) × (count ≡ suc i) × IsAtPlace m i hs
place_before zero ms hs m linked some found = absurd (omega (arith, some))
place_before (suc i) ms hs m linked some found = let e : suc i - 1 ≡ i = omega arith in (i, refl, linked.each i m (ap (λ n. slice_get ms n) (sym e) ∙ found))

-- the master where a walk ends
pub out_here : (count : ℕ) (ms : List Master) (hs : List Head) (m : Master) → AreLinked ms hs → 0 < count → slice_get ms (count - 1) ≡ Some m → out_of (display_from count hs) 0 ≡ m.number
out_here count ms hs m linked some found =
    let p = place_before count ms hs m linked some found in
    ap (λ n. out_of (display_from n hs) 0) p.1 ∙ (ap (λ d. out_of d 0) p.2.display ∙ out_none (display_from m.link hs) m.number)

-- one link further
pub out_further : (count out : ℕ) (ms : List Master) (hs : List Head) (m : Master) → AreLinked ms hs → 0 < count → count ≤ length ms → slice_get ms (count - 1) ≡ Some m → (m.link < count) × (m.link ≤ length ms) × (out_of (display_from m.link hs) out ≡ out_of (display_from count hs) (suc out))
out_further count out ms hs m linked some within found =
    let p = place_before count ms hs m linked some found in
    let same = p.1 in
    let link = p.2.link in
    (omega (arith, same, link), omega (arith, same, link, within), sym (ap (λ n. out_of (display_from n hs) (suc out)) same ∙ (ap (λ d. out_of d (suc out)) p.2.display ∙ out_more (display_from m.link hs) m.number out)))

-- no master is left
pub out_of_all : (count out : ℕ) (hs : List Head) → count ≡ 0 → out_of (display_from count hs) out ≡ 0
unfolding opened_lists
out_of_all count out hs e = ap (λ n. out_of (display_from n hs) out) e ∙ ap (λ d. out_of d out) (none_around hs)

-- Cells ------------------------------------------------------------------------------------------------

pub linked_in : (code : Code) (e : Engine) (k : List T.Frame) (ops : List Word) (w : World) → Holds code (kept e) k ops w → AreLinked e.masters.items (heads_of w.activations)
linked_in code e k ops w h = subst (λ (l : List Master). AreLinked l (heads_of w.activations)) (reverse-reverse e.masters.items) (are_linked h.masters)

-- the master at a place, as it is read
pub there_read : (ms : List Master) (i out : ℕ) (d : List ℕ) (m : Master) → ((x : Master) × (slice_get ms i ≡ Some x) × (out_of d out ≡ x.number)) → m ≡ slice_index_or ms i m → (slice_get ms i ≡ Some m) × (out_of d out ≡ m.number)
there_read ms i out d m there read =
    let found = got ms i m (slice_get_within ms i there.0 there.1) read in
    (found, there.2 ∙ ap (λ (x : Master). x.number) (same_at there.0 m (slice_get ms i) there.1 found))

-- the same of a master with a slot
pub seen_read : (ms : List Master) (i n slot : ℕ) (m : Master) → HasSlotAt n slot i ms → m ≡ slice_index_or ms i m → (slice_get ms i ≡ Some m) × (n ≡ m.number) × (slot < m.slots)
seen_read ms i n slot m there read =
    let found = got ms i m (slice_get_within ms i there.master there.found) read in
    let same = same_at there.master m (slice_get ms i) there.found found in
    (found, there.numbered ∙ ap (λ (x : Master). x.number) same, subst (λ (x : Master). slot < x.slots) same there.within)

-- an item of the stack is among the masters
pub among_reversed : (ms : List Master) (i : ℕ) (m : Master) → slice_get (reverse ms) i ≡ Some m → IsAmong m ms
among_reversed [] i m e = absurd (cc)
among_reversed (x ∷ ms) i m e = by_place (λ f. among_reversed ms i m f) (get_split (reverse ms) (x ∷ []) i m (sym (ap (λ (l : List Master). slice_get l i) (reverse-append (x ∷ []) ms)) ∙ e))
  where
    only : (j : ℕ) → slice_get (x ∷ []) j ≡ Some m → x ≡ m
    only zero f = ap (λ (y : Option Master). item_of y) f
      where
        item_of : Option Master → Master
        item_of None = x
        item_of (Some y) = y
    only (suc j) f = absurd (cc)

    by_place : (slice_get (reverse ms) i ≡ Some m → IsAmong m ms) → (slice_get (reverse ms) i ≡ Some m) ⊎ ((j : ℕ) × (i ≡ length (reverse ms) + j) × (slice_get (x ∷ []) j ≡ Some m)) → IsAmong m (x ∷ ms)
    by_place older (inl f) = inr (older f)
    by_place older (inr f) = inl (only f.0 f.2)

pub among_of : (xs : List Master) (i : ℕ) (m : Master) → slice_get xs i ≡ Some m → IsAmong m (reverse xs)
among_of xs i m e = among_reversed (reverse xs) i m (ap (λ (l : List Master). slice_get l i) (reverse-reverse xs) ∙ e)

pub far_variable : (d : List ℕ) (out slot i : ℕ) (xs : List Master) (m : Master) → slice_get xs i ≡ Some m → out_of d out ≡ m.number → slot < m.slots → IsVariable d out slot (m.base + slot) (reverse xs)
far_variable d out slot i xs m found number within = record { master = m; among = among_of xs i m found; number = number; within = within; cell = refl }

-- No variable --------------------------------------------------------------------------------------------

bound_rises : (ms : List Master) (n : ℕ) → AreBelow ms n → 0 < n
bound_rises [] n b = b
bound_rises (m ∷ ms) n b = let less = b.0 in omega (arith, less)

-- no active master has the number 0
pub no_zero : (ms : List Master) (acts : List Activation) (ks : List W.Master) (owned : List Owned) (bound : ℕ) → AreMasters ms (heads_of acts) ks owned → AreBelow ms bound → HaveNo 0 acts
no_zero ms [] ks owned bound a b = tt
no_zero [] (x ∷ acts) ks owned bound a b = elim a [ ]
no_zero (m ∷ ms) (x ∷ acts) _ _ bound (newest_master {ks = ks} {owned = owned} h o r) b = ((λ same. let p = bound_rises ms m.number b.1 in let i = h.head in omega (arith, same, i, p)), no_zero ms acts ks _ m.number r b.1)

not_there : (n slot : ℕ) (acts : List Activation) → HaveNo n acts → slot_in n slot acts ≡ unset
unfolding opened_lists opened_activations
not_there n slot [] none = refl
not_there n slot (x ∷ acts) none = rw (eq_differs x.master n none.0) (not_there n slot acts none.1)

-- a slot that the master does not have
beyond_is_unset : (xs : List Slot) (slot : ℕ) → length xs ≤ slot → item_or unset (slice_get xs slot) ≡ unset
unfolding opened_lists
beyond_is_unset [] slot less = refl
beyond_is_unset (x ∷ xs) zero less = absurd (omega (arith, less))
beyond_is_unset (x ∷ xs) (suc slot) less = beyond_is_unset xs slot (omega (arith, less))

beyond_in : (ms : List Master) (acts : List Activation) (ks : List W.Master) (owned : List Owned) (bound : ℕ) (x : Master) (slot : ℕ) → AreMasters ms (heads_of acts) ks owned → AreBelow ms bound → IsAmong x ms → x.slots ≤ slot → slot_in x.number slot acts ≡ unset
beyond_in [] acts ks owned bound x slot a b i less = absurd i
beyond_in (m ∷ ms) [] ks owned bound x slot a b i less = elim a [ ]
beyond_in (m ∷ ms) (act ∷ acts) _ _ bound x slot (newest_master h o r) b (inl e) less =
    let many = h.slots in
    slot_of_own x.number slot act acts (h.head ∙ ap (λ (y : Master). y.number) e) ∙ beyond_is_unset act.slots slot (let same = ap (λ (y : Master). y.slots) e in omega (arith, many, same, less))
beyond_in (m ∷ ms) (act ∷ acts) _ _ bound x slot (newest_master {ks = ks} h o r) b (inr i) less =
    slot_of_other x.number m.number slot act acts h.head (is_older ms x m.number b.1 i) ∙ beyond_in ms acts ks _ m.number x slot r b.1 i less

unset_reads_zero : (d : List ℕ) (out slot : ℕ) (w : World) → slot_in (out_of d out) slot w.activations ≡ unset → cell_at d out slot w ≡ 0
unfolding opened_changes opened_lists
unset_reads_zero d out slot w e = ap (λ (x : Slot). x.value) e

-- where no master has the number
pub no_number_slot : (code : Code) (e : Kept) (k : List T.Frame) (ops : List Word) (w : World) (n slot : ℕ) → Holds code e k ops w → n ≡ 0 → slot_in n slot w.activations ≡ unset
no_number_slot code e k ops w n slot h none = ap (λ j. slot_in j slot w.activations) none ∙ not_there 0 slot w.activations (no_zero e.masters w.activations w.ledger.masters e.owned e.next_master h.masters h.below)

-- and where the master has no such slot
pub no_master_slot : (code : Code) (e : Kept) (k : List T.Frame) (ops : List Word) (w : World) (n slot : ℕ) (x : Master) → Holds code e k ops w → IsAmong x e.masters → n ≡ x.number → x.slots ≤ slot → slot_in n slot w.activations ≡ unset
no_master_slot code e k ops w n slot x h among number beyond = ap (λ j. slot_in j slot w.activations) number ∙ beyond_in e.masters w.activations w.ledger.masters e.owned e.next_master x slot h.masters h.below among beyond

-- a slot that no master has holds nothing
pub no_variable_slot : (code : Code) (e : Kept) (k : List T.Frame) (ops : List Word) (w : World) (d : List ℕ) (out slot : ℕ) → Holds code e k ops w → IsNoVariable d out slot e.masters → slot_in (out_of d out) slot w.activations ≡ unset
no_variable_slot code e k ops w d out slot h (inl none) = no_number_slot code e k ops w (out_of d out) slot h none
no_variable_slot code e k ops w d out slot h (inr v) = no_master_slot code e k ops w (out_of d out) slot v.master h v.among v.number v.beyond

pub no_variable_read : (code : Code) (e : Kept) (k : List T.Frame) (ops : List Word) (w : World) (d : List ℕ) (out slot : ℕ) → Holds code e k ops w → IsNoVariable d out slot e.masters → cell_at d out slot w ≡ 0
no_variable_read code e k ops w d out slot h none = unset_reads_zero d out slot w (no_variable_slot code e k ops w d out slot h none)
