-- The collection that an access type has where it is seen.
use Rattle.std.proofs.Common.{◌≡◌, ℕ, zero, suc, ◌+◌, ◌-◌, ◌<◌, ◌≤◌, List, [], ◌∷◌, Option, Some, None, Bool, true, false, length, refl, sym, ap, ◌∙◌, arith, drop, take}
use Rattle.std.specs.Prelude.{slice_get}
use Rattle.std.proofs.lemmas.List.{length-append}
use Rattle.ctl_program.specs.declared.types.Var.{Var}
use Rattle.ctl_meaning.specs.World as W
use Rattle.ctl_meaning.specs.World.{World, Collection, Content, Slot}
use Rattle.ctl_meaning.specs.Activations.{master_of, slot_in}
use Rattle.ctl_meaning.specs.Allocation as Allocation
use Rattle.ctl_meaning.specs.Changes.{slot_at, opened_changes}
use Rattle.ctl_meaning.specs.Ledger.{collection_at, opened_ledger}
use Rattle.ctl_meaning.specs.Lists.{item_or, opened_lists}
use Rattle.ctl_code.specs.declared.code.Code.{Code}
use Rattle.ctl_code.specs.States as T
use Rattle.ctl_code.specs.States.{Word}
use Rattle.ctl_code.specs.Table.{set_seen}
use Rattle.ctl_engine.specs.declared.engine.Engine.{Engine}
use Rattle.ctl_frames.specs.declared.frame.Formal.{Formal}
use Rattle.ctl_frames.specs.declared.frame.Master.{Master}
use Rattle.ctl_frames.specs.declared.frame.Owned.{Owned}
use Rattle.ctl_frames.specs.Holders.{bound_in, content_of, formal_in, holder_in, own_end, own_formals}
use Rattle.ctl_frames.specs.Links.{AreLinked}
use Rattle.ctl_frames.specs.Masters.{Head, display_from}
use Rattle.ctl_frames.specs.Owned.{set_in, sets_owned}
use Rattle.ctl_engine.specs.Shows.{Holds, kept}
use Rattle.ctl_places.proofs.HeldThere.{content_is}
use Rattle.ctl_frames.proofs.Lists.{get_right}
use Rattle.std.specs.Prelude.{nat_eq, if◌then◌else◌}

-- Its master -------------------------------------------------------------------------------------------

beyond_all : (d : List ℕ) (i : ℕ) → length d ≤ i → slice_get d i ≡ None
beyond_all [] i less = refl
beyond_all (x ∷ d) zero less = absurd (omega (arith, less))
beyond_all (x ∷ d) (suc i) less = beyond_all d i (omega (arith, less))

get_taken : (d : List ℕ) (n i : ℕ) → i < n → slice_get (take n d) i ≡ slice_get d i
get_taken d zero i less = absurd (omega (arith, less))
get_taken [] (suc n) i less = refl
get_taken (x ∷ d) (suc n) zero less = refl
get_taken (x ∷ d) (suc n) (suc i) less = get_taken d n i (omega (arith, less))

-- no master stands at that level
pub no_level : (d : List ℕ) (v : Var) → 1 ≤ v.level → length (take v.level d) < v.level → master_of d v ≡ 0
unfolding master_of opened_lists
no_level d v some few =
    ap (λ (o : Option ℕ). item_or 0 o) (sym (get_taken d v.level (v.level - 1) (omega (arith, some))) ∙ beyond_all (take v.level d) (v.level - 1) (omega (arith, few)))

-- the newest of so many does
pub level_is : (d : List ℕ) (v : Var) (count : ℕ) (ms : List Master) (hs : List Head) (m : Master) → 1 ≤ v.level → AreLinked ms hs → slice_get ms (count - 1) ≡ Some m → 0 < count → display_from count hs ≡ take v.level d → v.level ≤ length (display_from count hs) → master_of d v ≡ m.number
unfolding master_of opened_lists
level_is d v zero ms hs m some linked found more is long = absurd (omega (arith, more))
level_is d v (suc i) ms hs m some linked found more is long =
    let here : suc i - 1 ≡ i = omega arith in
    let p = linked.each i m (ap (λ n. slice_get ms n) (sym here) ∙ found) in
    let many : length (display_from (suc i) hs) ≡ length (display_from m.link hs) + 1 = ap (λ (l : List ℕ). length l) p.display ∙ length-append (display_from m.link hs) (m.number ∷ []) in
    let few : length (take v.level d) ≤ v.level = length_take v.level d in
    let same : length (display_from (suc i) hs) ≡ length (take v.level d) = ap (λ (l : List ℕ). length l) is in
    ap (λ (o : Option ℕ). item_or 0 o)
    (sym (get_taken d v.level (v.level - 1) (omega (arith, some)))
    ∙ (ap (λ (l : List ℕ). slice_get l (v.level - 1)) (sym is ∙ p.display)
    ∙ get_right (display_from m.link hs) (m.number ∷ []) 0 (v.level - 1) (omega (arith, many, few, same, long))))
  where
    length_take : (n : ℕ) (l : List ℕ) → length (take n l) ≤ n
    length_take zero l = omega arith
    length_take (suc n) [] = omega arith
    length_take (suc n) (x ∷ l) = let less = length_take n l in omega (arith, less)

-- Its slot ---------------------------------------------------------------------------------------------

-- the slot of a formal holds no collection
bound_sets : (fs : List Formal) (slot : ℕ) (c : Content) → Allocation.set_in c ≡ 0 → Allocation.set_in (bound_in fs slot c) ≡ 0
unfolding Allocation.set_in
bound_sets [] slot c none = none
bound_sets (f ∷ fs) slot c none = bound_sets fs slot _ (by (nat_eq f.slot slot) f.is_value)
  where
    by : (b v : Bool) → Allocation.set_in (if b then if v then W.Copies f.spot.path else W.Binds f.spot.object f.spot.offset f.spot.path else c) ≡ 0
    by true true = refl
    by true false = refl
    by false v = none

formal_sets : (fs : List Formal) (slot : ℕ) → Allocation.set_in (formal_in fs slot) ≡ 0
unfolding Allocation.set_in
formal_sets fs slot = bound_sets fs slot W.Nothing refl

-- what was there before makes no difference, where it is no collection
before_none : (os : List Owned) (slot : ℕ) (c : Content) → Allocation.set_in c ≡ 0 → Allocation.set_in (holder_in os slot c) ≡ Allocation.set_in (holder_in os slot W.Nothing)
unfolding Allocation.set_in
before_none [] slot c none = none
before_none (o ∷ os) slot c none = by (nat_eq o.slot slot) (before_none os slot c none)
  where
    by : (b : Bool) → Allocation.set_in (holder_in os slot c) ≡ Allocation.set_in (holder_in os slot W.Nothing) → Allocation.set_in (holder_in os slot (if b then content_of o else c)) ≡ Allocation.set_in (holder_in os slot (if b then content_of o else W.Nothing))
    by true rest = refl
    by false rest = rest

-- no such slot
pub no_slot_held : (n slot : ℕ) (w : World) → slot_in n slot w.activations ≡ W.unset → 0 ≡ Allocation.set_in (slot_at n slot w).content
unfolding Allocation.set_in opened_changes
no_slot_held n slot w is = ap (λ (y : Slot). Allocation.set_in y.content) (sym is)

-- what the slot holds
pub slot_held : (code : Code) (e : Engine) (k : List T.Frame) (ops : List Word) (w : World) (n slot i : ℕ) (x : Master) → Holds code (kept e) k ops w → slice_get e.masters.items i ≡ Some x → n ≡ x.number → slot < x.slots
    → Allocation.set_in (holder_in (drop x.owned (take (own_end (slice_get e.masters.items (i + 1)) (length e.owned.items)) e.owned.items)) slot W.Nothing) ≡ Allocation.set_in (slot_at n slot w).content
slot_held code e k ops w n slot i x h found number less =
    let formals = formal_in (own_formals x e.formals.items) slot in
    sym (before_none (drop x.owned (take (own_end (slice_get e.masters.items (i + 1)) (length e.owned.items)) e.owned.items)) slot formals (formal_sets (own_formals x e.formals.items) slot))
    ∙ ap (λ (c : Content). Allocation.set_in c) (sym (content_is code e k ops w n slot i x h found number less))

-- The collection ---------------------------------------------------------------------------------------

pub set_seen_is : (code : Code) (e : Engine) (k : List T.Frame) (ops : List Word) (w : World) (d : List ℕ) (v : Var) (pool : Option Var) (n : ℕ) → Holds code (kept e) k ops w → n ≡ Allocation.set_in (slot_at (master_of d v) v.slot w).content
    → set_in n (sets_owned e.owned.items) ≡ set_seen (Some (record { collection = v; pool = pool })) d w
unfolding opened_ledger
set_seen_is code e k ops w d v pool n h is = ap (λ (l : List Collection). set_in n l) (sym h.collections) ∙ ap (λ c. collection_at c w.ledger) is
