-- The object that a slot of an active master holds is found among the objects that the master owns.
use Rattle.std.proofs.Common.{◌≡◌, ℕ, zero, suc, ◌+◌, ◌<◌, ◌≤◌, List, [], ◌∷◌, ◌++◌, Option, Some, None, length, refl, sym, ap, ◌∙◌, subst, arith, reverse, drop, take, ◌⊎◌, inl, inr}
use Rattle.std.specs.Prelude.{slice_get}
use Rattle.std.proofs.lemmas.List.{reverse-append, reverse-reverse, take_all}
use Rattle.std.proofs.lemmas.Option.{slice_get_within}
use Rattle.ctl_meaning.specs.World as W
use Rattle.ctl_meaning.specs.World.{World, Slot, Activation}
use Rattle.ctl_meaning.specs.Activations.{slot_in}
use Rattle.ctl_meaning.specs.Changes.{opened_changes, slot_at}
use Rattle.ctl_code.specs.declared.code.Code.{Code}
use Rattle.ctl_code.specs.States as T
use Rattle.ctl_code.specs.States.{Word}
use Rattle.ctl_engine.specs.declared.engine.Engine.{Engine}
use Rattle.ctl_frames.specs.declared.frame.Formal.{Formal}
use Rattle.ctl_frames.specs.declared.frame.Master.{Master}
use Rattle.ctl_frames.specs.declared.frame.Owned.{Owned}
use Rattle.ctl_frames.specs.Masters.{Head, heads_of, AreMasters, newest_master, AreBelow, IsAmong}
use Rattle.ctl_frames.specs.Holders.{holder_in, formal_in, own_formals, AreHeld, own_end}
use Rattle.ctl_engine.specs.Shows.{Holds, kept}
use Rattle.ctl_frames.proofs.Lists.{length_taken, get_right}
use Rattle.ctl_frames.proofs.Links.{get_split}
use Rattle.ctl_engine.proofs.Slots.{is_older, slot_of_own, slot_of_other}

-- Where the objects of a master end -------------------------------------------------------------------

-- the objects of a master end here, where so many are owned and these are the masters, the newest first
abbrev pub EndsOwn : Master → ℕ → List Master → ℕ → Type 0
EndsOwn x end [] total = ⊥
EndsOwn x end (m ∷ ms) total = ((m ≡ x) × (end ≡ total)) ⊎ EndsOwn x end ms m.owned

next_end : (xs : List Master) (m : Master) (i total : ℕ) → i ≤ length xs → own_end (slice_get (xs ++ m ∷ []) i) total ≡ own_end (slice_get xs i) m.owned
next_end [] m zero total h = refl
next_end [] m (suc i) total h = absurd (omega (arith, h))
next_end (x ∷ xs) m zero total h = refl
next_end (x ∷ xs) m (suc i) total h = next_end xs m i total (omega (arith, h))

ends_reversed : (ms : List Master) (i total : ℕ) (x : Master) → slice_get (reverse ms) i ≡ Some x → EndsOwn x (own_end (slice_get (reverse ms) (i + 1)) total) ms total
ends_reversed [] i total x e = absurd (cc)
ends_reversed (m ∷ ms) i total x e = by_place (λ f. ends_reversed ms i m.owned x f) (get_split (reverse ms) (m ∷ []) i x (sym (ap (λ (l : List Master). slice_get l i) split) ∙ e))
  where
    split : reverse (m ∷ ms) ≡ reverse ms ++ m ∷ []
    split = reverse-append (m ∷ []) ms

    item_of : Option Master → Master
    item_of None = m
    item_of (Some y) = y

    newest : (j : ℕ) → i ≡ length (reverse ms) + j → slice_get (m ∷ []) j ≡ Some x → EndsOwn x (own_end (slice_get (reverse (m ∷ ms)) (i + 1)) total) (m ∷ ms) total
    newest zero here f = inl (ap (λ (y : Option Master). item_of y) f, ap (λ (l : List Master). own_end (slice_get l (i + 1)) total) split ∙ ap (λ (y : Option Master). own_end y total) (get_right (reverse ms) (m ∷ []) 1 (i + 1) (omega (arith, here))))
    newest (suc j) here f = absurd (cc)

    by_place : (slice_get (reverse ms) i ≡ Some x → EndsOwn x (own_end (slice_get (reverse ms) (i + 1)) m.owned) ms m.owned) → (slice_get (reverse ms) i ≡ Some x) ⊎ ((j : ℕ) × (i ≡ length (reverse ms) + j) × (slice_get (m ∷ []) j ≡ Some x)) → EndsOwn x (own_end (slice_get (reverse (m ∷ ms)) (i + 1)) total) (m ∷ ms) total
    by_place older (inl f) =
        let within = slice_get_within (reverse ms) i x f in
        let same : own_end (slice_get (reverse (m ∷ ms)) (i + 1)) total ≡ own_end (slice_get (reverse ms) (i + 1)) m.owned = ap (λ (l : List Master). own_end (slice_get l (i + 1)) total) split ∙ next_end (reverse ms) m (i + 1) total (omega (arith, within)) in
        inr (subst (λ n. EndsOwn x n ms m.owned) (sym same) (older f))
    by_place older (inr f) = newest f.0 f.1 f.2

ends_own : (xs : List Master) (i total : ℕ) (x : Master) → slice_get xs i ≡ Some x → EndsOwn x (own_end (slice_get xs (i + 1)) total) (reverse xs) total
ends_own xs i total x e =
    let twice : reverse (reverse xs) ≡ xs = reverse-reverse xs in
    subst (λ (l : List Master). EndsOwn x (own_end (slice_get l (i + 1)) total) (reverse xs) total) twice (ends_reversed (reverse xs) i total x (ap (λ (l : List Master). slice_get l i) twice ∙ e))

-- such a master is among them, and its objects end among all of them
ends_among : (ms : List Master) (x : Master) (end total : ℕ) → EndsOwn x end ms total → IsAmong x ms
ends_among [] x end total h = absurd h
ends_among (m ∷ ms) x end total (inl h) = inl h.0
ends_among (m ∷ ms) x end total (inr h) = inr (ends_among ms x end m.owned h)

ends_within : {ms : List Master} {hs : List Head} {ks : List W.Master} {owned : List Owned} (x : Master) (end : ℕ) → AreMasters ms hs ks owned → EndsOwn x end ms (length owned) → end ≤ length owned
ends_within {ms = []} x end a h = absurd h
ends_within {ms = m ∷ ms} x end a (inl h) = let same = h.1 in omega (arith, same)
ends_within {ms = m ∷ ms} x end (newest_master {owned = owned} g o r) (inr h) =
    let less = o.owned in
    let long : length (take m.owned owned) ≡ m.owned = length_taken m.owned owned less in
    let within = ends_within x end r (subst (λ n. EndsOwn x end ms n) (sym long) h) in
    omega (arith, less, long, within)

pub own_end_within : (code : Code) (e : Engine) (k : List T.Frame) (ops : List Word) (w : World) (i : ℕ) (x : Master) → Holds code (kept e) k ops w → slice_get e.masters.items i ≡ Some x → own_end (slice_get e.masters.items (i + 1)) (length e.owned.items) ≤ length e.owned.items
own_end_within code e k ops w i x h found = ends_within x _ h.masters (ends_own e.masters.items i (length e.owned.items) x found)

-- What a slot holds --------------------------------------------------------------------------------------

take_less : {X : Type 0} (os : List X) (i j : ℕ) → i ≤ j → take i (take j os) ≡ take i os
take_less os zero j h = refl
take_less os (suc i) zero h = absurd (omega (arith, h))
take_less [] (suc i) (suc j) h = refl
take_less {X} (o ∷ os) (suc i) (suc j) h = ap (λ (l : List X). o ∷ l) (take_less os i j (omega (arith, h)))

-- the formals of a master are among those of all active ones
formals_within : (ms : List Master) (acts : List Activation) (owned : List Owned) (fs : List Formal) (x : Master) → AreHeld ms acts owned fs → IsAmong x ms → (x.outer_formals ≤ x.formals) × (x.formals ≤ length fs)
formals_within [] acts owned fs x h i = absurd i
formals_within (m ∷ ms) [] owned fs x h i = absurd h
formals_within (m ∷ ms) (act ∷ acts) owned fs x h (inl same) = subst (λ (z : Master). (z.outer_formals ≤ z.formals) × (z.formals ≤ length fs)) same (h.0.rise, h.0.within)
formals_within (m ∷ ms) (act ∷ acts) owned fs x h (inr i) =
    let below = formals_within ms acts (take m.owned owned) (take m.outer_formals fs) x h.1 i in
    let rise = h.0.rise in
    let within = h.0.within in
    let long : length (take m.outer_formals fs) ≡ m.outer_formals = length_taken m.outer_formals fs (omega (arith, rise, within)) in
    let less = below.1 in
    (below.0, omega (arith, less, long, rise, within))

pub own_formals_within : (code : Code) (e : Engine) (k : List T.Frame) (ops : List Word) (w : World) (i : ℕ) (x : Master) → Holds code (kept e) k ops w → slice_get e.masters.items i ≡ Some x → (x.outer_formals ≤ x.formals) × (x.formals ≤ length e.formals.items)
own_formals_within code e k ops w i x h found = formals_within (reverse e.masters.items) w.activations e.owned.items e.formals.items x h.held (ends_among (reverse e.masters.items) x _ (length e.owned.items) (ends_own e.masters.items i (length e.owned.items) x found))

content_there : (ms : List Master) (acts : List Activation) (ks : List W.Master) (owned : List Owned) (fs : List Formal) (bound : ℕ) (x : Master) (end slot : ℕ)
    → AreMasters ms (heads_of acts) ks owned → AreBelow ms bound → AreHeld ms acts owned fs → EndsOwn x end ms (length owned) → slot < x.slots
    → (slot_in x.number slot acts).content ≡ holder_in (drop x.owned (take end owned)) slot (formal_in (own_formals x fs) slot)
content_there [] acts ks owned fs bound x end slot a b h ends less = absurd ends
content_there (m ∷ ms) [] ks owned fs bound x end slot a b h ends less = absurd h
content_there (m ∷ ms) (act ∷ acts) _ owned fs bound x end slot (newest_master g o r) b h (inl ends) less =
    let same = ends.0 in
    let many = g.slots in
    let slots = ap (λ (z : Master). z.slots) same in
    let all : owned ≡ take end owned = sym (take_all end owned (let t = ends.1 in omega (arith, t))) in
    ap (λ (y : Slot). y.content) (slot_of_own x.number slot act acts (g.head ∙ ap (λ (z : Master). z.number) same))
    ∙ (h.0.contents slot (omega (arith, less, many, slots))
    ∙ (ap (λ (z : Master). holder_in (drop z.owned owned) slot (formal_in (own_formals z fs) slot)) same
    ∙ ap (λ (l : List Owned). holder_in (drop x.owned l) slot (formal_in (own_formals x fs) slot)) all))
content_there (m ∷ ms) (act ∷ acts) _ owned fs bound x end slot (newest_master {ks = ks} g o r) b h (inr ends) less =
    let own = o.owned in
    let long : length (take m.owned owned) ≡ m.owned = length_taken m.owned owned own in
    let ends' : EndsOwn x end ms (length (take m.owned owned)) = subst (λ n. EndsOwn x end ms n) (sym long) ends in
    let within = ends_within x end r ends' in
    let among = ends_among ms x end m.owned ends in
    let less_formals = (formals_within ms acts (take m.owned owned) (take m.outer_formals fs) x h.1 among).1 in
    let rise = h.0.rise in
    let inside = h.0.within in
    let many : length (take m.outer_formals fs) ≡ m.outer_formals = length_taken m.outer_formals fs (omega (arith, rise, inside)) in
    let formals : own_formals x (take m.outer_formals fs) ≡ own_formals x fs = ap (λ (l : List Formal). drop x.outer_formals l) (take_less fs x.formals m.outer_formals (omega (arith, less_formals, many))) in
    ap (λ (y : Slot). y.content) (slot_of_other x.number m.number slot act acts g.head (is_older ms x m.number b.1 among))
    ∙ (content_there ms acts ks (take m.owned owned) (take m.outer_formals fs) m.number x end slot r b.1 h.1 ends' less
    ∙ (ap (λ (l : List Formal). holder_in (drop x.owned (take end (take m.owned owned))) slot (formal_in l slot)) formals
    ∙ ap (λ (l : List Owned). holder_in (drop x.owned l) slot (formal_in (own_formals x fs) slot)) (take_less owned end m.owned (omega (arith, within, long)))))

pub content_is : (code : Code) (e : Engine) (k : List T.Frame) (ops : List Word) (w : World) (n slot i : ℕ) (x : Master) → Holds code (kept e) k ops w → slice_get e.masters.items i ≡ Some x → n ≡ x.number → slot < x.slots
    → (slot_at n slot w).content ≡ holder_in (drop x.owned (take (own_end (slice_get e.masters.items (i + 1)) (length e.owned.items)) e.owned.items)) slot (formal_in (own_formals x e.formals.items) slot)
unfolding opened_changes
content_is code e k ops w n slot i x h found number less =
    ap (λ j. (slot_in j slot w.activations).content) number
    ∙ content_there (reverse e.masters.items) w.activations w.ledger.masters e.owned.items e.formals.items (e.given_masters + 1) x _ slot h.masters h.below h.held (ends_own e.masters.items i (length e.owned.items) x found) less
