-- The walk over the objects of a master, from the newest on, to the one that was declared in a slot.
use Rattle.std.proofs.Common.{◌≡◌, ◌≢◌, ℕ, zero, suc, ◌-◌, ◌<◌, ◌≤◌, List, [], ◌∷◌, ◌++◌, Option, Some, None, length, refl, sym, ap, ◌∙◌, arith, drop, take, Bool, true, false}
use Rattle.std.specs.Prelude.{slice_get, slice_index_or, nat_eq, if◌then◌else◌}
use Rattle.std.proofs.lemmas.Option.{slice_get_within}
use Rattle.ctl_meaning.specs.World as W
use Rattle.ctl_meaning.specs.World.{Content}
use Rattle.ctl_frames.specs.declared.frame.Formal.{Formal}
use Rattle.ctl_frames.specs.declared.frame.Owned.{Owned}
use Rattle.ctl_code.specs.States.{Cells, Located}
use Rattle.ctl_code.specs.Table.{word_of}
use Rattle.ctl_frames.specs.Holders.{binding, content_of, content_of_formal, holder_in, formal_in, word_of_formal}
use Rattle.ctl_frames.proofs.Lists.{length_taken, eq_same, eq_differs, get_index}
use Rattle.ctl_engine.proofs.Held.{holder_more, bound_more}
use Rattle.ctl_engine.proofs.Created.{drop_more}

pub take_last : {X : Type 0} (os : List X) (i : ℕ) (o : X) → slice_get os i ≡ Some o → take (suc i) os ≡ take i os ++ o ∷ []
take_last [] i o e = absurd (cc)
take_last {X} (p ∷ os) zero o e = ap (λ (z : X). z ∷ []) (ap (λ (y : Option X). item_of y) e)
  where
    item_of : Option X → X
    item_of None = p
    item_of (Some y) = y
take_last {X} (p ∷ os) (suc i) o e = ap (λ (l : List X). p ∷ l) (take_last os i o e)

-- one object further down
holder_walk : (os : List Owned) (start at slot : ℕ) (o : Owned) (c : Content) → start ≤ at → slice_get os at ≡ Some o → holder_in (drop start (take (suc at) os)) slot c ≡ (if nat_eq o.slot slot then content_of o else holder_in (drop start (take at os)) slot c)
holder_walk os start at slot o c less found =
    let within = slice_get_within os at o found in
    let long : length (take at os) ≡ at = length_taken at os (omega (arith, within)) in
    ap (λ (l : List Owned). holder_in (drop start l) slot c) (take_last os at o found)
    ∙ (ap (λ (l : List Owned). holder_in l slot c) (drop_more (take at os) start o (omega (arith, less, long)))
    ∙ holder_more (drop start (take at os)) o slot c)

-- the newest of them was declared in the slot, or was not
pub holder_found : (os : List Owned) (start at slot : ℕ) (d : Owned) (c : Content) → start < at → at ≤ length os → (slice_index_or os (at - 1) d).slot ≡ slot → holder_in (drop start (take at os)) slot c ≡ content_of (slice_index_or os (at - 1) d)
holder_found os start at slot d c some within same =
    let o = slice_index_or os (at - 1) d in
    let last : suc (at - 1) ≡ at = omega (arith, some) in
    ap (λ n. holder_in (drop start (take n os)) slot c) (sym last)
    ∙ (holder_walk os start (at - 1) slot o c (omega (arith, some)) (get_index os (at - 1) d (omega (arith, some, within)))
    ∙ ap (λ b. if b then content_of o else holder_in (drop start (take (at - 1) os)) slot c) (eq_same o.slot slot same))

pub holder_passed : (os : List Owned) (start at slot : ℕ) (d : Owned) (c : Content) → start < at → at ≤ length os → (slice_index_or os (at - 1) d).slot ≢ slot → holder_in (drop start (take (at - 1) os)) slot c ≡ holder_in (drop start (take at os)) slot c
holder_passed os start at slot d c some within differs =
    let o = slice_index_or os (at - 1) d in
    let last : suc (at - 1) ≡ at = omega (arith, some) in
    sym (ap (λ n. holder_in (drop start (take n os)) slot c) (sym last)
    ∙ (holder_walk os start (at - 1) slot o c (omega (arith, some)) (get_index os (at - 1) d (omega (arith, some, within)))
    ∙ ap (λ b. if b then content_of o else holder_in (drop start (take (at - 1) os)) slot c) (eq_differs o.slot slot differs)))

-- Formals ------------------------------------------------------------------------------------------------

-- one formal further down
formal_walk : (fs : List Formal) (start at slot : ℕ) (f : Formal) → start ≤ at → slice_get fs at ≡ Some f → formal_in (drop start (take (suc at) fs)) slot ≡ (if nat_eq f.slot slot then content_of_formal f else formal_in (drop start (take at fs)) slot)
formal_walk fs start at slot f less found =
    let within = slice_get_within fs at f found in
    let long : length (take at fs) ≡ at = length_taken at fs (omega (arith, within)) in
    ap (λ (l : List Formal). formal_in (drop start l) slot) (take_last fs at f found)
    ∙ (ap (λ (l : List Formal). formal_in l slot) (drop_more (take at fs) start f (omega (arith, less, long)))
    ∙ bound_more (drop start (take at fs)) f slot W.Nothing)

-- what a formal stands for is what its slot holds
pub formal_word : (f : Formal) → Some (word_of_formal f) ≡ word_of (content_of_formal f)
formal_word f = by f.is_value
  where
    by : (b : Bool) → Some (if b then Cells f.spot.path else Located f.spot) ≡ word_of (if b then W.Copies f.spot.path else binding f.spot)
    by true = refl
    by false = refl

-- the newest of them has the slot, or has not
pub formal_found : (fs : List Formal) (start at slot : ℕ) (f : Formal) → start < at → slice_get fs (at - 1) ≡ Some f → f.slot ≡ slot → formal_in (drop start (take at fs)) slot ≡ content_of_formal f
formal_found fs start at slot f some found same =
    let last : suc (at - 1) ≡ at = omega (arith, some) in
    ap (λ n. formal_in (drop start (take n fs)) slot) (sym last)
    ∙ (formal_walk fs start (at - 1) slot f (omega (arith, some)) found
    ∙ ap (λ b. if b then content_of_formal f else formal_in (drop start (take (at - 1) fs)) slot) (eq_same f.slot slot same))

pub formal_passed : (fs : List Formal) (start at slot : ℕ) (f : Formal) → start < at → slice_get fs (at - 1) ≡ Some f → f.slot ≢ slot → formal_in (drop start (take (at - 1) fs)) slot ≡ formal_in (drop start (take at fs)) slot
formal_passed fs start at slot f some found differs =
    let last : suc (at - 1) ≡ at = omega (arith, some) in
    sym (ap (λ n. formal_in (drop start (take n fs)) slot) (sym last)
    ∙ (formal_walk fs start (at - 1) slot f (omega (arith, some)) found
    ∙ ap (λ b. if b then content_of_formal f else formal_in (drop start (take (at - 1) fs)) slot) (eq_differs f.slot slot differs)))

-- nothing is left where the walk ends
pub none_taken : (os : List Owned) (at start : ℕ) → at ≤ start → drop start (take at os) ≡ []
none_taken os zero zero less = refl
none_taken os zero (suc start) less = refl
none_taken os (suc at) zero less = absurd (omega (arith, less))
none_taken [] (suc at) (suc start) less = refl
none_taken (o ∷ os) (suc at) (suc start) less = none_taken os at start (omega (arith, less))
