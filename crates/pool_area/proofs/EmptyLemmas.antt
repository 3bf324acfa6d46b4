-- A subpool whose objects go one after the other.
use Rattle.std.proofs.Common.{◌≡◌, ℕ, zero, suc, ◌+◌, ◌<◌, Bool, true, false, cond, List, [], ◌∷◌, ◌++◌, length, drop, replicate, Option, Some, None, refl, sym, ap, ◌∙◌, arith, add-one}
use Rattle.std.specs.Prelude.{nat_eq, slice_get, slice_set}
use Rattle.std.specs.Option.{option_map_or}
use Rattle.std.proofs.lemmas.List.{append-nil}
use Rattle.pool_area.specs.Lots.{Held}
use Rattle.pool_area.specs.Subpools.{Seen, Subpools, subpool_of, change_subpool, changed_at, change_block, count_of, without_objects, with_no_objects, with_block}

-- the blocks before a place hold nothing
abbrev pub front_emptied : ℕ → List (Option Held) → List (Option Held)
front_emptied i bs = replicate i None ++ drop i bs

abbrev pub emptied_before : ℕ → Seen → Seen
emptied_before i x = record x { blocks = front_emptied i x.blocks }

changed_next : (i : ℕ) (f : Option Held → Option Held) (b : Option Held) (bs : List (Option Held)) → changed_at (suc i) f (b ∷ bs) ≡ b ∷ changed_at i f bs
changed_next i f b bs = by (slice_get bs i)
  where
    by : (o : Option (Option Held)) → option_map_or (λ x. b ∷ slice_set bs i (f x)) o (b ∷ bs) ≡ b ∷ option_map_or (λ x. slice_set bs i (f x)) o bs
    by None = refl
    by (Some x) = refl

one_more : (i : ℕ) (bs : List (Option Held)) → i < length bs → changed_at i (λ h. None) (front_emptied i bs) ≡ front_emptied (suc i) bs
one_more i [] lt = let no : i < 0 = lt in absurd (omega arith)
one_more zero (b ∷ bs) lt = refl
one_more (suc i) (b ∷ bs) lt =
    changed_next i (λ h. None) None (front_emptied i bs) ∙ ap (λ l. None ∷ l) (one_more i bs (let more : suc i < suc (length bs) = lt in omega arith))

all_emptied : (bs : List (Option Held)) → front_emptied (length bs) bs ≡ replicate (length bs) None
all_emptied bs = ap (λ l. replicate (length bs) None ++ l) (none bs) ∙ append-nil (replicate (length bs) None)
  where
    none : (xs : List (Option Held)) → drop (length xs) xs ≡ []
    none [] = refl
    none (x ∷ xs) = none xs

-- Subpools ------------------------------------------------------------------

-- the same change of the subpool that has the number
change_alike : (n : ℕ) (f h : Seen → Seen) (xs : List Seen) → ((x : Seen) → subpool_of n xs ≡ Some x → f x ≡ h x) → change_subpool n f xs ≡ change_subpool n h xs
change_alike n f h [] same = refl
change_alike n f h (x ∷ xs) same = by (nat_eq x.number n) same (λ k. change_alike n f h xs k)
  where
    by : (b : Bool) → ((y : Seen) → cond b (Some x) (subpool_of n xs) ≡ Some y → f y ≡ h y) → (((y : Seen) → subpool_of n xs ≡ Some y → f y ≡ h y) → change_subpool n f xs ≡ change_subpool n h xs)
        → cond b (f x ∷ xs) (x ∷ change_subpool n f xs) ≡ cond b (h x ∷ xs) (x ∷ change_subpool n h xs)
    by true keep more = ap (λ y. y ∷ xs) (keep x refl)
    by false keep more = ap (λ l. x ∷ l) (more keep)

change_none : (n : ℕ) (f : Seen → Seen) (xs : List Seen) → ((x : Seen) → f x ≡ x) → change_subpool n f xs ≡ xs
change_none n f [] same = refl
change_none n f (x ∷ xs) same = by (nat_eq x.number n) (change_none n f xs same)
  where
    by : (b : Bool) → change_subpool n f xs ≡ xs → cond b (f x ∷ xs) (x ∷ change_subpool n f xs) ≡ x ∷ xs
    by true more = ap (λ y. y ∷ xs) (same x)
    by false more = ap (λ l. x ∷ l) more

-- two changes, one after the other
change_twice : (n : ℕ) (f h : Seen → Seen) (xs : List Seen) → ((x : Seen) → (f x).number ≡ x.number) → change_subpool n h (change_subpool n f xs) ≡ change_subpool n (λ x. h (f x)) xs
change_twice n f h [] same = refl
change_twice n f h (x ∷ xs) same = by (nat_eq x.number n) refl (change_twice n f h xs same)
  where
    by : (b : Bool) → nat_eq x.number n ≡ b → change_subpool n h (change_subpool n f xs) ≡ change_subpool n (λ y. h (f y)) xs
        → change_subpool n h (cond b (f x ∷ xs) (x ∷ change_subpool n f xs)) ≡ cond b (h (f x) ∷ xs) (x ∷ change_subpool n (λ y. h (f y)) xs)
    by true e more = ap (λ t. cond t (h (f x) ∷ xs) (f x ∷ change_subpool n h xs)) (ap (λ m. nat_eq m n) (same x) ∙ e)
    by false e more = ap (λ t. cond t (h x ∷ change_subpool n f xs) (x ∷ change_subpool n h (change_subpool n f xs))) e ∙ ap (λ l. x ∷ l) more

abbrev pub emptied_to : ℕ → ℕ → Subpools → Subpools
emptied_to n i p = record p { subpools = change_subpool n (emptied_before i) p.subpools }

pub none_emptied : (n : ℕ) (p : Subpools) → p ≡ emptied_to n 0 p
none_emptied n p = let e = change_none n (emptied_before 0) p.subpools (λ x. refl) in λ i. record { size = p.size; used = p.used; subpools = sym e i; given = p.given }

-- what is counted is the blocks of the subpool that has the number
counted : (n : ℕ) (p : Subpools) (x : Seen) → subpool_of n p.subpools ≡ Some x → count_of n p ≡ length x.blocks
counted n p x e = ap (λ o. option_map_or (λ (y : Seen). length y.blocks) o 0) e

pub one_emptied : (n i : ℕ) (p : Subpools) → i < count_of n p → with_block n i (λ h. None) (emptied_to n i p) ≡ emptied_to n (i + 1) p
one_emptied n i p lt =
    let e : change_subpool n (change_block i (λ h. None)) (change_subpool n (emptied_before i) p.subpools) ≡ change_subpool n (emptied_before (i + 1)) p.subpools =
    change_twice n (emptied_before i) (change_block i (λ h. None)) p.subpools (λ x. refl)
    ∙ change_alike n (λ x. change_block i (λ h. None) (emptied_before i x)) (emptied_before (i + 1)) p.subpools (λ x at.
    let count = counted n p x at in
    let blocks = one_more i x.blocks (omega arith) ∙ ap (λ m. front_emptied m x.blocks) (sym (add-one i)) in
    λ k. record { number = x.number; standing = x.standing; start = x.start; blocks = blocks k }) in
    λ k. record { size = p.size; used = p.used; subpools = e k; given = p.given }

pub each_emptied : (n : ℕ) (p : Subpools) → emptied_to n (count_of n p) p ≡ with_no_objects n p
each_emptied n p =
    let e = change_alike n (emptied_before (count_of n p)) without_objects p.subpools (λ x at.
    let blocks = ap (λ m. front_emptied m x.blocks) (counted n p x at) ∙ all_emptied x.blocks in
    λ k. record { number = x.number; standing = x.standing; start = x.start; blocks = blocks k }) in
    λ k. record { size = p.size; used = p.used; subpools = e k; given = p.given }
