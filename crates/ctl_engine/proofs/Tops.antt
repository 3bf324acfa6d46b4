-- The newest frame, which is the last of the stack.
use Rattle.std.proofs.Common.{◌≡◌, ℕ, zero, suc, ◌<◌, List, [], ◌∷◌, ◌++◌, length, refl, sym, ap, ◌∙◌, arith, reverse, drop}
use Rattle.std.specs.Prelude.{slice_set}
use Rattle.std.proofs.lemmas.List.{length-reverse, reverse-append}

-- one before the last is written
drop_last : {X : Type 0} (xs : List X) (y : X) → 0 < length xs → drop 1 (xs ++ y ∷ []) ≡ drop 1 xs ++ y ∷ []
drop_last [] y some = absurd (omega (arith, some))
drop_last (x ∷ xs) y some = refl

reverse_more : {X : Type 0} (x : X) (xs : List X) → reverse (x ∷ xs) ≡ reverse xs ++ x ∷ []
reverse_more x xs = reverse-append (x ∷ []) xs

pub top_replaced_at : {X : Type 0} (xs : List X) (i : ℕ) (v : X) → length xs ≡ suc i → reverse (slice_set xs i v) ≡ v ∷ drop 1 (reverse xs)
top_replaced_at [] i v e = absurd (omega (arith, e))
top_replaced_at (x ∷ []) zero v e = refl
top_replaced_at (x ∷ []) (suc i) v e = absurd (omega (arith, e))
top_replaced_at (x ∷ y ∷ xs) zero v e = absurd (omega (arith, e))
top_replaced_at (x ∷ y ∷ xs) (suc i) v e =
    let ih = top_replaced_at (y ∷ xs) i v (omega (arith, e)) in
    let some : 0 < length (reverse (y ∷ xs)) = let l = length-reverse (y ∷ xs) in omega (arith, l) in
    reverse_more x (slice_set (y ∷ xs) i v)
    ∙ (ap (λ l. l ++ x ∷ []) ih
    ∙ ap (λ l. v ∷ l) (sym (drop_last (reverse (y ∷ xs)) x some) ∙ ap (λ l. drop 1 l) (sym (reverse_more x (y ∷ xs)))))
