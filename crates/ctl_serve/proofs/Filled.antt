-- A buffer that is filled part by part.
use Rattle.std.proofs.Common.{◌≡◌, ◌∙◌, ℕ, ◌+◌, ◌≤◌, List, ◌++◌, Option, length, take, ap, subst, sym}
use Rattle.std.specs.Io.KnownBytes.{Consumes}
use Rattle.std.proofs.KnownBytes.{Consumes-trans}
use Rattle.std.proofs.lemmas.List.{length-take-le, take-append-le}
use Rattle.std.proofs.Math.Seq.{take-append-add}

-- the first a elements of a list, and the first n of what follows them
take-filled : (a n : ℕ) (xs ys rest : List ℕ) → a ≤ length xs → n ≤ length ys → take (a + n) (take a xs ++ (ys ++ rest)) ≡ take a xs ++ take n ys
take-filled a n xs ys rest in_xs in_ys =
    subst (λ k. take (k + n) (take a xs ++ (ys ++ rest)) ≡ take a xs ++ take n ys) (length-take-le a xs in_xs)
    (take-append-add (take a xs) (ys ++ rest) n ∙ ap (λ l. take a xs ++ l) (take-append-le n ys rest in_ys))

-- a reader gave the first a elements, and then n more, which stand behind them
pub Consumes-filled : (old mid new : Option (List ℕ)) (a n : ℕ) (xs ys rest : List ℕ) → a ≤ length xs → n ≤ length ys
    → Consumes old mid (take a xs) → Consumes mid new (take n ys) → Consumes old new (take (a + n) (take a xs ++ (ys ++ rest)))
Consumes-filled old mid new a n xs ys rest in_xs in_ys first then =
    subst (Consumes old new) (sym (take-filled a n xs ys rest in_xs in_ys)) (Consumes-trans old mid new _ _ first then)
