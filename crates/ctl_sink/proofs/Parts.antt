-- Bytes that are put part by part.
use Rattle.std.proofs.Common.{◌≡◌, ℕ, ◌+◌, ◌-◌, List, ◌++◌, Option, length, take, drop, sym, subst}
use Rattle.std.specs.Io.KnownBytes.{Appends}
use Rattle.std.proofs.KnownBytes.{Appends-trans}
use Rattle.std.proofs.lemmas.List.{take_rest}
use Rattle.std.proofs.Math.Seq.{take-add}

-- the first i elements, and then the first n of the rest
take-then : (xs : List ℕ) (i n : ℕ) → take i xs ++ take n (take (length xs - i) (drop i xs)) ≡ take (i + n) xs
take-then xs i n = rw (take_rest xs i) (sym (take-add i n xs))

-- the first i bytes were appended, and then the first n of the rest
pub Appends-then : (a b c : Option (List ℕ)) (xs : List ℕ) (i n : ℕ) → Appends a b (take i xs)
    → Appends b c (take n (take (length xs - i) (drop i xs))) → Appends a c (take (i + n) xs)
Appends-then a b c xs i n first second = subst (Appends a c) (take-then xs i n) (Appends-trans a b c _ _ first second)
