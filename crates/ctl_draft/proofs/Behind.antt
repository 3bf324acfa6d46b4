-- The element of a list at an index, and those behind it.
use Rattle.std.proofs.Common.{◌≡◌, sym, ap, ◌∙◌, ℕ, ◌+◌, ◌<◌, List, ◌∷◌, length, get_or, drop}
use Rattle.std.proofs.lemmas.List.{at_drop_more}

-- the element at an index, and those behind it
pub next_of : {A : Type 0} (all : List A) (i : ℕ) (x : A) → i < length all → x ≡ get_or all i x → drop i all ≡ x ∷ drop (i + 1) all
next_of all i x lt at = at_drop_more (λ xs. xs) all i x lt ∙ ap (λ y. y ∷ drop (i + 1) all) (sym at)
