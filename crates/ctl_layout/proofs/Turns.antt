-- Lists that are gone through item by item.
use Rattle.std.proofs.Common.{◌≡◌, ℕ, ◌+◌, ◌<◌, List, ◌∷◌, length, drop, get_or, sym, ap, ◌∙◌}
use Rattle.std.proofs.lemmas.List.{at_drop_more}

-- a list from a place on is what stands there, and the rest
pub turn_of : {A X : Type 0} (f : List A → X) (all : List A) (i : ℕ) (x : A) → i < length all → x ≡ get_or all i x → f (x ∷ drop (i + 1) all) ≡ f (drop i all)
turn_of f all i x lt at = ap (λ y. f (y ∷ drop (i + 1) all)) at ∙ sym (at_drop_more f all i x lt)
