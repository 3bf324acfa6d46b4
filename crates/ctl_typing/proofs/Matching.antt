-- Actuals beside formals: where the one or the other end, nothing more is judged.
use Rattle.std.proofs.Common.{◌≡◌, refl, ap, ◌∙◌, ℕ, ◌≤◌, List, [], ◌∷◌, map, length, drop, Option}
use Rattle.std.proofs.Math.ListN.{drop_of_length-le}
use Rattle.ctl_typing.specs.Judgement.{Judging, each}
use Rattle.ctl_typing.specs.Typing.{matched}

matched_none : {A B : Type 0} (as' : List A) → matched {A = A} {B = B} as' [] ≡ []
matched_none [] = refl
matched_none (a ∷ as') = refl

pub no_more : {S A B C X : Type 0} (f : A × B → Judging S C) (g : X → B) (so_far : Option (List C)) (formals : List A) (xs : List X) (i : ℕ) (n : S) → length xs ≤ i → each f so_far (matched (drop i formals) (map g (drop i xs))) n ≡ (so_far, n)
no_more f g so_far formals xs i n past = ap (λ ys. each f so_far (matched (drop i formals) (map g ys)) n) (drop_of_length-le xs past) ∙ ap (λ ps. each f so_far ps n) (matched_none (drop i formals))

pub no_more_formals : {S A B C X : Type 0} (f : A × B → Judging S C) (g : X → B) (so_far : Option (List C)) (formals : List A) (xs : List X) (i : ℕ) (n : S) → length formals ≤ i → each f so_far (matched (drop i formals) (map g (drop i xs))) n ≡ (so_far, n)
no_more_formals f g so_far formals xs i n past = ap (λ ys. each f so_far (matched ys (map g (drop i xs))) n) (drop_of_length-le formals past)
