-- What is judged from two parts, and what stands behind the first actual.
use Rattle.std.proofs.Common.{arith, ◌≡◌, refl, sym, ap, ◌∙◌, true, List, [], ◌∷◌, length, Option, Some, None}
use Rattle.std.proofs.lemmas.Bool.{eqb-true}
use Rattle.std.specs.Bool.{◌==◌}
use Rattle.std.specs.Option.{option_zip}
use Rattle.ctl_typing.specs.Judgement.{Judging, with_known, ◌>>=◌, paired, beside, both, following, then_beside}

-- of which the second is judged as it is paired with the first
pub both_then : {S A B C : Type 0} (p : Judging S A) (q : Judging S B) (f : A × B → Judging S C) (n m k : S) (a : Option A) (r s : Option (A × B)) → p n ≡ (a, m) → beside q (a, m) ≡ (r, k) → r ≡ s → (both p q >>= f) n ≡ with_known f (s, k)
both_then p q f n m k a r s first second is = ap (with_known f) (ap (beside q) first ∙ second ∙ ap (λ o. (o, k)) is)

zipped : {S A B : Type 0} (a : Option A) (b : Option B) (k : S) → paired a (b, k) ≡ (option_zip a b, k)
zipped None b k = refl
zipped (Some a) None k = refl
zipped (Some a) (Some b) k = refl

-- of which each is judged alone
pub zipped_then : {S A B C : Type 0} (p : Judging S A) (q : Judging S B) (f : A × B → Judging S C) (n m k : S) (a : Option A) (b : Option B) (r s : Option (A × B)) → p n ≡ (a, m) → q m ≡ (b, k) → r ≡ option_zip a b → r ≡ s → (both p q >>= f) n ≡ with_known f (s, k)
zipped_then p q f n m k a b r s first second zip is = both_then p q f n m k a r s first (ap (paired a) second ∙ zipped a b k ∙ ap (λ o. (o, k)) (sym zip)) is

-- of which the second is judged by what is known of the first
pub following_then : {S A B C : Type 0} (p : Judging S A) (g : Option A → Judging S B) (f : A × B → Judging S C) (n m k : S) (a : Option A) (b : Option B) → p n ≡ (a, m) → g a m ≡ (b, k) → (following p g >>= f) n ≡ with_known f (paired a (b, k))
following_then p g f n m k a b first second = ap (with_known f) (ap (then_beside g) first ∙ ap (paired a) second)

-- a first actual alone
pub none_more : {A : Type 0} (xs : List A) → (length xs == 0) ≡ true → xs ≡ []
none_more [] h = refl
none_more (x ∷ xs) h = absurd (omega (arith, eqb-true (length (x ∷ xs)) 0 h))
