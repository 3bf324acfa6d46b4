-- What is known after two stages, and then after a third.
use Rattle.std.proofs.Common.{◌≡◌, ap, ◌∙◌, Option, Some, None, Result, Ok, Err}
use Rattle.ctl_typing.specs.Judgement.{Judging, with_known, ◌>>=◌, onward, paired, beside, both, following, then_beside, Judges}

-- what a judgement gives is what another gives from a later state
pub judged_as : {S A E : Type 0} (j k : Judging S A) (old mid new : S) (r : Result (Option A) E) → j old ≡ k mid → Judges k mid r new → Judges j old r new
judged_as j k old mid new (Ok a) same judged = same ∙ judged
judged_as j k old mid new (Err e) same judged = tt

-- one part is judged, and then what stands behind it
pub onward_is : {S A B : Type 0} (p : Judging S A) (g : A → Judging S B) (n m : S) (a : Option A) → p n ≡ (a, m) → (p >>= g) n ≡ onward a g m
onward_is p g n m a first = ap (with_known g) first

-- two parts
pub both_are : {S A B : Type 0} (p : Judging S A) (q : Judging S B) (n m k : S) (a : Option A) (b : Option B) (r : Option (A × B)) → p n ≡ (a, m) → q m ≡ (b, k) → paired a (b, k) ≡ (r, k) → both p q n ≡ (r, k)
both_are p q n m k a b r first second pair = ap (beside q) first ∙ ap (paired a) second ∙ pair

-- two parts, of which the second is judged as it is paired with the first
pub both_judged : {S A B : Type 0} (p : Judging S A) (q : Judging S B) (n m k : S) (a : Option A) (r : Option (A × B)) → p n ≡ (a, m) → beside q (a, m) ≡ (r, k) → both p q n ≡ (r, k)
both_judged p q n m k a r first second = ap (beside q) first ∙ second

-- the same where the second turns on the first
pub following_judged : {S A B : Type 0} (p : Judging S A) (f : Option A → Judging S B) (n m k : S) (a : Option A) (r : Option (A × B)) → p n ≡ (a, m) → beside (f a) (a, m) ≡ (r, k) → following p f n ≡ (r, k)
following_judged p f n m k a r first second = ap (then_beside f) first ∙ second

-- the other way round
pub swapped_is : {S A B C : Type 0} (f : A × B → Judging S C) (p : Option (B × A)) (r : Option (A × B)) (n : S) → onward p (λ q s. (Some (q.1, q.0), s)) n ≡ (r, n) → onward p (λ q. f (q.1, q.0)) n ≡ onward r f n
swapped_is f None r n is = ap (with_known f) is
swapped_is f (Some q) r n is = ap (with_known f) is
