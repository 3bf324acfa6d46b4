-- What holds of whatever judgements give that are put together.
use Rattle.std.proofs.Common.{◌≡◌, refl, sym, ap, subst, List, [], ◌∷◌, ◌++◌, map, Option, Some, None, Bool, true, false, if◌then◌else◌}
use Rattle.std.proofs.lemmas.List.{append-nil}
use Rattle.ctl_typing.specs.Judgement.{Judging, Judgement, with_known, ◌>>=◌, paired, beside, both, then_beside, following, then_by, followed_by, appended, each, each_on}
use Rattle.ctl_sound.specs.Known.{IfSome, Gives, All}

pub next : {S A B : Type 0} (Q : A → Type 0) (R : B → Type 0) (p : Judging S A) (f : A → Judging S B) → Gives Q p → ((a : A) → Q a → Gives R (f a)) → Gives R (p >>= f)
next Q R p f h k s = onward (p s) (h s)
  where
    onward : (r : Option _ × _) → IfSome Q r.0 → IfSome R (with_known f r).0
    onward (None, s) h = tt
    onward (Some a, s) h = k a h s

pub weaker : {S A : Type 0} (Q R : A → Type 0) (p : Judging S A) → Gives Q p → ((a : A) → Q a → R a) → Gives R p
weaker Q R p h k s = onward (p s).0 (h s)
  where
    onward : (r : Option _) → IfSome Q r → IfSome R r
    onward None h = tt
    onward (Some a) h = k a h

-- where a test fails nothing is known
pub tested : {A : Type 0} (Q : A → Type 0) (b : Bool) (p q : Judgement A) → (b ≡ true → Gives Q p) → Gives Q q → Gives Q (if b then p else q)
tested Q true p q h k = h refl
tested Q false p q h k = k

some_gives : {S A B : Type 0} (Q : A → Type 0) (R : B → Type 0) (a : A) (r : Option B × S) → Q a → IfSome R r.0 → IfSome (λ (y : A × B). Q y.0 × R y.1) (paired (Some a) r).0
some_gives Q R a (None, s) h i = tt
some_gives Q R a (Some b, s) h i = (h, i)

absent_gives : {S A B : Type 0} (Q : A × B → Type 0) (r : Option B × S) → IfSome Q (paired None r).0
absent_gives Q (b, s) = tt

pub both_give : {S A B : Type 0} (Q : A → Type 0) (R : B → Type 0) (p : Judging S A) (q : Judging S B) → Gives Q p → Gives R q → Gives (λ (y : A × B). Q y.0 × R y.1) (both p q)
both_give Q R p q h k s = onward (p s) (h s)
  where
    onward : (r : Option _ × _) → IfSome Q r.0 → IfSome (λ y. Q y.0 × R y.1) (beside q r).0
    onward (None, s) h = absent_gives (λ y. Q y.0 × R y.1) (q s)
    onward (Some a, s) h = some_gives Q R a (q s) h (k s)

then_gives : {S A B : Type 0} (Q : A → Type 0) (R : A → B → Type 0) (a : A) (r : Option B × S) → Q a → IfSome (R a) r.0 → IfSome (λ (y : A × B). Q y.0 × R y.0 y.1) (paired (Some a) r).0
then_gives Q R a (None, s) h i = tt
then_gives Q R a (Some b, s) h i = (h, i)

pub following_give : {S A B : Type 0} (Q : A → Type 0) (R : A → B → Type 0) (p : Judging S A) (f : Option A → Judging S B) → Gives Q p → ((a : A) → Q a → Gives (R a) (f (Some a))) → Gives (λ (y : A × B). Q y.0 × R y.0 y.1) (following p f)
following_give Q R p f h k s = onward (p s) (h s)
  where
    onward : (r : Option _ × _) → IfSome Q r.0 → IfSome (λ y. Q y.0 × R y.0 y.1) (then_beside f r).0
    onward (None, s) h = absent_gives (λ y. Q y.0 × R y.0 y.1) (f None s)
    onward (Some a, s) h = then_gives Q R a (f (Some a) s) h (k a h s)

-- the second alone counts, whether the first is known or not
pub followed_gives : {S A B : Type 0} (Q : A → Type 0) (R : B → Type 0) (p : Judging S A) (f : Option A → Judging S B) → Gives Q p → ((a : A) → Q a → Gives R (f (Some a))) → Gives R (f None) → Gives R (followed_by p f)
followed_gives Q R p f h k l s = onward (p s) (h s)
  where
    onward : (r : Option _ × _) → IfSome Q r.0 → IfSome R (then_by f r).0
    onward (None, s) h = l s
    onward (Some a, s) h = k a h s

nothing_asked : {A : Type 0} (o : Option A) → IfSome (λ (a : A). Unit {0}) o
nothing_asked None = tt
nothing_asked (Some a) = tt

-- of what is known nothing need be known
pub any_gives : {S A : Type 0} (p : Judging S A) → Gives (λ a. Unit {0}) p
any_gives p s = nothing_asked (p s).0

each_on_turn : {S A B : Type 0} (f : A → Judging S B) (done : Option (List B)) (r : Option B × S) (xs : List A) → each_on f done r xs ≡ each f (appended done r.0) xs r.1
each_on_turn f so_far (b, s) [] = refl
each_on_turn f so_far (b, s) (x ∷ xs) = refl

pub joined : {A : Type 0} (xs : List A) (x : A) (ys : List A) → (xs ++ x ∷ []) ++ ys ≡ xs ++ x ∷ ys
joined [] x ys = refl
joined (y ∷ xs) x ys = ap (λ zs. y ∷ zs) (joined xs x ys)

-- each of a row is judged: P holds of those so far and of what was made of them
pub each_gives : {S A B : Type 0} (P : List A → List B → Type 0) (R : A → B → Type 0) (f : A → Judging S B) → ((as' : List A) (bs : List B) (a : A) (b : B) → P as' bs → R a b → P (as' ++ a ∷ []) (bs ++ b ∷ [])) →
    (before : List A) (so_far : Option (List B)) (xs : List A) (s : S) → IfSome (P before) so_far → All (λ x. Gives (R x) (f x)) xs → IfSome (P (before ++ xs)) (each f so_far xs s).0
each_gives P R f more before so_far [] s h k = subst (λ xs. IfSome (P xs) so_far) (sym (append-nil before)) h
each_gives P R f more before so_far (x ∷ xs) s h k =
    subst (λ r. IfSome (P (before ++ x ∷ xs)) r.0) (sym (each_on_turn f so_far (f x s) xs))
    (subst (λ all. IfSome (P all) (each f (appended so_far (f x s).0) xs (f x s).1).0) (joined before x xs)
    (each_gives P R f more (before ++ x ∷ []) (appended so_far (f x s).0) xs (f x s).1 (one so_far (f x s).0 h (k.0 s)) k.1))
  where
    one : (d : Option (List _)) (b : Option _) → IfSome (P before) d → IfSome (R x) b → IfSome (P (before ++ x ∷ [])) (appended d b)
    one None b h i = tt
    one (Some ys) None h i = tt
    one (Some ys) (Some b) h i = more before ys x b h i

pub each_of_all : {T A : Type 0} (f : T → A) (P : A → Type 0) → ((x : T) → P (f x)) → (xs : List T) → All P (map f xs)
each_of_all f P h [] = tt
each_of_all f P h (x ∷ xs) = (h x, each_of_all f P h xs)

-- children, each with what is proved of it
pub all_too : {T A : Type 0} (f : T → A) (P : A → Type 0) (xs : List ((x : T) × P (f x))) → All P (map f (map (λ x. x.0) xs))
all_too f P [] = tt
all_too f P (x ∷ xs) = (x.1, all_too f P xs)
