-- One more of a row that is judged.
use Rattle.std.proofs.Common.{◌≡◌, refl, sym, ap, ◌∙◌, ℕ, ◌+◌, ◌<◌, List, [], ◌∷◌, length, drop, get_or, Option, Some, Result, Ok, Err}
use Rattle.std.specs.Prelude.{IfOk}
use Rattle.std.proofs.lemmas.List.{at_drop_more}
use Rattle.ctl_typing.specs.Judgement.{Judging, Judges, each, each_on, appended, onward, with_known}

pub each_turn : {S A B : Type 0} (f : A → Judging S B) (before : Option (List B)) (b : Option B) (s : S) (xs : List A) → each_on f before (b, s) xs ≡ each f (appended before b) xs s
each_turn f before b s [] = refl
each_turn f before b s (x ∷ xs) = refl

-- one is judged, and then those behind it
pub each_walked : {S A B : Type 0} (f : A → Judging S B) (before after : Option (List B)) (b : Option B) (x : A) (xs : List A) (s t : S) → f x s ≡ (b, t) → after ≡ appended before b → each f after xs t ≡ each f before (x ∷ xs) s
each_walked f before after b x xs s t judged more = ap (λ a. each f a xs t) more ∙ sym (each_turn f before b t xs) ∙ sym (ap (λ r. each_on f before r xs) judged)

onto_walked : {S A B : Type 0} (f : A → Judging S B) (before after : Option (List B)) (r : Option B × S) (xs : List A) (t : S) → each_on (λ (q : Judging S B). q) before r [] ≡ (after, t) → each f after xs t ≡ each_on f before r xs
onto_walked f before after (b, s) xs t added = ap (λ p. each f p.0 xs p.1) (sym added) ∙ sym (each_turn f before b s xs)

-- one is judged as it is put behind those before, and then those behind it
pub each_added : {S A B : Type 0} (f : A → Judging S B) (before after : Option (List B)) (x : A) (xs : List A) (s t : S) → each (λ (q : Judging S B). q) before (f x ∷ []) s ≡ (after, t) → each f after xs t ≡ each f before (x ∷ xs) s
each_added f before after x xs s t added = onto_walked f before after (f x s) xs t added

-- the first of a row is judged as it is put, and then those behind it
pub first_added : {S A B : Type 0} (f : A → Judging S B) (none : List B) (after : Option (List B)) (x : A) (xs : List A) (s t : S) → none ≡ [] → each (λ (q : Judging S B). q) (Some none) (f x ∷ []) s ≡ (after, t) → each f (Some []) (x ∷ xs) s ≡ each f after xs t
first_added f none after x xs s t is added = ap (λ n. each f (Some n) (x ∷ xs) s) (sym is) ∙ sym (each_added f (Some none) after x xs s t added)

put_on : {S B : Type 0} (before : Option (List B)) (b : Option B) (p : Option B × S) (t : S) (all : Option (List B)) → p ≡ (b, t) → all ≡ appended before b → each_on (λ (j : Judging S B). j) before p [] ≡ (all, t)
put_on before b p t all judged is = rw (judged, is) refl

-- what is made of one that is judged is put behind those before
pub put_behind : {S A B E : Type 0} (q : Judging S A) (g : A → Judging S B) (before : Option (List B)) (a : Option A) (b : Option B) (r : Result (Option (List B)) E) (s t : S)
    → q s ≡ (a, t) → onward a g t ≡ (b, t) → IfOk r (λ all. all ≡ appended before b) → Judges (each (λ (j : Judging S B). j) before ((λ n. with_known g (q n)) ∷ [])) s r t
put_behind q g before a b (Ok all) s t judged made is = put_on before b (with_known g (q s)) t all (ap (with_known g) judged ∙ made) is
put_behind q g before a b (Err e) s t judged made is = tt

-- the element at an index, and those behind it
pub next_of : {A : Type 0} (all : List A) (i : ℕ) (x : A) → i < length all → x ≡ get_or all i x → drop i all ≡ x ∷ drop (i + 1) all
next_of all i x lt at = at_drop_more (λ xs. xs) all i x lt ∙ ap (λ y. y ∷ drop (i + 1) all) (sym at)
