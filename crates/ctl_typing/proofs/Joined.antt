-- Lists that are judged and then put together, or put behind one another one by one.
use Rattle.std.proofs.Common.{◌≡◌, refl, sym, ap, ◌∙◌, List, [], ◌∷◌, ◌++◌, Option, Some, None, option_map}
use Rattle.std.proofs.lemmas.List.{append-nil, append_assoc}
use Rattle.ctl_typing.specs.Judgement.{Judging, known, with_known, ◌>>=◌, paired, beside, both, appended, each, each_on}
use Rattle.ctl_typing.specs.Putting.{lengthened, strung, strung_on}
use Rattle.ctl_typing.specs.Typing.{together}

strung_turn : {S A B : Type 0} (f : A → Judging S (List B)) (before b : Option (List B)) (s : S) (xs : List A) → strung_on f before (b, s) xs ≡ strung f (lengthened before b) xs s
strung_turn f before b s [] = refl
strung_turn f before b s (x ∷ xs) = refl

onto_strung : {S A B : Type 0} (f : A → Judging S (List B)) (before after : Option (List B)) (r : Option (List B) × S) (xs : List A) (t : S) → strung_on (λ (q : Judging S (List B)). q) before r [] ≡ (after, t) → strung f after xs t ≡ strung_on f before r xs
onto_strung f before after (b, s) xs t added = ap (λ p. strung f p.0 xs p.1) (sym added) ∙ sym (strung_turn f before b s xs)

-- one is judged as it is put behind those before, and then those behind it
pub strung_added : {S A B : Type 0} (f : A → Judging S (List B)) (before after : Option (List B)) (x : A) (xs : List A) (s t : S) → strung (λ (q : Judging S (List B)). q) before (f x ∷ []) s ≡ (after, t) → strung f after xs t ≡ strung f before (x ∷ xs) s
strung_added f before after x xs s t added = onto_strung f before after (f x s) xs t added

together_more : {A : Type 0} (xs : List (List A)) (x : List A) → together (xs ++ x ∷ []) ≡ together xs ++ x
together_more [] x = append-nil x
together_more (y ∷ ys) x = ap (λ zs. y ++ zs) (together_more ys x) ∙ sym (append_assoc y (together ys) x)

-- all of them behind a first
abbrev flat : {A : Type 0} → Option (List A) → Option (List (List A)) → Option (List A)
flat first before = lengthened first (option_map together before)

abbrev flat_known : {S A : Type 0} → Option (List A) → Option (List (List A)) × S → Option (List A) × S
flat_known first (before, s) = (flat first before, s)

flat_more : {A : Type 0} (first : Option (List A)) (before : Option (List (List A))) (b : Option (List A)) → flat first (appended before b) ≡ lengthened (flat first before) b
flat_more None None b = refl
flat_more None (Some xs) None = refl
flat_more None (Some xs) (Some x) = refl
flat_more (Some a) None b = refl
flat_more (Some a) (Some xs) None = refl
flat_more (Some a) (Some xs) (Some x) = ap (λ zs. Some (a ++ zs)) (together_more xs x) ∙ ap Some (sym (append_assoc a (together xs) x))

flat_none : {A : Type 0} (first : Option (List A)) → flat first (Some []) ≡ first
flat_none None = refl
flat_none (Some a) = ap Some (append-nil a)

each_flat_on : {S A B : Type 0} (f : A → Judging S (List B)) (first : Option (List B)) (before : Option (List (List B))) (q : Option (List B) × S) (xs : List A) → flat_known first (each_on f before q xs) ≡ strung_on f (flat first before) q xs
each_flat_on f first before (b, s) [] = ap (λ d. (d, s)) (flat_more first before b)
each_flat_on f first before (b, s) (x ∷ xs) = each_flat_on f first (appended before b) (f x s) xs ∙ ap (λ d. strung_on f d (f x s) xs) (flat_more first before b)

each_flat : {S A B : Type 0} (f : A → Judging S (List B)) (first : Option (List B)) (before : Option (List (List B))) (xs : List A) (s : S) → flat_known first (each f before xs s) ≡ strung f (flat first before) xs s
each_flat f first before [] s = refl
each_flat f first before (x ∷ xs) s = each_flat_on f first before (f x s) xs

paired_flat : {S A : Type 0} (first : Option (List A)) (q : Option (List (List A)) × S) → with_known (λ r. known (r.0 ++ together r.1)) (paired first q) ≡ flat_known first q
paired_flat None (None, s) = refl
paired_flat None (Some b, s) = refl
paired_flat (Some a) (None, s) = refl
paired_flat (Some a) (Some b, s) = refl

-- a first, and then those behind it one by one
pub joined_is : {S A B : Type 0} (p : Judging S (List B)) (f : A → Judging S (List B)) (xs : List A) (first : Option (List B)) (s t : S) → p s ≡ (first, t) → (both p (each f (Some []) xs) >>= (λ r. known (r.0 ++ together r.1))) s ≡ strung f first xs t
joined_is p f xs first s t judged =
    ap (λ q. with_known (λ r. known (r.0 ++ together r.1)) (beside (each f (Some []) xs) q)) judged
    ∙ paired_flat first (each f (Some []) xs t)
    ∙ each_flat f first (Some []) xs t
    ∙ ap (λ d. strung f d xs t) (flat_none first)
