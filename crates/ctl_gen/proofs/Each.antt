-- What is true of each item of a list; and what is found in it, where items are changed or others are left out.
use Rattle.std.proofs.Common.{◌≡◌, ℕ, zero, suc, List, [], ◌∷◌, ◌++◌, Option, Some, None, Bool, true, false, refl, sym, ap, ◌∙◌}
use Rattle.std.specs.Prelude.{if◌then◌else◌, not, slice_get, slice_set}
use Rattle.ctl_meaning.specs.Lists.{first_with, change_each, change_first, keep, item_or, opened_lists}

abbrev pub Each : {A : Type 0} → (A → Type 0) → List A → Type 0
Each P [] = Unit {0}
Each P (x ∷ xs) = P x × Each P xs

abbrev pub IfFound : {A : Type 0} → (A → Type 0) → Option A → Type 0
IfFound P None = Unit {0}
IfFound P (Some x) = P x

pub each_found : {A : Type 0} (P : A → Type 0) (p : A → Bool) (xs : List A) → Each P xs → IfFound P (first_with p xs)
unfolding first_with
each_found P p [] h = tt
each_found P p (x ∷ xs) h = one (p x) (each_found P p xs h.1)
  where
    one : (b : Bool) → IfFound P (first_with p xs) → IfFound P (if b then Some x else first_with p xs)
    one true rest = h.0
    one false rest = rest

pub each_and : {A : Type 0} (P : A → Type 0) (xs : List A) (x : A) → P x → Each P xs → Each P (xs ++ x ∷ [])
each_and P [] x known h = (known, tt)
each_and P (y ∷ xs) x known h = (h.0, each_and P xs x known h.1)

pub each_changed : {A : Type 0} (P : A → Type 0) (p : A → Bool) (f : A → A) → ((x : A) → p x ≡ true → P x → P (f x)) → (xs : List A) → Each P xs → Each P (change_each p f xs)
unfolding change_each
each_changed P p f same [] h = tt
each_changed P p f same (x ∷ xs) h = (one (p x) refl, each_changed P p f same xs h.1)
  where
    one : (b : Bool) → p x ≡ b → P (if b then f x else x)
    one true e = same x e h.0
    one false e = h.0

pub each_changed_first : {A : Type 0} (P : A → Type 0) (p : A → Bool) (f : A → A) → ((x : A) → P x → P (f x)) → (xs : List A) → Each P xs → Each P (change_first p f xs)
unfolding change_first
each_changed_first P p f same [] h = tt
each_changed_first P p f same (x ∷ xs) h = one (p x) (each_changed_first P p f same xs h.1)
  where
    one : (b : Bool) → Each P (change_first p f xs) → Each P (if b then f x ∷ xs else x ∷ change_first p f xs)
    one true rest = (same x h.0, h.1)
    one false rest = (h.0, rest)

-- of those that are kept something else may be true
pub each_kept : {A : Type 0} (P Q : A → Type 0) (p : A → Bool) → ((x : A) → p x ≡ true → P x → Q x) → (xs : List A) → Each P xs → Each Q (keep p xs)
unfolding keep
each_kept P Q p f [] h = tt
each_kept P Q p f (x ∷ xs) h = one (p x) refl (each_kept P Q p f xs h.1)
  where
    one : (b : Bool) → p x ≡ b → Each Q (keep p xs) → Each Q (if b then x ∷ keep p xs else keep p xs)
    one true e rest = (f x e h.0, rest)
    one false e rest = rest

pub not_true : (b : Bool) → not b ≡ true → b ≡ false
not_true true e = absurd (cc e)
not_true false e = refl

-- what is found passes the test
pub found_passes : {A : Type 0} (p : A → Bool) (xs : List A) (x : A) → first_with p xs ≡ Some x → p x ≡ true
unfolding first_with
found_passes p [] x e = absurd (cc e)
found_passes p (y ∷ ys) x e = by (p y) refl (found_passes p ys x) e
  where
    by : (b : Bool) → p y ≡ b → (first_with p ys ≡ Some x → p x ≡ true) → (if b then Some y else first_with p ys) ≡ Some x → p x ≡ true
    by true is rest e1 = let same : y ≡ x = cc e1 in ap p (sym same) ∙ is
    by false is rest e1 = rest e1

-- what is found among all is found among those that are kept, if it is kept
pub found_kept : {A : Type 0} (p q : A → Bool) (xs : List A) (x : A) → first_with p xs ≡ Some x → q x ≡ true → first_with p (keep q xs) ≡ Some x
unfolding opened_lists
found_kept p q [] x is good = absurd (cc is)
found_kept p q (y ∷ ys) x is good = one (p y) (q y) refl refl (found_kept p q ys x) is
  where
    one : (b c : Bool) → p y ≡ b → q y ≡ c → (first_with p ys ≡ Some x → q x ≡ true → first_with p (keep q ys) ≡ Some x) → (if b then Some y else first_with p ys) ≡ Some x → first_with p (if c then y ∷ keep q ys else keep q ys) ≡ Some x
    one true true is1 is2 rest e = ap (λ d. if d then Some y else first_with p (keep q ys)) is1 ∙ e
    one true false is1 is2 rest e = absurd (let same : y ≡ x = cc e in cc (sym is2 ∙ (ap q same ∙ good)))
    one false true is1 is2 rest e = ap (λ d. if d then Some y else first_with p (keep q ys)) is1 ∙ rest e good
    one false false is1 is2 rest e = rest e good

-- and among those that are changed, as it is changed
pub found_changed : {A : Type 0} (p q : A → Bool) (f : A → A) → ((x : A) → p (f x) ≡ p x) → (xs : List A) (x : A) → first_with p xs ≡ Some x → first_with p (change_each q f xs) ≡ Some (if q x then f x else x)
unfolding opened_lists
found_changed p q f alike [] x is = absurd (cc is)
found_changed p q f alike (y ∷ ys) x is = one (p y) refl (found_changed p q f alike ys x) is
  where
    tested : (c : Bool) → p (if c then f y else y) ≡ p y
    tested true = alike y
    tested false = refl

    one : (b : Bool) → p y ≡ b → (first_with p ys ≡ Some x → first_with p (change_each q f ys) ≡ Some (if q x then f x else x)) → (if b then Some y else first_with p ys) ≡ Some x → (if p (if q y then f y else y) then Some (if q y then f y else y) else first_with p (change_each q f ys)) ≡ Some (if q x then f x else x)
    one true is1 rest e = ap (λ d. if d then Some (if q y then f y else y) else first_with p (change_each q f ys)) (tested (q y) ∙ is1) ∙ ap (λ z. Some (if q z then f z else z)) (cc e)
    one false is1 rest e = ap (λ d. if d then Some (if q y then f y else y) else first_with p (change_each q f ys)) (tested (q y) ∙ is1) ∙ rest e

-- where one is put at a place
pub each_set : {A : Type 0} (P : A → Type 0) (xs : List A) (i : ℕ) (x : A) → P x → Each P xs → Each P (slice_set xs i x)
each_set P [] i x known h = tt
each_set P (y ∷ xs) zero x known h = (known, h.1)
each_set P (y ∷ xs) (suc i) x known h = (h.0, each_set P xs i x known h.1)

-- what stands at a place, or else the first
pub each_get : {A : Type 0} (P : A → Type 0) (d : A) (xs : List A) (i : ℕ) → P d → Each P xs → P (item_or d (slice_get xs i))
unfolding item_or
each_get P d [] i known h = known
each_get P d (x ∷ xs) zero known h = h.0
each_get P d (x ∷ xs) (suc i) known h = each_get P d xs i known h.1

-- what follows from what is true of each
pub each_all : {A : Type 0} (P Q : A → Type 0) → ((x : A) → P x → Q x) → (xs : List A) → Each P xs → Each Q xs
each_all P Q f [] h = tt
each_all P Q f (x ∷ xs) h = (f x h.0, each_all P Q f xs h.1)
