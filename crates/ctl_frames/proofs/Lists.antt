-- Lists that are read and written at a place.
use Rattle.std.proofs.Common.{◌≡◌, ◌≢◌, ℕ, zero, suc, ◌+◌, ◌<◌, ◌≤◌, List, [], ◌∷◌, ◌++◌, Option, Some, None, true, false, length, refl, sym, ap, ◌∙◌, arith, map, take}
use Rattle.std.specs.Prelude.{slice_get, slice_index_or, slice_set, option_map, nat_eq}
use Rattle.std.proofs.lemmas.Bool.Decides.{nat_tests}

pub eq_same : (a b : ℕ) → a ≡ b → nat_eq a b ≡ true
eq_same a b same = grind (arith, nat_tests)

pub eq_differs : (a b : ℕ) → a ≢ b → nat_eq a b ≡ false
eq_differs a b differs = grind (arith, nat_tests)

pub get_left : {X : Type 0} (xs ys : List X) (i : ℕ) (v : X) → slice_get xs i ≡ Some v → slice_get (xs ++ ys) i ≡ Some v
get_left [] ys i v h = absurd (cc)
get_left (x ∷ xs) ys zero v h = h
get_left (x ∷ xs) ys (suc i) v h = get_left xs ys i v h

pub get_right : {X : Type 0} (xs ys : List X) (i j : ℕ) → j ≡ length xs + i → slice_get (xs ++ ys) j ≡ slice_get ys i
get_right [] ys i j e = let f : j ≡ i = omega arith in ap (λ n. slice_get ys n) f
get_right (x ∷ xs) ys i zero e = absurd (omega arith)
get_right (x ∷ xs) ys i (suc j) e = get_right xs ys i j (omega arith)

pub set_left : {X : Type 0} (xs ys : List X) (i : ℕ) (v : X) → i < length xs → slice_set (xs ++ ys) i v ≡ slice_set xs i v ++ ys
set_left [] ys i v h = absurd (omega arith)
set_left (x ∷ xs) ys zero v h = refl
set_left (x ∷ xs) ys (suc i) v h = ap (λ l. x ∷ l) (set_left xs ys i v (omega arith))

pub set_right : {X : Type 0} (xs ys : List X) (i j : ℕ) (v : X) → j ≡ length xs + i → slice_set (xs ++ ys) j v ≡ xs ++ slice_set ys i v
set_right [] ys i j v e = let f : j ≡ i = omega arith in ap (λ n. slice_set ys n v) f
set_right (x ∷ xs) ys i zero v e = absurd (omega arith)
set_right (x ∷ xs) ys i (suc j) v e = ap (λ l. x ∷ l) (set_right xs ys i j v (omega arith))

pub map_set : {X Y : Type 0} (f : X → Y) (xs : List X) (i : ℕ) (v : X) → map f (slice_set xs i v) ≡ slice_set (map f xs) i (f v)
map_set f [] i v = refl
map_set f (x ∷ xs) zero v = refl
map_set f (x ∷ xs) (suc i) v = ap (λ l. f x ∷ l) (map_set f xs i v)

pub length_set : {X : Type 0} (xs : List X) (i : ℕ) (v : X) → length (slice_set xs i v) ≡ length xs
length_set [] i v = refl
length_set (x ∷ xs) zero v = refl
length_set (x ∷ xs) (suc i) v = ap (λ n. suc n) (length_set xs i v)

pub length_map : {X Y : Type 0} (f : X → Y) (xs : List X) → length (map f xs) ≡ length xs
length_map f [] = refl
length_map f (x ∷ xs) = ap (λ n. suc n) (length_map f xs)

pub get_within : {X : Type 0} (xs : List X) (i : ℕ) → i < length xs → (x : X) × (slice_get xs i ≡ Some x)
get_within [] i h = absurd (omega arith)
get_within (x ∷ xs) zero h = (x, refl)
get_within (x ∷ xs) (suc i) h = get_within xs i (omega arith)

pub get_map : {X Y : Type 0} (f : X → Y) (xs : List X) (i : ℕ) (x : X) → slice_get xs i ≡ Some x → slice_get (map f xs) i ≡ Some (f x)
get_map f [] i x h = absurd (cc)
get_map f (y ∷ ys) zero x h = ap (λ o. option_map f o) h
get_map f (y ∷ ys) (suc i) x h = get_map f ys i x h

-- what stands at a place is one thing
pub same_at : {X : Type 0} (a b : X) (o : Option X) → o ≡ Some a → o ≡ Some b → a ≡ b
same_at {X} a b o p q = ap (λ (x : Option X). item_of x) (sym p ∙ q)
  where
    item_of : Option X → X
    item_of None = a
    item_of (Some c) = c

pub get_index : {X : Type 0} (xs : List X) (i : ℕ) (d : X) → i < length xs → slice_get xs i ≡ Some (slice_index_or xs i d)
get_index [] i d h = absurd (omega (arith, h))
get_index (x ∷ xs) zero d h = refl
get_index (x ∷ xs) (suc i) d h = get_index xs i d (omega (arith, h))

pub length_taken : {X : Type 0} (n : ℕ) (xs : List X) → n ≤ length xs → length (take n xs) ≡ n
length_taken zero xs h = refl
length_taken (suc n) [] h = absurd (omega (arith, h))
length_taken (suc n) (x ∷ xs) h = ap (λ c. suc c) (length_taken n xs (omega (arith, h)))
