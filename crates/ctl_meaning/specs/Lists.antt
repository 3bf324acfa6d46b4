-- Lists that are read by a test, a number or a place. Every look-up is total.
use Rattle.std.specs.Prelude.{ℕ, zero, suc, List, [], ◌∷◌, Option, Some, None, Bool, true, false, ◌&&◌, ◌||◌, nat_eq, if◌then◌else◌}

-- the first item that passes a test
unfoldable pub first_with : {A : Type 0} → (A → Bool) → List A → Option A
first_with p [] = None
first_with p (x ∷ xs) = if p x then Some x else first_with p xs

-- each item that passes a test, changed
unfoldable pub change_each : {A : Type 0} → (A → Bool) → (A → A) → List A → List A
change_each p f [] = []
change_each p f (x ∷ xs) = (if p x then f x else x) ∷ change_each p f xs

-- the first item that passes a test, changed
unfoldable pub change_first : {A : Type 0} → (A → Bool) → (A → A) → List A → List A
change_first p f [] = []
change_first p f (x ∷ xs) = if p x then f x ∷ xs else x ∷ change_first p f xs

-- the items that pass a test
unfoldable pub keep : {A : Type 0} → (A → Bool) → List A → List A
keep p [] = []
keep p (x ∷ xs) = if p x then x ∷ keep p xs else keep p xs

-- whether some item passes a test
unfoldable pub any_of : {A : Type 0} → (A → Bool) → List A → Bool
any_of p [] = false
any_of p (x ∷ xs) = p x || any_of p xs

-- whether a number is among these
unfoldable pub contains : ℕ → List ℕ → Bool
contains n [] = false
contains n (x ∷ xs) = nat_eq n x || contains n xs

-- the last number, 0 where there is none
unfoldable pub last_of : List ℕ → ℕ
last_of [] = 0
last_of (x ∷ []) = x
last_of (x ∷ y ∷ ys) = last_of (y ∷ ys)

-- what is there, or else the first
unfoldable pub item_or : {A : Type 0} → A → Option A → A
item_or d None = d
item_or d (Some x) = x

-- the item at a place, or else the first
unfoldable pub pull_item : {A : Type 0} → A → ℕ → List A → A
pull_item d p [] = d
pull_item d zero (x ∷ xs) = x
pull_item d (suc p) (x ∷ xs) = pull_item d p xs

-- the items but the one at a place
unfoldable pub pull_rest : {A : Type 0} → ℕ → List A → List A
pull_rest p [] = []
pull_rest zero (x ∷ xs) = xs
pull_rest (suc p) (x ∷ xs) = x ∷ pull_rest p xs

-- whether two lists of numbers are the same
unfoldable pub same_list : List ℕ → List ℕ → Bool
same_list [] [] = true
same_list [] (y ∷ ys) = false
same_list (x ∷ xs) [] = false
same_list (x ∷ xs) (y ∷ ys) = nat_eq x y && same_list xs ys

-- whether the first list of numbers is the beginning of the second
unfoldable pub begins : List ℕ → List ℕ → Bool
begins [] ys = true
begins (x ∷ xs) [] = false
begins (x ∷ xs) (y ∷ ys) = nat_eq x y && begins xs ys

-- everything here, opened at once
unfoldable pub opened_lists : Unit {0}
unfolding first_with change_each change_first keep any_of contains last_of item_or pull_item pull_rest same_list begins
opened_lists = tt
