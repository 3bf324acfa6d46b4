-- Members of sets, in the order of their object numbers.
use Rattle.std.specs.Prelude.{◌≡◌, ℕ, ◌<◌, ◌≤◌, List, [], ◌∷◌, length, Option, Some, None, Bool, true, false, ◌&&◌, ◌||◌, nat_eq, nat_lt, if◌then◌else◌, map, filter, All, slice_index_or}
use Rattle.std.specs.List.{AllPairs}
use Rattle.fin_lists.specs.declared.group.Membership.{Membership}

-- with one more member, which stands before the first of a greater number
abbrev pub insert_member : Membership → List Membership → List Membership
insert_member m [] = m ∷ []
insert_member m (x ∷ xs) = if nat_lt m.object x.object then m ∷ x ∷ xs else x ∷ insert_member m xs

abbrev pub is_same : Membership → Membership → Bool
is_same m x = nat_eq m.object x.object && nat_eq m.set x.set

-- whether the member stands there
abbrev pub has_member : Membership → List Membership → Bool
has_member m [] = false
has_member m (x ∷ xs) = is_same m x || has_member m xs

-- with the member, which is put in where it does not stand there yet
abbrev pub put_member : Membership → List Membership → List Membership
put_member m xs = if has_member m xs then xs else insert_member m xs

-- without this member
abbrev pub remove_member : Membership → List Membership → List Membership
remove_member m [] = []
remove_member m (x ∷ xs) = if is_same m x then xs else x ∷ remove_member m xs

-- those of one set
abbrev pub members_in : ℕ → List Membership → List Membership
members_in set xs = filter (λ m. nat_eq m.set set) xs

-- the object numbers
abbrev pub objects_of : List Membership → List ℕ
objects_of xs = map (λ m. m.object) xs

-- no member stands there twice
abbrev pub AreOnce : List Membership → Type 0
AreOnce xs = AllPairs (λ x y. is_same x y ≡ false) xs

-- the set, where one is named, is that of each member
abbrev pub IsSole : Option ℕ → List Membership → Type 0
IsSole None xs = Unit {0}
IsSole (Some set) xs = All (λ m. m.set ≡ set) xs

-- the place behind the members whose numbers are not greater
pub record IsPlaceFor (object : ℕ) (xs : List Membership) (place : ℕ) : Type 0 where
  pub within : place ≤ length xs
  pub before : (k : ℕ) (d : Membership) → k < place → (slice_index_or xs k d).object ≤ object
  pub after : (k : ℕ) (d : Membership) → place ≤ k → k < length xs → object < (slice_index_or xs k d).object

-- the first place where this member stands
pub record IsPlaceOf (m : Membership) (xs : List Membership) (place : ℕ) : Type 0 where
  pub within : place < length xs
  pub here : (d : Membership) → is_same m (slice_index_or xs place d) ≡ true
  pub before : (k : ℕ) (d : Membership) → k < place → is_same m (slice_index_or xs k d) ≡ false
