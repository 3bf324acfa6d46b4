-- How the others are kept: each owner has a list of its numbers, and each number its place in one of them.
use Rattle.std.specs.Prelude.{◌≡◌, ℕ, ◌≤◌, ◌^◌, List, Option, Some, None, false, ◌&&◌, nat_eq, slice_get, option_and_then, IfSome, MatchOption, if◌then◌else◌}
use Rattle.std.specs.Ordering.{nat_cmp}
use Rattle.std.specs.FinMap.{FinMap, get}
use Rattle.std.specs.Global.{Vec}
use Rattle.number_map.specs.Table.{Table, mapped}
use Rattle.owned_numbers.specs.declared.others.Place.{Place}

abbrev pub Places : Type 0
Places = FinMap nat_cmp Place

abbrev pub Lists : Type 0
Lists = FinMap nat_cmp (Vec ℕ)

-- what stands at an index of an owner's list
abbrev pub item_at : Lists → ℕ → ℕ → Option ℕ
item_at lists p i = option_and_then (λ v. slice_get v.items i) (get lists p)

-- the owner of each number
abbrev pub owners_of : Places → FinMap nat_cmp ℕ
owners_of places = mapped (λ x. x.owner) places

-- each number stands at its place, and at no other one
pub record AreListed (places : Places) (lists : Lists) : Type 0 where
  pub found : (n : ℕ) → IfSome (get places n) (λ x. item_at lists x.owner x.index ≡ Some n)
  pub placed : (p i n : ℕ) → item_at lists p i ≡ Some n → get places n ≡ Some (record { owner = p; index = i })

pub record AreKept (places : Table Place) (lists : Lists) (count : ℕ) : Type 0 where
  pub listed : AreListed places.values lists
  pub many : count ≡ places.size
  pub few : count ≤ 2 ^ 62

-- a number is put at an index of an owner's list, where nothing stood
pub record IsAppended (p i n : ℕ) (old new : Lists) : Type 0 where
  pub free : item_at old p i ≡ None
  pub items : (q j : ℕ) → item_at new q j ≡ (if nat_eq p q && nat_eq i j then Some n else item_at old q j)

-- the last item of a list, which stood at another index, comes to an index
pub record ComesTo (m i : ℕ) (old new : List ℕ) : Type 0 where
  pub last : ℕ
  pub there : slice_get old last ≡ Some m
  pub apart : nat_eq last i ≡ false
  pub items : (j : ℕ) → slice_get new j ≡ (if nat_eq last j then None else (if nat_eq i j then Some m else slice_get old j))

-- the item at an index is taken out of a list, and the last item, which is the answer where it is another one, comes to its place
abbrev pub IsSwapped : ℕ → Option ℕ → List ℕ → List ℕ → Type 0
IsSwapped i r old new = MatchOption r ((j : ℕ) → slice_get new j ≡ (if nat_eq i j then None else slice_get old j)) (λ m. ComesTo m i old new)

-- so in the list of an owner
pub record MovesTo (p m i : ℕ) (old new : Lists) : Type 0 where
  pub last : ℕ
  pub there : item_at old p last ≡ Some m
  pub apart : nat_eq last i ≡ false
  pub items : (q j : ℕ) → item_at new q j ≡ (if nat_eq p q && nat_eq last j then None else (if nat_eq p q && nat_eq i j then Some m else item_at old q j))

abbrev pub IsTakenOut : ℕ → ℕ → Option ℕ → Lists → Lists → Type 0
IsTakenOut p i r old new = MatchOption r ((q j : ℕ) → item_at new q j ≡ (if nat_eq p q && nat_eq i j then None else item_at old q j)) (λ m. MovesTo p m i old new)
