-- Members of collections, by tests of theirs and by their numbers.
use Rattle.std.specs.Prelude.{◌≤◌, ℕ, List, Option, Bool, false, ◌&&◌, nat_le, MatchOption}
use Rattle.std.specs.Option.{option_map_or}
use Rattle.ctl_meaning.specs.World.{Origin, Declared, Allocated, Object}
use Rattle.ctl_meaning.specs.Objects.{object_in}

-- allocated for a collection between two
abbrev pub is_between : ℕ → ℕ → Origin → Bool
is_between first last (Declared m) = false
is_between first last (Allocated set p) = nat_le first set && nat_le set last

-- the object of a number exists and passes a test
abbrev pub passes : (Object → Bool) → ℕ → List Object → Bool
passes p n os = option_map_or p (object_in n os) false

-- the least number of which this holds
abbrev pub IsLeast : (ℕ → Type 0) → Option ℕ → Type 0
IsLeast P r = MatchOption r ((n : ℕ) → P n → ⊥) (λ m. P m × ((n : ℕ) → P n → m ≤ n))

-- the greatest number of which this holds
abbrev pub IsGreatest : (ℕ → Type 0) → Option ℕ → Type 0
IsGreatest P r = MatchOption r ((n : ℕ) → P n → ⊥) (λ m. P m × ((n : ℕ) → P n → n ≤ m))
