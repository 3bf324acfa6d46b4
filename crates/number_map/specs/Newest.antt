-- How a map is kept: one entry apart, and the others in a table.
use Rattle.std.specs.Prelude.{◌≡◌, ℕ, List, ◌∷◌, Bool, false, Option, Some, None, nat_eq}
use Rattle.std.specs.Map.{lookup}
use Rattle.number_map.specs.declared.newest.Newest.{Newest}
use Rattle.number_map.specs.declared.newest.Newest.TheVariants.{Entry, Nothing}

-- the entry apart is that of this number
abbrev pub is_of : {V : Type 0} → ℕ → Newest V → Bool
is_of n Nothing = false
is_of n (Entry k v) = nat_eq k n

abbrev pub value_of : {V : Type 0} → Newest V → Option V
value_of Nothing = None
value_of (Entry k v) = Some v

abbrev pub entry_of : {V : Type 0} → Newest V → Option (ℕ × V)
entry_of Nothing = None
entry_of (Entry k v) = Some (k, v)

-- with another value
abbrev pub with_newest : {V : Type 0} → Newest V → V → Newest V
with_newest Nothing w = Nothing
with_newest (Entry k v) w = Entry k w

-- all entries
abbrev pub all_of : {V : Type 0} → Newest V → List (ℕ × V) → List (ℕ × V)
all_of Nothing es = es
all_of (Entry k v) es = (k, v) ∷ es

-- the number of the entry apart has no other one
abbrev pub StandsApart : {V : Type 0} → Newest V → List (ℕ × V) → Type 0
StandsApart Nothing es = Unit {0}
StandsApart (Entry k v) es = lookup (nat_eq k) es ≡ None
