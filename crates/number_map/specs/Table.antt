-- Values by number.
use Rattle.std.specs.Prelude.{◌≡◌, refl, ℕ, ◌<◌, List, Some, None, map, nat_eq, slice_get}
use Rattle.std.specs.Coded.{Coded, code_by, coded×, coded_ℕ}
use Rattle.std.specs.Ordering.{nat_cmp}
use Rattle.std.specs.Map.{lookup}
use Rattle.std.specs.Option.{option_map_or}
use Rattle.std.specs.FinMap.{FinMap, get, insert, code, entries, from_entries}

-- the value of each number that has one, for how many more there is room, and how many have one
pub record Table (V : Type 0) : Type 0 where
  pub values : FinMap nat_cmp V
  pub room : ℕ
  pub size : ℕ

-- how the logic stores it: as a tuple of its fields
abbrev pub table_code : {V : Type 0} → Coded V → Coded (Table V)
table_code {V} c = code_by (FinMap nat_cmp V × (ℕ × ℕ)) (coded× (code coded_ℕ c) (coded× coded_ℕ coded_ℕ)) (λ t. (t.values, (t.room, t.size))) (λ p. record { values = p.0; room = p.1.0; size = p.1.1 }) (λ _. refl)

-- with a value at a number
abbrev pub with_value : {V : Type 0} → Table V → ℕ → V → Table V
with_value t n v = record t { values = insert t.values n v }

-- the value of a number changed, where there is one
abbrev pub change : {V : Type 0} → ℕ → (V → V) → FinMap nat_cmp V → FinMap nat_cmp V
change n f t = option_map_or (λ v. insert t n (f v)) (get t n) t

-- no number above those given has a value
abbrev pub AreGiven : {V : Type 0} → ℕ → FinMap nat_cmp V → Type 0
AreGiven given t = (n : ℕ) → given < n → get t n ≡ None

-- each value as another one
unfoldable pub mapped : {V W : Type 0} → (V → W) → FinMap nat_cmp V → FinMap nat_cmp W
mapped f t = from_entries (map (λ e. (e.0, f e.1)) (entries t))

-- the entry of this number stands at this index, and its value is what the number gives
pub record StandsAt {V : Type 0} (es : List (ℕ × V)) (n i : ℕ) : Type 0 where
  pub value : V
  pub entry : slice_get es i ≡ Some (n, value)
  pub found : lookup (nat_eq n) es ≡ Some value
