-- A pool with marks, and its subpools (RM 13.11.4 to 13.11.6).
use Rattle.std.specs.Prelude.{refl, ℕ, ◌+◌, ◌-◌, ◌*◌, List, [], ◌∷◌, ◌++◌, length, Option, Some, None, Bool, true, false, cond, not, ◌&&◌, nat_eq, nat_lt, is_some, slice_get}
use Rattle.std.specs.Coded.{Coded, code_by, coded×, coded_ℕ, coded_list}
use Rattle.std.specs.Option.{option_map, option_map_or}
use Rattle.pool_area.specs.declared.subpool.Standing.{Standing}
use Rattle.pool_area.specs.declared.subpool.Standing.TheVariants.{Attached, Detached, Dead}
use Rattle.pool_area.specs.contracts.subpool.Standing.{the_row as standing_row}
use Rattle.pool_area.specs.Subpools.{is_dead}

-- a subpool: its number, whether it belongs to its pool (RM 13.11.5), and its mark: how many words were used when it was made
pub record Subpool : Type 0 where
  pub number : ℕ
  pub standing : Standing
  pub start : ℕ

abbrev pub subpool_code : Coded Subpool
subpool_code = code_by (ℕ × (Standing × ℕ)) (coded× coded_ℕ (coded× standing_row.coded coded_ℕ)) (λ s. (s.number, (s.standing, s.start))) (λ t. record { number = t.0; standing = t.1.0; start = t.1.1 }) (λ _. refl)

-- how many storage units the pool has, how many words of 8 units each are used, and its subpools from the first to the last
pub record MarkPool : Type 0 where
  pub size : ℕ
  pub used : ℕ
  pub subpools : List Subpool

-- how the logic stores it: as a tuple of its fields
abbrev pub mark_pool_code : Coded MarkPool
mark_pool_code = code_by (ℕ × (ℕ × List Subpool)) (coded× coded_ℕ (coded× coded_ℕ (coded_list subpool_code))) (λ p. (p.size, (p.used, p.subpools))) (λ t. record { size = t.0; used = t.1.0; subpools = t.1.1 }) (λ _. refl)

abbrev pub new_subpool : ℕ → ℕ → Subpool
new_subpool n used = record { number = n; standing = Attached; start = used }

-- a new pool, with its first subpool
abbrev pub new_mark_pool : ℕ → ℕ → MarkPool
new_mark_pool units n = record { size = units; used = 0; subpools = new_subpool n 0 ∷ [] }

-- the subpool of a number
abbrev pub subpool_of : ℕ → List Subpool → Option Subpool
subpool_of n [] = None
subpool_of n (x ∷ xs) = cond (nat_eq x.number n) (Some x) (subpool_of n xs)

-- that one changed
abbrev pub change_subpool : ℕ → (Subpool → Subpool) → List Subpool → List Subpool
change_subpool n f [] = []
change_subpool n f (x ∷ xs) = cond (nat_eq x.number n) (f x ∷ xs) (x ∷ change_subpool n f xs)

-- a subpool of this number stands in the pool
abbrev pub has_subpool : ℕ → MarkPool → Bool
has_subpool n p = is_some (subpool_of n p.subpools)

abbrev pub standing_in : ℕ → MarkPool → Option Standing
standing_in n p = option_map (λ x. x.standing) (subpool_of n p.subpools)

abbrev pub is_belonging : Standing → Bool
is_belonging Attached = true
is_belonging Detached = false
is_belonging Dead = false

-- a subpool belongs to the pool
abbrev pub belongs : ℕ → MarkPool → Bool
belongs n p = option_map_or is_belonging (standing_in n p) false

-- the last subpool, and no other, has the number
abbrev pub is_last : ℕ → List Subpool → Bool
is_last n [] = false
is_last n (x ∷ []) = nat_eq x.number n
is_last n (x ∷ y ∷ ys) = not (nat_eq x.number n) && is_last n (y ∷ ys)

abbrev pub is_last_in : ℕ → MarkPool → Bool
is_last_in n p = is_last n p.subpools

-- the number of the last subpool, which is the default one (RM 13.11.4)
abbrev pub default_of : MarkPool → Option ℕ
default_of p = option_map (λ x. x.number) (slice_get p.subpools (length p.subpools - 1))

-- a request is refused exactly where the storage units used and those asked for are more than the pool has
abbrev pub is_overfull : ℕ → MarkPool → Bool
is_overfull units p = nat_lt p.size (p.used * 8 + units)

-- with a further subpool, which is the last
abbrev pub with_subpool : ℕ → MarkPool → MarkPool
with_subpool n p = record p { subpools = p.subpools ++ new_subpool n p.used ∷ [] }

abbrev pub with_standing : ℕ → Standing → MarkPool → MarkPool
with_standing n standing p = record p { subpools = change_subpool n (λ x. record x { standing = standing }) p.subpools }

-- more words are used
abbrev pub with_words_used : ℕ → MarkPool → MarkPool
with_words_used words p = record p { used = p.used + words }

-- a subpool stays where it is not dead, or where one after it stays
abbrev pub living_before : Subpool → List Subpool → List Subpool
living_before x [] = cond (is_dead x.standing) [] (x ∷ [])
living_before x (y ∷ ys) = x ∷ y ∷ ys

-- without the dead ones at the end
abbrev pub living : List Subpool → List Subpool
living [] = []
living (x ∷ xs) = living_before x (living xs)

-- the first subpool does not go, but is made anew
abbrev pub or_renewed : ℕ → List Subpool → List Subpool
or_renewed n [] = new_subpool n 0 ∷ []
or_renewed n (x ∷ xs) = x ∷ xs

-- the dead subpools at the end are dropped, and as many words are used as were when the first of them was made; the first one of all comes back under a new number
abbrev pub settled : ℕ → MarkPool → MarkPool
settled n p = option_map_or (λ x. record { size = p.size; used = x.start; subpools = or_renewed n (living p.subpools) }) (slice_get p.subpools (length (living p.subpools))) p

-- a subpool is dead, and dropped where it is the last
abbrev pub released : ℕ → ℕ → MarkPool → MarkPool
released n next p = settled next (with_standing n Dead p)

abbrev pub is_empty : List Subpool → Bool
is_empty [] = true
is_empty (x ∷ xs) = false

-- the first subpool of all comes back
abbrev pub is_renewed : List Subpool → Bool
is_renewed xs = option_map_or (λ x. is_empty (living xs)) (slice_get xs (length (living xs))) false

-- as it does where this one is released
abbrev pub is_renewed_by : ℕ → MarkPool → Bool
is_renewed_by n p = is_renewed (change_subpool n (λ x. record x { standing = Dead }) p.subpools)
