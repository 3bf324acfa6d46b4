-- A pool with marks, and its subpools (RM 13.11.4 to 13.11.6).
use Rattle.std.specs.Prelude.{◌≡◌, refl, ℕ, ◌+◌, ◌-◌, ◌*◌, ◌/◌, ◌≤◌, List, [], ◌∷◌, ◌++◌, length, map, take, replicate, Option, Some, None, Bool, true, false, cond, not, ◌&&◌, nat_eq, nat_lt, slice_get, slice_set, option_and_then}
use Rattle.std.specs.Coded.{Coded, code_by, coded×, coded_ℕ, coded_list, coded_option}
use Rattle.std.specs.Option.{option_map, option_map_or}
use Rattle.mark_pool.specs.Marks.{Mark, Marks}
use Rattle.pool_area.specs.declared.subpool.Subpool.{Subpool}
use Rattle.pool_area.specs.declared.subpool.Standing.{Standing}
use Rattle.pool_area.specs.declared.subpool.Standing.TheVariants.{Attached, Detached, Dead}
use Rattle.pool_area.specs.contracts.subpool.Standing.{the_row as standing_row}
use Rattle.pool_area.specs.Lots.{Held, held_code, held_in, words_of}
use Rattle.pool_area.specs.Rows.{AreStacked, rows_end, HeldFrom}

-- what is seen of a subpool: its number, whether it belongs to its pool, how many words were used when it was made, and its blocks from the oldest on, each with the object that it holds
pub record Seen : Type 0 where
  pub number : ℕ
  pub standing : Standing
  pub start : ℕ
  pub blocks : List (Option Held)

-- how the logic stores it: as a tuple of its fields
abbrev pub seen_code : Coded Seen
seen_code =
    code_by (ℕ × (Standing × (ℕ × List (Option Held)))) (coded× coded_ℕ (coded× standing_row.coded (coded× coded_ℕ (coded_list (coded_option held_code)))))
    (λ s. (s.number, (s.standing, (s.start, s.blocks)))) (λ t. record { number = t.0; standing = t.1.0; start = t.1.1.0; blocks = t.1.1.1 }) (λ _. refl)

abbrev pub seen_in : {A : Type 0} → Subpool A → Seen
seen_in r = record { number = r.number; standing = r.standing; start = r.start; blocks = map held_in r.lots.items }

-- how many storage units the pool has, how many words are used, the subpools from the first to the last, and the number that was given to one last
pub record Subpools : Type 0 where
  pub size : ℕ
  pub used : ℕ
  pub subpools : List Seen
  pub given : ℕ

abbrev pub subpools_code : Coded Subpools
subpools_code =
    code_by (ℕ × (ℕ × (List Seen × ℕ))) (coded× coded_ℕ (coded× coded_ℕ (coded× (coded_list seen_code) coded_ℕ)))
    (λ p. (p.size, (p.used, (p.subpools, p.given)))) (λ t. record { size = t.0; used = t.1.0; subpools = t.1.1.0; given = t.1.1.1 }) (λ _. refl)

-- the sizes that a pool may have, in storage units
abbrev pub IsMarkSize : ℕ → Type 0
IsMarkSize units = (8 ≤ units) × (units ≤ 16777216)

-- the subpool of a number, the first that has it
abbrev pub subpool_of : ℕ → List Seen → Option Seen
subpool_of n [] = None
subpool_of n (x ∷ xs) = cond (nat_eq x.number n) (Some x) (subpool_of n xs)

-- that one changed
abbrev pub change_subpool : ℕ → (Seen → Seen) → List Seen → List Seen
change_subpool n f [] = []
change_subpool n f (x ∷ xs) = cond (nat_eq x.number n) (f x ∷ xs) (x ∷ change_subpool n f xs)

-- the last subpool, and no other, has the number
abbrev pub is_last : ℕ → List Seen → Bool
is_last n [] = false
is_last n (x ∷ []) = nat_eq x.number n
is_last n (x ∷ y ∷ ys) = not (nat_eq x.number n) && is_last n (y ∷ ys)

-- the last subpool
abbrev pub last_of : List Seen → Option Seen
last_of xs = slice_get xs (length xs - 1)

-- a new subpool
abbrev pub new_subpool : ℕ → ℕ → Seen
new_subpool n used = record { number = n; standing = Attached; start = used; blocks = [] }

-- a new pool, with its first subpool
abbrev pub new_area : ℕ → ℕ → Subpools
new_area units n = record { size = units; used = 0; subpools = new_subpool n 0 ∷ []; given = n }

-- a request is refused exactly where the words used and those asked for are more than the pool has
abbrev pub is_overfull : ℕ → Subpools → Bool
is_overfull units p = nat_lt p.size (p.used * 8 + units)

-- with a further subpool, which is the last
abbrev pub with_subpool : ℕ → Subpools → Subpools
with_subpool n p = record p { subpools = p.subpools ++ new_subpool n p.used ∷ []; given = n }

abbrev pub with_standing : ℕ → Standing → Subpools → Subpools
with_standing n standing p = record p { subpools = change_subpool n (λ x. record x { standing = standing }) p.subpools }

abbrev pub standing_of : ℕ → Subpools → Option Standing
standing_of n p = option_map (λ x. x.standing) (subpool_of n p.subpools)

-- how many blocks a subpool has
abbrev pub count_of : ℕ → Subpools → ℕ
count_of n p = option_map_or (λ x. length x.blocks) (subpool_of n p.subpools) 0

-- a block of a subpool
abbrev pub block_of : ℕ → ℕ → Subpools → Option (Option Held)
block_of n index p = option_and_then (λ x. slice_get x.blocks index) (subpool_of n p.subpools)

abbrev pub object_of : ℕ → ℕ → Subpools → Option ℕ
object_of n index p = option_map_or (λ h. option_map (λ x. x.object) h) (block_of n index p) None

abbrev pub block_words : ℕ → ℕ → Subpools → List ℕ
block_words n index p = option_map_or words_of (block_of n index p) []

-- with a new object of so many words, all of them 0, in a new block of a subpool
abbrev pub with_new_block : ℕ → ℕ → ℕ → Subpools → Subpools
with_new_block n object words p =
    record p { used = p.used + words; subpools = change_subpool n (λ x. record x { blocks = x.blocks ++ Some (record { object = object; words = replicate words 0 }) ∷ [] }) p.subpools }

-- an element of a list changed, where there is one
abbrev pub changed_at : {X : Type 0} → ℕ → (X → X) → List X → List X
changed_at i f xs = option_map_or (λ x. slice_set xs i (f x)) (slice_get xs i) xs

abbrev pub change_block : ℕ → (Option Held → Option Held) → Seen → Seen
change_block index f x = record x { blocks = changed_at index f x.blocks }

-- what a block of a subpool holds changed
abbrev pub with_block : ℕ → ℕ → (Option Held → Option Held) → Subpools → Subpools
with_block n index f p = record p { subpools = change_subpool n (change_block index f) p.subpools }

-- the objects of a subpool are there no longer; its blocks stay
abbrev pub without_objects : Seen → Seen
without_objects x = record x { blocks = replicate (length x.blocks) None }

abbrev pub with_no_objects : ℕ → Subpools → Subpools
with_no_objects n p = record p { subpools = change_subpool n without_objects p.subpools }

-- without its last element
abbrev pub front_of : {X : Type 0} → List X → List X
front_of xs = take (length xs - 1) xs

-- the first subpool does not go, but is made anew
abbrev pub or_renewed : ℕ → List Seen → List Seen
or_renewed n [] = new_subpool n 0 ∷ []
or_renewed n (x ∷ xs) = x ∷ xs

abbrev pub given_if_renewed : ℕ → ℕ → List Seen → ℕ
given_if_renewed n given [] = n
given_if_renewed n given (x ∷ xs) = given

-- the last subpool is dropped, with its words; the first one comes back under a new number
abbrev pub without_last : ℕ → Subpools → Subpools
without_last n p =
    record {
      size = p.size;
      used = option_map_or (λ x. x.start) (last_of p.subpools) 0;
      subpools = or_renewed n (front_of p.subpools);
      given = given_if_renewed n p.given (front_of p.subpools);
    }

-- a subpool is released
abbrev pub is_dead : Standing → Bool
is_dead Attached = false
is_dead Detached = false
is_dead Dead = true

-- as the last one is
abbrev pub is_last_dead : Subpools → Bool
is_last_dead p = option_map_or (λ x. is_dead x.standing) (last_of p.subpools) false

-- a subpool stays where it is not dead, or where one after it stays
abbrev pub living_before : Seen → List Seen → List Seen
living_before x [] = cond (is_dead x.standing) [] (x ∷ [])
living_before x (y ∷ ys) = x ∷ y ∷ ys

-- without the dead ones at the end
abbrev pub living : List Seen → List Seen
living [] = []
living (x ∷ xs) = living_before x (living xs)

-- the dead subpools at the end are dropped, with their words; the first one of all comes back under a new number
abbrev pub settled : ℕ → Subpools → Subpools
settled n p =
    let kept = living p.subpools in
    option_map_or (λ x. record { size = p.size; used = x.start; subpools = or_renewed n kept; given = given_if_renewed n p.given kept }) (slice_get p.subpools (length kept)) p

-- How the blocks lie in the pool's words: those of one subpool after those of the one before, each from its mark on; the words that are not used are in the region.
pub record Stands {A : Type 0} (pool : Marks) (units given capacity : ℕ) (rows : List (Subpool A)) : Type 0 where
  pub stacked : AreStacked pool.home 0 rows
  pub used : pool.used ≡ rows_end 0 rows
  pub rest : HeldFrom pool.used pool.places
  pub fits : pool.used ≤ length pool.places
  pub size : length pool.places ≡ units / 8
  pub marks : map (λ (r : Subpool A). r.start) rows ≡ map (λ (m : Mark). m.start) (pool.older ++ pool.top ∷ [])
  pub issued : pool.issued ≤ given + 1
  pub few : length rows ≤ 10
  pub room : 10 ≤ capacity
