-- Numbers and their owners.
use Rattle.std.specs.Prelude.{◌≡◌, refl, ℕ, ◌+◌, Option, None, Bool, false, ◌&&◌, nat_eq, if◌then◌else◌}
use Rattle.std.specs.Coded.{Coded, code_by, coded×, coded_ℕ}
use Rattle.std.specs.Option.{option_map_or}
use Rattle.std.specs.Ordering.{nat_cmp}
use Rattle.std.specs.FinMap.{FinMap, code, get, insert}
use Rattle.owned_numbers.specs.declared.newest.Newest.{Newest}
use Rattle.owned_numbers.specs.declared.newest.Newest.TheVariants.{Nothing, Pair}

-- the owner of each number that has one, and how many numbers have one
pub record Owned : Type 0 where
  pub owners : FinMap nat_cmp ℕ
  pub size : ℕ

-- how the logic stores it: as a tuple of its fields
abbrev pub owned_code : Coded Owned
owned_code = code_by (FinMap nat_cmp ℕ × ℕ) (coded× (code coded_ℕ coded_ℕ) coded_ℕ) (λ o. (o.owners, o.size)) (λ t. record { owners = t.0; size = t.1 }) (λ _. refl)

-- it is this owner
abbrev pub is_owner : ℕ → Option ℕ → Bool
is_owner p o = option_map_or (λ q. nat_eq q p) o false

-- an owner has a number
abbrev pub owns : ℕ → ℕ → Owned → Bool
owns p n o = is_owner p (get o.owners n)

-- one owner has a number, or has it not; whatever else was owned still is
abbrev pub OwnsAs : Bool → ℕ → ℕ → Owned → Owned → Type 0
OwnsAs b owner n old new = (p k : ℕ) → owns p k new ≡ (if nat_eq owner p && nat_eq n k then b else owns p k old)

-- How they are kept: one pair of an owner and a number apart -----------------------------------------------

-- the pair apart is this one
abbrev pub is_pair : ℕ → ℕ → Newest → Bool
is_pair p n Nothing = false
is_pair p n (Pair q k) = nat_eq q p && nat_eq k n

-- with the pair apart
abbrev pub with_newest : Newest → Owned → Owned
with_newest Nothing o = o
with_newest (Pair p n) o = record { owners = insert o.owners n p; size = o.size + 1 }

-- the number of the pair apart has no other owner
abbrev pub IsApart : Newest → Owned → Type 0
IsApart Nothing o = Unit {0}
IsApart (Pair p n) o = get o.owners n ≡ None
