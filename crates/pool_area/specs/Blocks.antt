-- A block pool with its blocks that are out (RM 13.11).
use Rattle.std.specs.Prelude.{◌≡◌, refl, ℕ, ◌+◌, ◌-◌, ◌*◌, ◌<◌, ◌≤◌, List, [], length, replicate, Option, Some, None, Bool, true, false, ◌||◌, nat_eq, nat_lt, is_none, IfSome, IsSome}
use Rattle.std.specs.Ordering.{nat_cmp}
use Rattle.std.specs.Coded.{Coded, code_by, coded×, coded_ℕ, coded_option}
use Rattle.std.specs.Option.{option_map, option_map_or}
use Rattle.std.specs.FinMap.{FinMap, code, get, insert, remove}
use Rattle.number_map.specs.Table.{change}
use Rattle.block_pool.specs.Pool.{Pool, IsBlockOf}
use Rattle.pool_area.specs.declared.lot.Lot.{Lot}
use Rattle.pool_area.specs.Lots.{Held, held_code, words_of, with_word, with_words_over, IsFilled}

-- how many storage units a block has, how many blocks are free, and those that are out, by address, each with the object that it holds
pub record Blocks : Type 0 where
  pub size : ℕ
  pub free : ℕ
  pub out : FinMap nat_cmp (Option Held)

-- how the logic stores it: as a tuple of its fields
abbrev pub blocks_code : Coded Blocks
blocks_code =
    code_by (ℕ × (ℕ × FinMap nat_cmp (Option Held))) (coded× coded_ℕ (coded× coded_ℕ (code coded_ℕ (coded_option held_code))))
    (λ p. (p.size, (p.free, p.out))) (λ t. record { size = t.0; free = t.1.0; out = t.1.1 }) (λ _. refl)

-- the sizes that a pool may have: from 1 to 4,096 storage units in a block, and from 1 to 65,536 blocks
abbrev pub IsAreaSize : ℕ → ℕ → Type 0
IsAreaSize units count = (1 ≤ units) × (units ≤ 4096) × (1 ≤ count) × (count ≤ 65536)

-- a request is refused exactly where no block is free or it is larger than a block
abbrev pub is_exhausted : ℕ → Blocks → Bool
is_exhausted units p = nat_eq p.free 0 || nat_lt p.size units

-- a block is out under an address, and holds no object
abbrev pub is_vacant : ℕ → Blocks → Bool
is_vacant a p = option_map_or is_none (get p.out a) false

-- a free block goes out
abbrev pub with_block_out : ℕ → Blocks → Blocks
with_block_out a p = record p { free = p.free - 1; out = insert p.out a None }

-- a block comes back
abbrev pub with_block_back : ℕ → Blocks → Blocks
with_block_back a p = record p { free = p.free + 1; out = remove p.out a }

-- an object is put into a block, all of its words 0
abbrev pub with_holder : ℕ → ℕ → ℕ → Blocks → Blocks
with_holder a object words p = record p { out = insert p.out a (Some (record { object = object; words = replicate words 0 })) }

-- the object is there no longer
abbrev pub with_no_holder : ℕ → Blocks → Blocks
with_no_holder a p = record p { out = change a (λ h. None) p.out }

-- the words of the object that is held under an address
abbrev pub words_at : ℕ → Blocks → List ℕ
words_at a p = option_map_or words_of (get p.out a) []

-- with a word of it written
abbrev pub with_word_of : ℕ → ℕ → ℕ → Blocks → Blocks
with_word_of a place value p = record p { out = change a (option_map (with_word place value)) p.out }

abbrev pub with_words_of : ℕ → ℕ → List ℕ → Blocks → Blocks
with_words_of a place others p = record p { out = change a (option_map (with_words_over place others)) p.out }

-- the object that is held under an address
abbrev pub object_at : ℕ → Blocks → Option ℕ
object_at a p = option_map_or (λ h. option_map (λ x. x.object) h) (get p.out a) None

-- a block is out under an address
abbrev pub IsOut : ℕ → Blocks → Type 0
IsOut a p = IsSome (get p.out a)

-- Each block that is out is of the pool, and with the free ones these are all; an object fits into its block, and a request of the pool's size too.
pub record Keeps (p : Pool) (size : ℕ) (lots : FinMap nat_cmp Lot) (n : ℕ) : Type 0 where
  pub each : (a : ℕ) → IfSome (get lots a) (λ lot. IsBlockOf p lot.block × IsFilled lot)
  pub total : p.free + n ≡ p.count
  pub fits : size ≤ p.block_words * 8
