-- The objects that lie in subpools.
use Rattle.std.specs.Prelude.{◌≡◌, ℕ, ◌<◌, map, Option, Some, None, Bool, true, false, cond, ◌&&◌, not, nat_eq, slice_get, option_and_then, IfSome}
use Rattle.std.specs.Ordering.{nat_cmp}
use Rattle.std.specs.Option.{option_map_or}
use Rattle.std.specs.FinMap.{FinMap, get, remove}
use Rattle.pool_area.specs.Lots.{Held}
use Rattle.pool_area.specs.Subpools.{Seen, Subpools, subpool_of, is_dead}
use Rattle.pool_store.specs.declared.cell.Cell.{Cell}
use Rattle.pool_store.specs.Entries.{Stored, object_in, words_in}
use Rattle.pool_store.specs.Marks as marks
use Rattle.pool_store.specs.Marks.{MarkPool}

-- what is seen of a subpool and of a pool with marks: not the blocks
abbrev pub bare : Seen → marks.Subpool
bare x = record { number = x.number; standing = x.standing; start = x.start }

abbrev pub mark_of : Subpools → MarkPool
mark_of p = record { size = p.size; used = p.used; subpools = map bare p.subpools }

-- the subpool of an object
abbrev pub row_at : Cell → FinMap nat_cmp Subpools → Option Seen
row_at c pools = option_and_then (λ p. subpool_of c.subpool p.subpools) (get pools c.pool)

-- a block of a subpool that may be there
abbrev pub block_in : ℕ → Option Seen → Option (Option Held)
block_in index row = option_and_then (λ x. slice_get x.blocks index) row

-- an object with its words
abbrev pub stored_at : FinMap nat_cmp Subpools → Cell → Stored
stored_at pools c = record { spot = None; site = Some (record { pool = c.pool; subpool = c.subpool }); words = words_in (block_in c.index (row_at c pools)) }

-- a block of a subpool that is not dead holds the object
abbrev pub Holds : ℕ → ℕ → Option Seen → Type 0
Holds index n row = (object_in (block_in index row) ≡ Some n) × (option_map_or (λ x. is_dead x.standing) row false ≡ false)

abbrev pub IsAt : FinMap nat_cmp Subpools → ℕ → Cell → Type 0
IsAt pools n c = Holds c.index n (row_at c pools)

-- Each object lies where it is held, subpools are numbered from 1, and none has a number that was not given yet.
pub record Places (cells : FinMap nat_cmp Cell) (pools : FinMap nat_cmp Subpools) (next_subpool : ℕ) : Type 0 where
  pub placed : (n : ℕ) → IfSome (get cells n) (IsAt pools n)
  pub numbers : (p : ℕ) → IfSome (get pools p) (λ m. m.given < next_subpool)
  pub positive : 0 < next_subpool

-- an object lies in this subpool of this pool
abbrev pub is_in_subpool : ℕ → ℕ → Cell → Bool
is_in_subpool p n c = nat_eq c.pool p && nat_eq c.subpool n

abbrev pub is_out_of_subpool : ℕ → ℕ → Cell → Bool
is_out_of_subpool p n c = not (is_in_subpool p n c)

abbrev pub is_out_of_pool : ℕ → Cell → Bool
is_out_of_pool p c = not (nat_eq c.pool p)

-- an object is held no more, where it lies in this subpool of this pool
abbrev pub forgotten : ℕ → ℕ → Option ℕ → FinMap nat_cmp Cell → FinMap nat_cmp Cell
forgotten p n None cells = cells
forgotten p n (Some m) cells = cond (option_map_or (is_in_subpool p n) (get cells m) false) (remove cells m) cells

-- the objects that lie in a pool are held by its blocks
abbrev pub IsHeldIn : ℕ → Subpools → ℕ → Cell → Type 0
IsHeldIn p pool n c = nat_eq c.pool p ≡ true → object_in (block_in c.index (subpool_of c.subpool pool.subpools)) ≡ Some n

abbrev pub AreHeldIn : ℕ → Subpools → FinMap nat_cmp Cell → Type 0
AreHeldIn p pool cells = (n : ℕ) → IfSome (get cells n) (IsHeldIn p pool n)
