-- The objects that are held, the pools of blocks (RM 13.11), and the pools with marks and their subpools (RM 13.11.4 to 13.11.6).
use Rattle.std.specs.Prelude.{◌≡◌, refl, filter, ℕ, ◌+◌, ◌-◌, ◌*◌, ◌/◌, ◌<◌, ◌≤◌, List, [], ◌∷◌, ◌++◌, length, replicate, Option, Some, None, Result, Ok, Err, Bool, false, cond, ◌||◌, ◌&&◌, not, nat_eq, nat_lt, nat_le, is_none, is_some, IfSome, IsSome, slice_set, slice_index_or, option_and_then}
use Rattle.std.specs.Ordering.{nat_cmp}
use Rattle.std.specs.Option.{option_map, option_map_or}
use Rattle.std.specs.Coded.{Coded, code_by, coded×, coded_ℕ, coded_list, coded_option}
use Rattle.std.specs.FinMap.{FinMap, code, empty, get, insert, remove}
use Rattle.number_map.specs.Table.{change}
use Rattle.pool_area.specs.Lots.{run_of, overwritten}
use Rattle.pool_store.specs.declared.fault.StoreFault.{StoreFault}
use Rattle.pool_store.specs.declared.fault.StoreFault.TheVariants.{Exhausted, Gone, Released, Foreign, NotTop}
use Rattle.pool_store.specs.declared.block_store.Address.{Address}
use Rattle.pool_store.specs.declared.entry.Spot.{Spot}
use Rattle.pool_store.specs.Entries.{Stored, stored_code, BlockPool}
use Rattle.pool_store.specs.Kept.{kept}
use Rattle.pool_area.specs.declared.subpool.Standing.{Standing}
use Rattle.pool_area.specs.declared.subpool.Standing.TheVariants.{Detached}
use Rattle.pool_store.specs.Marks.{MarkPool, mark_pool_code, new_mark_pool, has_subpool, standing_in, belongs, is_last_in, is_overfull, with_subpool, with_standing, with_words_used, released, is_renewed_by}

-- The objects by their numbers; the open pools of blocks by theirs, and the address that was given last; the open pools with marks by theirs, these numbers in the order in which the pools were opened, and the number that the next subpool gets.
pub record Store : Type 0 where
  pub objects : FinMap nat_cmp Stored
  pub blocks : FinMap nat_cmp BlockPool
  pub given : ℕ
  pub marks : FinMap nat_cmp MarkPool
  pub opened : List ℕ
  pub next_subpool : ℕ

abbrev pub block_pool_code : Coded BlockPool
block_pool_code =
    code_by (ℕ × (ℕ × FinMap nat_cmp (Option ℕ))) (coded× coded_ℕ (coded× coded_ℕ (code coded_ℕ (coded_option coded_ℕ))))
    (λ p. (p.size, (p.free, p.out))) (λ t. record { size = t.0; free = t.1.0; out = t.1.1 }) (λ _. refl)

-- how the logic stores it: as a tuple of its fields
abbrev pub store_code : Coded Store
store_code =
    code_by (FinMap nat_cmp Stored × (FinMap nat_cmp BlockPool × (ℕ × (FinMap nat_cmp MarkPool × (List ℕ × ℕ)))))
    (coded× (code coded_ℕ stored_code) (coded× (code coded_ℕ block_pool_code) (coded× coded_ℕ (coded× (code coded_ℕ mark_pool_code) (coded× (coded_list coded_ℕ) coded_ℕ)))))
    (λ s. (s.objects, (s.blocks, (s.given, (s.marks, (s.opened, s.next_subpool))))))
    (λ t. record { objects = t.0; blocks = t.1.0; given = t.1.1.0; marks = t.1.1.1.0; opened = t.1.1.1.1.0; next_subpool = t.1.1.1.1.1 }) (λ _. refl)

-- nothing yet; subpools are numbered from 1, since 0 names none
abbrev pub no_store : Store
no_store = record { objects = empty; blocks = empty; given = 0; marks = empty; opened = []; next_subpool = 1 }

-- Objects ------------------------------------------------------------------

-- with a new object of the standard pool of so many words, all of them 0
abbrev pub with_object : ℕ → ℕ → Store → Store
with_object n words s = record s { objects = insert s.objects n (record { spot = None; site = None; words = replicate words 0 }) }

-- the words of an object, none for one that is gone
abbrev pub words_of : ℕ → Store → List ℕ
words_of n s = option_map_or (λ o. o.words) (get s.objects n) []

-- so many words from a place on lie within the object, where it is held
abbrev pub IsWithin : ℕ → ℕ → ℕ → Store → Type 0
IsWithin n place count s = IfSome (get s.objects n) (λ o. place + count ≤ length o.words)

-- the word of an object, or the refusal where that is gone
abbrev pub read_word : ℕ → ℕ → Store → Result ℕ StoreFault
read_word n place s = option_map_or (λ o. Ok (slice_index_or o.words place 0)) (get s.objects n) (Err Gone)

-- success, or the refusal where the object is gone
abbrev pub held_or_gone : ℕ → Store → Result (Unit {0}) StoreFault
held_or_gone n s = option_map_or (λ o. Ok tt) (get s.objects n) (Err Gone)

-- the same of two objects
abbrev pub both_or_gone : ℕ → ℕ → Store → Result (Unit {0}) StoreFault
both_or_gone m n s = option_map_or (λ o. held_or_gone n s) (get s.objects m) (Err Gone)

abbrev pub with_words : (List ℕ → List ℕ) → Stored → Stored
with_words f o = record o { words = f o.words }

-- with a word of an object written
abbrev pub with_word : ℕ → ℕ → ℕ → Store → Store
with_word n place value s = record s { objects = change n (with_words (λ words. slice_set words place value)) s.objects }

-- with words of one object written over those of another, or of the same, where both are held
abbrev pub copied : ℕ → ℕ → ℕ → ℕ → ℕ → Store → Store
copied from place to target count s =
    option_map_or (λ o. record s { objects = change to (with_words (overwritten target (run_of place count o.words))) s.objects }) (get s.objects from) s

-- the block that an object leaves behind, none for one of the standard pool
abbrev pub vacated : ℕ → Store → Result (Option Address) StoreFault
vacated n s = option_map_or (λ o. Ok (option_map (λ x. record { 0 = x.address }) o.spot)) (get s.objects n) (Err Gone)

-- Pools of blocks ----------------------------------------------------------

abbrev pub change_pool : ℕ → (BlockPool → BlockPool) → Store → Store
change_pool p f s = record s { blocks = change p f s.blocks }

-- a new pool is open, and each of its blocks is free
abbrev pub with_pool : ℕ → ℕ → ℕ → Store → Store
with_pool p units count s = record s { blocks = insert s.blocks p (record { size = units; free = count; out = empty }) }

-- a request is refused exactly where no block is free or it is larger than a block
abbrev pub is_exhausted : ℕ → BlockPool → Bool
is_exhausted units p = nat_eq p.free 0 || nat_lt p.size units

abbrev pub with_block_out : ℕ → BlockPool → BlockPool
with_block_out a p = record p { free = p.free - 1; out = insert p.out a None }

-- a free block of a pool goes out under an address that was never used before
abbrev pub take_block : ℕ → Store → Store
take_block p s = record (change_pool p (with_block_out (s.given + 1)) s) { given = s.given + 1 }

-- a block is out under an address, and holds no object
abbrev pub is_vacant : ℕ → BlockPool → Bool
is_vacant a p = option_map_or is_none (get p.out a) false

abbrev pub with_block_back : ℕ → BlockPool → BlockPool
with_block_back a p = record p { free = p.free + 1; out = remove p.out a }

-- a block comes back
abbrev pub give_block : ℕ → ℕ → Store → Store
give_block p a s = change_pool p (with_block_back a) s

abbrev pub with_holder : ℕ → Option ℕ → BlockPool → BlockPool
with_holder a n p = record p { out = insert p.out a n }

-- a new object of so many words, all of them 0, is put into a block
abbrev pub hold_block : ℕ → ℕ → ℕ → ℕ → Store → Store
hold_block p a n words s =
    record (change_pool p (with_holder a (Some n)) s) { objects = insert s.objects n (record { spot = Some (record { pool = p; address = a }); site = None; words = replicate words 0 }) }

abbrev pub freed_spot : Option Spot → FinMap nat_cmp BlockPool → FinMap nat_cmp BlockPool
freed_spot None blocks = blocks
freed_spot (Some x) blocks = change x.pool (with_holder x.address None) blocks

-- an object is held no more; its block, where it lies in one, stays out and holds none
abbrev pub without_object : ℕ → Store → Store
without_object n s = record s { objects = remove s.objects n; blocks = freed_spot (option_map_or (λ o. o.spot) (get s.objects n) None) s.blocks }

-- a pool of blocks is open
abbrev pub IsBlockPool : ℕ → Store → Type 0
IsBlockPool p s = IsSome (get s.blocks p)

-- a request of an open pool is refused
abbrev pub is_exhausted_in : ℕ → ℕ → Store → Bool
is_exhausted_in p units s = option_map_or (is_exhausted units) (get s.blocks p) false

-- the sizes that a pool may have: from 1 to 4,096 storage units in a block, and from 1 to 65,536 blocks
abbrev pub IsPoolSize : ℕ → ℕ → Type 0
IsPoolSize units count = (1 ≤ units) × (units ≤ 4096) × (1 ≤ count) × (count ≤ 65536)

-- a block of an open pool is out under an address, and holds no object
abbrev pub is_vacant_in : ℕ → ℕ → Store → Bool
is_vacant_in p a s = option_map_or (is_vacant a) (get s.blocks p) false

-- and it is large enough for a request
abbrev pub is_fit : ℕ → ℕ → BlockPool → Bool
is_fit a units p = is_vacant a p && nat_le units p.size

abbrev pub is_fit_in : ℕ → ℕ → ℕ → Store → Bool
is_fit_in p a units s = option_map_or (is_fit a units) (get s.blocks p) false

-- where an object lies, None for the standard pool
abbrev pub spot_of : ℕ → Store → Option Spot
spot_of n s = option_map_or (λ o. o.spot) (get s.objects n) None

-- an object lies in this pool, in a block or in a subpool
abbrev pub lies_in : ℕ → Stored → Bool
lies_in p o = option_map_or (λ x. nat_eq x.pool p) o.site false || option_map_or (λ x. nat_eq x.pool p) o.spot false

-- Pools with marks ---------------------------------------------------------

-- a pool with marks is open
abbrev pub IsMarkPool : ℕ → Store → Type 0
IsMarkPool p s = IsSome (get s.marks p)

abbrev pub change_marks : ℕ → (MarkPool → MarkPool) → Store → Store
change_marks p f s = record s { marks = change p f s.marks }

-- a new pool with marks is open, with its first subpool
abbrev pub with_mark_pool : ℕ → ℕ → Store → Store
with_mark_pool p units s = record s { marks = insert s.marks p (new_mark_pool units s.next_subpool); opened = s.opened ++ p ∷ []; next_subpool = s.next_subpool + 1 }

-- of the open pools, the first in which a subpool of this number stands
abbrev pub pool_among : ℕ → FinMap nat_cmp MarkPool → List ℕ → Option ℕ
pool_among n marks [] = None
pool_among n marks (p ∷ ps) = cond (option_map_or (has_subpool n) (get marks p) false) (Some p) (pool_among n marks ps)

abbrev pub pool_with : ℕ → Store → Option ℕ
pool_with n s = pool_among n s.marks s.opened

-- a subpool belongs to this pool (RM 13.11.5)
abbrev pub belongs_to : ℕ → ℕ → Store → Bool
belongs_to n p s = option_map_or (belongs n) (get s.marks p) false

-- it is the last one of this pool
abbrev pub is_last_of : ℕ → ℕ → Store → Bool
is_last_of n p s = option_map_or (is_last_in n) (get s.marks p) false

-- a request of this pool is larger than what is left
abbrev pub is_overfull_in : ℕ → ℕ → Store → Bool
is_overfull_in p units s = option_map_or (is_overfull units) (get s.marks p) false

-- as many subpools stand in it as may, ten
abbrev pub is_full : ℕ → Store → Bool
is_full p s = option_map_or (λ m. nat_le 10 (length m.subpools)) (get s.marks p) false

-- why a request in a subpool of a pool is refused, in this order: it stands in no pool, it does not belong to this one, it is not the last, its pool has not so many storage units left
abbrev pub refusal_in : ℕ → ℕ → ℕ → Store → Option StoreFault
refusal_in n p units s =
    cond (is_none (pool_with n s)) (Some Released)
    (cond (not (belongs_to n p s)) (Some Foreign) (cond (not (is_last_of n p s)) (Some NotTop) (cond (is_overfull_in p units s) (Some Exhausted) None)))

-- storage units that are whole words, of 8 each, and at least one word
abbrev pub IsWholeWords : ℕ → Type 0
IsWholeWords units = (0 < units) × (units / 8 * 8 ≡ units)

-- a new object of so many words, all of them 0, is put into a subpool
abbrev pub hold_in : ℕ → ℕ → ℕ → ℕ → Store → Store
hold_in n p object words s =
    record (change_marks p (with_words_used words) s) { objects = insert s.objects object (record { spot = None; site = Some (record { pool = p; subpool = n }); words = replicate words 0 }) }

-- a pool has a further subpool, the last
abbrev pub with_new_subpool : ℕ → Store → Store
with_new_subpool p s = record (change_marks p (with_subpool s.next_subpool) s) { next_subpool = s.next_subpool + 1 }

-- whether a subpool belongs to its pool, None where it stands in none
abbrev pub standing_of : ℕ → Store → Option Standing
standing_of n s = option_and_then (λ p. option_and_then (standing_in n) (get s.marks p)) (pool_with n s)

-- a subpool is the last of the pool in which it stands
abbrev pub is_last : ℕ → Store → Bool
is_last n s = option_map_or (λ p. is_last_of n p s) (pool_with n s) false

-- a subpool belongs to a pool
abbrev pub is_attached : ℕ → Store → Bool
is_attached n s = option_map_or (λ p. belongs_to n p s) (pool_with n s) false

-- a subpool belongs to no pool from now on
abbrev pub detached : ℕ → Store → Store
detached n s = option_map_or (λ p. change_marks p (with_standing n Detached) s) (pool_with n s) s

-- a subpool that belongs to no pool, and is not released
abbrev pub IsDetached : ℕ → Store → Type 0
IsDetached n s = standing_of n s ≡ Some Detached

-- an object lies in this subpool of this pool
abbrev pub lies_in_subpool : ℕ → ℕ → Stored → Bool
lies_in_subpool p n o = option_map_or (λ x. nat_eq x.pool p && nat_eq x.subpool n) o.site false

-- a subpool of a pool is released: its objects are gone, and it is dead; where it is the last it is dropped, with the dead ones before it
abbrev pub released_in : ℕ → ℕ → Store → Store
released_in p n s =
    record (change_marks p (released n s.next_subpool) s) {
      objects = kept (λ o. not (lies_in_subpool p n o)) s.objects;
      next_subpool = s.next_subpool + cond (option_map_or (is_renewed_by n) (get s.marks p) false) 1 0;
    }

abbrev pub released_subpool : ℕ → Store → Store
released_subpool n s = option_map_or (λ p. released_in p n s) (pool_with n s) s

-- Both kinds of pools ------------------------------------------------------

-- a pool is open
abbrev pub is_open : ℕ → Store → Bool
is_open p s = is_some (get s.blocks p) || is_some (get s.marks p)

-- the numbers in a list but one
abbrev pub others : ℕ → List ℕ → List ℕ
others p qs = filter (λ q. not (nat_eq q p)) qs

-- a pool closes: the objects in it are gone, its addresses are out no more, and none of its subpools stands
abbrev pub without_pool : ℕ → Store → Store
without_pool p s =
    record s { objects = kept (λ o. not (lies_in p o)) s.objects; blocks = remove s.blocks p; marks = remove s.marks p; opened = others p s.opened }
