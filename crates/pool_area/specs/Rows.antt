-- The blocks of the subpools of a pool, and where they lie in it.
use Rattle.std.specs.Prelude.{◌≡◌, ◌≢◌, ℕ, ◌+◌, ◌<◌, ◌≤◌, List, [], ◌∷◌, length, replicate, Option, Some, None, cond, nat_eq, slice_get, IfSome, IsSome, MatchOption, option_and_then}
use Rattle.std.specs.Option.{option_map_or}
use Rattle.std.specs.Vec.{with_item}
use Rattle.raw_region.specs.Places.{Home, Places, place}
use Rattle.mark_pool.specs.Marks.{Marks, size_of}
use Rattle.pool_area.specs.declared.lot.Lot.{Lot}
use Rattle.pool_area.specs.declared.subpool.Subpool.{Subpool}
use Rattle.pool_area.specs.Lots.{Held, held_in, words_in, IsFilled, IsSameBlock}

module _ {A : Type 0} where
  -- no subpool before this place has the number
  abbrev pub NoneBefore : ℕ → ℕ → List (Subpool A) → Type 0
  NoneBefore n i rows = (k : ℕ) → k < i → IfSome (slice_get rows k) (λ r. r.number ≢ n)

  abbrev pub NoneHas : ℕ → List (Subpool A) → Type 0
  NoneHas n rows = NoneBefore n (length rows) rows

  -- the subpool at this place is the first with the number
  abbrev pub IsFirst : ℕ → ℕ → List (Subpool A) → Type 0
  IsFirst n i rows = (i < length rows) × IfSome (slice_get rows i) (λ r. r.number ≡ n) × NoneBefore n i rows

  -- the first subpool with a number
  abbrev pub first_of : ℕ → List (Subpool A) → Option (Subpool A)
  first_of n [] = None
  first_of n (r ∷ rs) = cond (nat_eq r.number n) (Some r) (first_of n rs)

  -- that one changed
  abbrev pub change_first : ℕ → (Subpool A → Subpool A) → List (Subpool A) → List (Subpool A)
  change_first n f [] = []
  change_first n f (r ∷ rs) = cond (nat_eq r.number n) (f r ∷ rs) (r ∷ change_first n f rs)

  -- a block of a subpool
  abbrev pub lot_of : ℕ → ℕ → List (Subpool A) → Option Lot
  lot_of n index rows = option_and_then (λ r. slice_get r.lots.items index) (first_of n rows)

  abbrev pub with_lot : ℕ → Lot → Subpool A → Subpool A
  with_lot index lot r = record r { lots = with_item r.lots index lot }

  -- the block keeps its words' place, and f says what it holds
  pub record IsChanged (n index : ℕ) (f : Option Held → Option Held) (lot : Lot) (old new : List (Subpool A)) : Type 0 where
    pub next : Lot
    pub same : IsSameBlock lot next
    pub filled : IsFilled next
    pub holds : held_in next ≡ f (held_in lot)
    pub rows : new ≡ change_first n (with_lot index next) old

  -- only one block of one subpool has changed, where it is there
  abbrev pub IsEdited : ℕ → ℕ → (Option Held → Option Held) → List (Subpool A) → List (Subpool A) → Type 0
  IsEdited n index f old new = MatchOption (lot_of n index old) (new ≡ old) (λ lot. IsChanged n index f lot old new)

  -- each block has room for its object
  abbrev pub AreFilled : List (Subpool A) → Type 0
  AreFilled rows = (n index : ℕ) → IfSome (lot_of n index rows) IsFilled

-- the words of the object in a block, none where there is none
abbrev pub lot_words : Option Lot → List ℕ
lot_words o = option_map_or words_in o []

-- Where the blocks lie ------------------------------------------------------

-- the blocks are of this region, and follow each other from a place on; each has room for its object
abbrev pub AreLots : Home → ℕ → List Lot → Type 0
AreLots home at [] = Unit {0}
AreLots home at (l ∷ ls) = (l.block.home ≡ home) × (l.block.start ≡ at) × IsFilled l × AreLots home (at + length l.block.words) ls

-- the place behind them
abbrev pub end_of : ℕ → List Lot → ℕ
end_of at [] = at
end_of at (l ∷ ls) = end_of (at + length l.block.words) ls

-- and so do those of one subpool after the other
abbrev pub AreStacked : {A : Type 0} → Home → ℕ → List (Subpool A) → Type 0
AreStacked home at [] = Unit {0}
AreStacked home at (r ∷ rs) = (r.start ≡ at) × AreLots home at r.lots.items × AreStacked home (end_of at r.lots.items) rs

abbrev pub rows_end : {A : Type 0} → ℕ → List (Subpool A) → ℕ
rows_end at [] = at
rows_end at (r ∷ rs) = rows_end (end_of at r.lots.items) rs

-- all words from a place on are in the region
abbrev pub HeldFrom : ℕ → Places → Type 0
HeldFrom at ps = (k : ℕ) → at ≤ k → k < length ps → IsSome (place ps k)

-- blocks came back, and nothing else has changed
pub record IsBack (old new : Marks) : Type 0 where
  pub home : new.home ≡ old.home
  pub used : new.used ≡ old.used
  pub top : new.top ≡ old.top
  pub older : new.older ≡ old.older
  pub issued : new.issued ≡ old.issued
  pub size : size_of new ≡ size_of old

-- the next words of the pool, with a new object in them, all of its words 0
pub record IsFresh (pool : Marks) (object words : ℕ) (lot : Lot) : Type 0 where
  pub home : lot.block.home ≡ pool.home
  pub start : lot.block.start ≡ pool.used
  pub long : length lot.block.words ≡ words
  pub filled : IsFilled lot
  pub holds : held_in lot ≡ Some (record { object = object; words = replicate words 0 })
