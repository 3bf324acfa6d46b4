-- What a contract sees of a pool of blocks.
use Rattle.std.specs.Prelude.{◌≡◌, refl, ℕ, ◌*◌, ◌<◌, ◌≤◌, ◌⊎◌, length}
use Rattle.std.specs.Coded.{Coded, code_by, coded×, coded_ℕ}
use Rattle.raw_region.specs.Places.{Home, home_code, Region, Cut}
use Rattle.block_pool.specs.FreeList.{IsFreeList, held_count}

-- Which region its blocks lie in, the words in each, how many there are, and how many of them are free.
pub record Pool : Type 0 where
  pub home : Home
  pub block_words : ℕ
  pub count : ℕ
  pub free : ℕ

-- How the logic stores it: as a tuple of its fields.
abbrev pub pool_code : Coded Pool
pool_code =
    code_by (Home × (ℕ × (ℕ × ℕ))) (coded× home_code (coded× coded_ℕ (coded× coded_ℕ coded_ℕ)))
    (λ p. (p.home, (p.block_words, (p.count, p.free)))) (λ t. record { home = t.0; block_words = t.1.0; count = t.1.1.0; free = t.1.1.1 }) (λ _. refl)

-- The sizes that a pool may have: from 1 to 512 words in a block, and from 1 to 65,536 blocks.
abbrev pub IsPoolSize : ℕ → ℕ → Type 0
IsPoolSize words count = (1 ≤ words) × (words ≤ 512) × (1 ≤ count) × (count ≤ 65536)

-- b is a whole block of the pool.
abbrev pub IsBlockOf : Pool → Cut → Type 0
IsBlockOf p b = (b.home ≡ p.home) × (length b.words ≡ p.block_words)

-- The pool has to refuse a request of so many words: no block is free, or none is large enough.
abbrev pub IsRefused : Pool → ℕ → Type 0
IsRefused p words = (p.free ≡ 0) ⊎ (p.block_words < words)

-- The pool with another number of free blocks.
abbrev pub with_free : Pool → ℕ → Pool
with_free p n = record p { free = n }

-- The places of a region are those of `count` blocks of w words: n that are free, in a list from h on, and the others, which are out.
pub record Keeps (r : Region) (w count n h : ℕ) : Type 0 where
  pub size : IsPoolSize w count
  pub places : length r.places ≡ count * w
  pub held : held_count r.places ≡ n * w
  pub listed : IsFreeList r.places w n h
