-- What a contract sees of a pool of blocks that is kept with its blocks that are out.
use Rattle.std.specs.Prelude.{◌≡◌, refl, ℕ, ◌+◌, List, length, All}
use Rattle.std.specs.Coded.{Coded, code_by, coded×, coded_ℕ}
use Rattle.raw_region.specs.Places.{Cut}
use Rattle.block_pool.specs.Pool.{Pool, IsBlockOf}

-- How many blocks are free, and how many lie on the shelf.
pub record Shelves : Type 0 where
  pub free : ℕ
  pub taken : ℕ

-- How the logic stores it: as a pair.
abbrev pub shelves_code : Coded Shelves
shelves_code = code_by (ℕ × ℕ) (coded× coded_ℕ coded_ℕ) (λ s. (s.free, s.taken)) (λ t. record { free = t.0; taken = t.1 }) (λ _. refl)

-- The blocks are all those of the pool that are out.
pub record AreOut (pool : Pool) (blocks : List Cut) : Type 0 where
  pub whole : All (λ b. IsBlockOf pool b) blocks
  pub all : pool.free + length blocks ≡ pool.count
