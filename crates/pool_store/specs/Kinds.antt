-- Which pools are open under a number.
use Rattle.std.specs.Prelude.{◌≡◌, ℕ, None}
use Rattle.std.specs.FinMap.{get}
use Rattle.pool_store.specs.declared.kind.PoolKind.{PoolKind}
use Rattle.pool_store.specs.declared.kind.PoolKind.TheVariants.{Blocks, Marks, Both}
use Rattle.pool_store.specs.Store.{Store, IsBlockPool, IsMarkPool}

-- of either kind, these and no others are
abbrev pub IsKind : PoolKind → ℕ → Store → Type 0
IsKind Blocks p s = IsBlockPool p s × (get s.marks p ≡ None)
IsKind Marks p s = (get s.blocks p ≡ None) × IsMarkPool p s
IsKind Both p s = IsBlockPool p s × IsMarkPool p s

-- no pool is
abbrev pub IsNoPool : ℕ → Store → Type 0
IsNoPool p s = (get s.blocks p ≡ None) × (get s.marks p ≡ None)
