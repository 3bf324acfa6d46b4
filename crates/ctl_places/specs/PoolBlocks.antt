-- The library's Allocate and Deallocate: what comes of a request of a block, and of a block that is given back (13.11).
use Rattle.std.specs.Prelude.{◌≡◌, ℕ, ◌+◌, List, [], ◌∷◌, ◌++◌, Option, Some, None, Bool, false, drop, reverse, slice_get}
use Rattle.std.specs.Option.{option_map_or}
use Rattle.ctl_tree.specs.declared.ending.Stop.{Stop}
use Rattle.ctl_meaning.specs.Finalization.{Spot}
use Rattle.ctl_meaning.specs.Pools.{block_pool_at}
use Rattle.ctl_meaning.specs.World as W
use Rattle.ctl_meaning.specs.World.{InBlock, World}
use Rattle.ctl_objects.specs.Pools.{ShowsPools}
use Rattle.ctl_objects.specs.Stock.{Stock}
use Rattle.ctl_code.specs.declared.kinds.Kind.{Kind}
use Rattle.ctl_code.specs.declared.code.Code.{Code}
use Rattle.ctl_code.specs.Kinds.{stack_at}
use Rattle.ctl_code.specs.States.{State, Word, Scalar, object_of}
use Rattle.ctl_code.specs.Table.{Grant, Granted, Exhausted, UnknownPool, pool_grant, GivenBack, Returned, NotReturned}
use Rattle.ctl_code.specs.Valid.{Leads}
use Rattle.ctl_code.specs.Windows.{height}
use Rattle.ctl_engine.specs.declared.engine.Engine.{Engine}
use Rattle.ctl_places.specs.declared.pool_blocks.Request.{Request}
use Rattle.ctl_places.specs.declared.pool_blocks.Request.TheVariants as RequestOf
use Rattle.ctl_frames.specs.Masters.{first_window}
use Rattle.ctl_engine.specs.Moves.{Inside}
use Rattle.ctl_engine.specs.Shows.{kept, with_spots}
use Rattle.ctl_frames.specs.Spots.{located, standing}

-- there is a pool of this number, and it is open
abbrev pub is_open_at : ℕ → W.Pools → Bool
is_open_at n x = option_map_or (λ p. p.is_open) (block_pool_at n x) false

-- what a call answers where this comes of a request of a block in a world: the pools are shown then
abbrev pub IsServed : ℕ → World → Stock → Grant → Request → Type 0
IsServed next w stock (Granted (InBlock n a) v) answer = (answer ≡ RequestOf.Taken a) × (x : W.Pools) × (v ≡ record w { pools = x }) × ShowsPools next x stock
IsServed next w stock Exhausted answer = (answer ≡ RequestOf.Exhausted) × ShowsPools next w.pools stock
IsServed next w stock UnknownPool answer = (answer ≡ RequestOf.Unknown) × ShowsPools next w.pools stock
IsServed next w stock _ answer = ⊥

-- what a call answers where this comes of a block that is given back to a pool
abbrev pub IsAccepted : ℕ → World → Stock → GivenBack → Option Stop → Type 0
IsAccepted next w stock (Returned v) answer = (answer ≡ None) × (x : W.Pools) × (v ≡ record w { pools = x }) × ShowsPools next x stock
IsAccepted next w stock (NotReturned stop) answer = (answer ≡ Some stop) × ShowsPools next w.pools stock
IsAccepted next w stock _ answer = ⊥

-- Operands ---------------------------------------------------------------------------------------------

-- what comes of the request that these operands are, in a world
abbrev pub grant_in : List Word → World → Grant
grant_in (Scalar alignment ∷ Scalar size ∷ x ∷ ops) w = pool_grant (object_of x) size (block_pool_at (object_of x) w.pools) w
grant_in _ w = UnknownPool

-- the world then
abbrev pub world_of : Grant → World → World
world_of (Granted place v) w = v
world_of _ w = w

-- of these operands the second is asked for, under so many newer ones, and the third is the pool, the newest part; this is left without them
pub record IsAsked (code : Code) (e : Engine) (place under : ℕ) (s : State) (ops : List Word) : Type 0 where
  pub upper : ℕ
  pub value : ℕ
  pub pool : Spot
  pub word : Word
  pub rest : List Word
  pub below : List Kind
  pub are : ops ≡ Scalar upper ∷ Scalar value ∷ word ∷ rest
  pub object : object_of word ≡ pool.object
  pub read : slice_get e.cells.items (first_window (reverse e.masters.items) + height (drop under (stack_at code.kinds place))) ≡ Some value
  pub spots : e.spots.items ≡ standing s.control rest ++ pool ∷ []
  pub leads : Leads code (place + 1) below
  pub left : Inside code (with_spots (kept e) (standing s.control rest)) below s.control rest s.world

-- A component takes the address ------------------------------------------------------------------------

-- what comes of the request that these operands are, in a world, where the part that has the component stands over the pool
abbrev pub grant_into : List Word → World → Grant
grant_into (Scalar alignment ∷ Scalar size ∷ part ∷ pool ∷ ops) w = pool_grant (object_of pool) size (block_pool_at (object_of pool) w.pools) w
grant_into _ w = UnknownPool

-- the size that is asked for stands below the alignment, the part that has the component below both, the newest one, and the pool below that;
-- this is left without them
pub record IsAskedInto (code : Code) (e : Engine) (place : ℕ) (s : State) : Type 0 where
  pub alignment : ℕ
  pub size : ℕ
  pub part : Spot
  pub pool : Spot
  pub over : Word
  pub word : Word
  pub rest : List Word
  pub below : List Kind
  pub are : s.operands ≡ Scalar alignment ∷ Scalar size ∷ over ∷ word ∷ rest
  pub stands : located (over ∷ []) ≡ part ∷ []
  pub object : object_of word ≡ pool.object
  pub read : slice_get e.cells.items (first_window (reverse e.masters.items) + height (drop 2 (stack_at code.kinds place))) ≡ Some size
  pub spots : e.spots.items ≡ (standing s.control rest ++ pool ∷ []) ++ part ∷ []
  pub leads : Leads code (place + 1) below
  pub left : Inside code (with_spots (kept e) (standing s.control rest)) below s.control rest s.world

-- a part, or the value of a record, stands over a pool and what a state has below both
pub record StandsOnPool (code : Code) (e : Engine) (place : ℕ) (over : Word) (s : State) : Type 0 where
  pub part : Spot
  pub stands : located (over ∷ []) ≡ part ∷ []
  pub pool : Spot
  pub below : List Kind
  pub spots : e.spots.items ≡ (standing s.control s.operands ++ pool ∷ []) ++ part ∷ []
  pub leads : Leads code (place + 1) below
  pub left : Inside code (with_spots (kept e) (standing s.control s.operands)) below s.control s.operands s.world
