-- A block goes out of a pool, and a variable takes its address; a block comes back to its pool (13.11): what the instructions make of it.
use Rattle.std.proofs.Common.{◌≡◌, ℕ, ◌+◌, ◌-◌, ◌<◌, List, [], ◌∷◌, ◌++◌, Option, Some, None, drop, length, refl, sym, ap, ◌∙◌, subst, reverse, arith}
use Rattle.std.specs.Prelude.{slice_get, slice_index_or}
use Rattle.std.proofs.lemmas.List.{append-nil}
use Rattle.std.proofs.lemmas.Option.{slice_get_within}
use Rattle.ctl_program.specs.declared.types.Ty.TheVariants.{Address, Count}
use Rattle.ctl_tree.specs.declared.ending.Stop.{Stop}
use Rattle.ctl_tree.specs.declared.ending.Stop.TheVariants.{UseAfterFree}
use Rattle.ctl_meaning.specs.Finalization.{Spot}
use Rattle.ctl_meaning.specs.Outcome.{ByRaise, storage_error}
use Rattle.ctl_meaning.specs.Pools.{block_pool_at}
use Rattle.ctl_meaning.specs.World as W
use Rattle.ctl_meaning.specs.World.{InBlock, InSubpool, Object, Standard, World}
use Rattle.ctl_objects.specs.Pools.{ShowsPools}
use Rattle.ctl_objects.specs.Stock.{Stock}
use Rattle.ctl_code.specs.declared.kinds.Kind.{Kind}
use Rattle.ctl_code.specs.declared.kinds.Kind.TheVariants.{Operand}
use Rattle.ctl_code.specs.declared.code.Code.{Code}
use Rattle.ctl_code.specs.declared.code.Instr.TheVariants.{GiveBlock, TakeBlock}
use Rattle.ctl_code.specs.declared.code.Way.TheVariants as WayOf
use Rattle.ctl_code.specs.Kinds.{stack_at}
use Rattle.ctl_code.specs.States as T
use Rattle.ctl_code.specs.States.{At, Located, Move, Scalar, State, Word}
use Rattle.ctl_code.specs.Table.{AllocateOf, DeallocateOf, Exhausted, GivenBack, Grant, Granted, NotReturned, Returned, UnknownPool, block_given, block_taken, by_give_block, by_take_block, gone, pool_grant, pool_return, quiet, stopped, transfers, with_cell}
use Rattle.ctl_code.specs.Valid.{DropsPart}
use Rattle.ctl_code.specs.Windows.{height}
use Rattle.ctl_engine.specs.declared.engine.Engine.{Engine}
use Rattle.ctl_frames.specs.declared.frame.Mode.{Mode}
use Rattle.ctl_frames.specs.declared.frame.Mode.TheVariants as ModeOf
use Rattle.ctl_places.specs.declared.pool_blocks.Request.{Request}
use Rattle.ctl_places.specs.declared.pool_blocks.Request.TheVariants as RequestOf
use Rattle.ctl_frames.specs.Masters.{first_display, first_window, heads_of}
use Rattle.ctl_engine.specs.Moves.{Before, Inside, Makes, here_of}
use Rattle.ctl_frames.specs.Owned.{AreOwned}
use Rattle.ctl_places.specs.PoolBlocks.{IsAccepted, IsAsked, IsServed, grant_in, world_of}
use Rattle.ctl_engine.specs.Shows.{Holds, Kept, ShowsMode, kept, with_spots}
use Rattle.ctl_frames.specs.Spots.{KeepsSpots, first_spot, standing}
use Rattle.ctl_engine.specs.Variables.{Gives}
use Rattle.ctl_engine.proofs.Blocks.{stack_is}
use Rattle.ctl_engine.proofs.Computed.{same_value}
use Rattle.ctl_engine.proofs.Following.{makes_later}
use Rattle.ctl_frames.proofs.Links.{got}
use Rattle.ctl_places.proofs.Located.{goes_keeping}
use Rattle.ctl_engine.proofs.Operands.{AreNewest, are_newest, has_part, is_newest}
use Rattle.ctl_engine.proofs.Plain.{Becomes, leaves_makes, no_operands}
use Rattle.ctl_engine.proofs.Stocked.{stock_holds, with_stock}
use Rattle.ctl_places.proofs.Stored.{gives_makes}
use Rattle.ctl_frames.proofs.Words.{many_of, newest_read, same_front}

-- The pool, and the values over it ---------------------------------------------------------------------

-- a value over the pool
is_asked : (code : Code) (e : Engine) (place under at t : ℕ) (stack : List Kind) (s : State) (ops : List Word) → AreNewest code (kept e) at stack s.control ops s.world → DropsPart code place t stack → at ≡ height (drop under (stack_at code.kinds place)) → IsAsked code e place under s ops
is_asked code e place under at t stack s ops n drops is =
    let p = has_part code (kept e) t drops.0 s.control n.rest s.world (subst (λ (l : List Kind). Inside code (kept e) l s.control n.rest s.world) drops.1 n.left) in
    record {
      upper = n.upper;
      value = n.lower;
      pool = first_spot n.rest;
      word = p.top;
      object = p.object;
      rest = drop 1 n.rest;
      below = drops.0;
      are = n.are ∙ ap (λ (l : List Word). Scalar n.upper ∷ Scalar n.lower ∷ l) p.are;
      read = subst (λ c. slice_get e.cells.items (first_window (reverse e.masters.items) + c) ≡ Some n.lower) is n.lower_read;
      spots = p.spots;
      leads = drops.2;
      left = p.left;
    }

-- a size
pub size_asked : (code : Code) (e : Engine) (place t out slot : ℕ) (s : State) → Before code e place (TakeBlock t out slot) s → IsAsked code e place 2 s s.operands
size_asked code e place t out slot s b =
    let under = b.fine.0 in
    let n = are_newest code (kept e) (height under.0) Count Count under.0 s.control s.operands s.world tt tt (subst (λ (l : List Kind). Inside code (kept e) l s.control s.operands s.world) under.1 b.inside) refl in
    is_asked code e place 2 (height under.0) t under.0 s s.operands n under.2 (ap (λ (l : List Kind). height (drop 2 l)) (sym (stack_is code place b.stack b.leads ∙ under.1)))

-- an address, below one more value
pub record IsReturned (code : Code) (e : Engine) (place : ℕ) (s : State) : Type 0 where
  pub alignment : ℕ
  pub are : s.operands ≡ Scalar alignment ∷ drop 1 s.operands
  pub asked : IsAsked code e place 3 s (drop 1 s.operands)

-- before a block is given back
pub address_asked : (code : Code) (e : Engine) (place t : ℕ) (s : State) → Before code e place (GiveBlock t) s → IsReturned code e place s
address_asked code e place t s b =
    let under = b.fine in
    let u = is_newest code (kept e) (height (Operand Count ∷ Operand Address ∷ under.0)) Count (Operand Count ∷ Operand Address ∷ under.0) s.control s.operands s.world tt (subst (λ (l : List Kind). Inside code (kept e) l s.control s.operands s.world) under.1 b.inside) refl in
    let others : u.rest ≡ drop 1 s.operands = sym (ap (λ (l : List Word). drop 1 l) u.are) in
    let n = are_newest code (kept e) (height under.0) Address Count under.0 s.control (drop 1 s.operands) s.world tt tt (subst (λ (l : List Word). Inside code (kept e) (Operand Count ∷ Operand Address ∷ under.0) s.control l s.world) others u.left) refl in
    record {
      alignment = u.value;
      are = u.are ∙ ap (λ (l : List Word). Scalar u.value ∷ l) others;
      asked = is_asked code e place 3 (height under.0) t under.0 s (drop 1 s.operands) n under.2 (ap (λ (l : List Kind). height (drop 3 l)) (sym (stack_is code place b.stack b.leads ∙ under.1)));
    }

-- a cell of the newest window with this value is there
pub value_within : (e : Engine) (at value : ℕ) → slice_get e.cells.items (first_window (reverse e.masters.items) + at) ≡ Some value → first_window (reverse e.masters.items) + at < length e.cells.items
value_within e at value is = slice_get_within e.cells.items (first_window (reverse e.masters.items) + at) value is

-- and is read
pub value_read : (e : Engine) (at value window there x : ℕ) → slice_get e.cells.items (first_window (reverse e.masters.items) + at) ≡ Some value → window ≡ first_window (reverse e.masters.items) → there ≡ at → x ≡ slice_index_or e.cells.items (window + there) x → x ≡ value
value_read e at value window there x value_is first is read =
    let cell = first_window (reverse e.masters.items) + at in
    let same : window + there ≡ cell = ap (λ n. n + there) first ∙ ap (λ n. first_window (reverse e.masters.items) + n) is in
    same_value x value (slice_get e.cells.items cell) (got e.cells.items cell x (value_within e at value value_is) (subst (λ n. x ≡ slice_index_or e.cells.items n x) same read)) value_is

pub asked_within : (code : Code) (e : Engine) (place under : ℕ) (s : State) (ops : List Word) → IsAsked code e place under s ops → first_window (reverse e.masters.items) + height (drop under (stack_at code.kinds place)) < length e.cells.items
asked_within code e place under s ops a = value_within e (height (drop under (stack_at code.kinds place))) a.value a.read

pub asked_read : (code : Code) (e : Engine) (place under window at x : ℕ) (s : State) (ops : List Word) → (a : IsAsked code e place under s ops) → window ≡ first_window (reverse e.masters.items) → at ≡ height (drop under (stack_at code.kinds place)) → x ≡ slice_index_or e.cells.items (window + at) x → x ≡ a.value
asked_read code e place under window at x s ops a first is read = value_read e (height (drop under (stack_at code.kinds place))) a.value window at x a.read first is read

-- the pool is read
pub pool_read : (code : Code) (e : Engine) (place under n count : ℕ) (x : Spot) (s : State) (ops : List Word) → (a : IsAsked code e place under s ops) → count ≡ length e.spots.items → x ≡ slice_index_or e.spots.items (count - 1) x → n ≡ x.object → n ≡ a.pool.object
pool_read code e place under n count x s ops a many read is = is ∙ ap (λ (y : Spot). y.object) (newest_read e.spots.items (standing s.control a.rest) a.pool x count a.spots many read)

-- and dropped
pub pool_dropped : (code : Code) (e : Engine) (place under : ℕ) (xs : List Spot) (x : Spot) (s : State) (ops : List Word) → (a : IsAsked code e place under s ops) → e.spots.items ≡ xs ++ x ∷ [] → xs ≡ standing s.control a.rest
pool_dropped code e place under xs x s ops a is = (same_front xs (standing s.control a.rest) x a.pool (sym is ∙ a.spots)).0

-- some part is there
pub some_part : (code : Code) (e : Engine) (place under : ℕ) (s : State) (ops : List Word) → IsAsked code e place under s ops → 0 < length e.spots.items
some_part code e place under s ops a = let many = many_of e.spots.items (standing s.control a.rest) a.pool a.spots in omega (arith, many)

-- Other pools ------------------------------------------------------------------------------------------

-- the stock shows other pools, which the table has, too
pub with_shown : (code : Code) (e : Kept) (t : Stock) (y : W.Pools) (stack : List Kind) (k : List T.Frame) (ops : List Word) (w : World) → Inside code e stack k ops w → t.objects ≡ e.objects → t.needs ≡ e.needs → ShowsPools e.next_object y t
    → Inside code (with_stock t e) stack k ops (record w { pools = y })
with_shown code e t y stack k ops w i objects needs shown = record {
  stands = i.stands;
  sized = i.sized;
  holds = stock_holds code e t w.objects y k ops w i.holds (i.holds.objects ∙ sym objects) needs shown (subst (λ (l : List Object). AreOwned e.owned e.next_object l) (sym objects) i.holds.owns);
  spots = i.spots;
}

-- the program is erroneous
pub stops_makes : (code : Code) (old new : Engine) (e : Kept) (stop : Stop) (k : List T.Frame) (ops : List Word) (w : World) → Holds code e k ops w → new.mode ≡ ModeOf.Stopped stop → kept new ≡ e → new.events.items ≡ old.events.items → new.picks.items ≡ old.picks.items → Makes code old new (stopped stop k w)
stops_makes code old new e stop k ops w h mode kept_is events picks = record {
  mode = subst (λ (m : Mode). ShowsMode code m (T.Stopped stop) k (heads_of w.activations)) (sym mode) refl;
  holds = subst (λ (x : Kept). Holds code x k [] w) (sym kept_is) (no_operands code e k ops w h);
  spots = subst (λ (m : Mode). KeepsSpots m new.spots.items k []) (sym mode) tt;
  shows = events ∙ sym (append-nil old.events.items);
  picks = picks;
}

-- A block comes back -----------------------------------------------------------------------------------

-- the table's move, by what stands there
give_move : (code : Code) (e : Engine) (place : ℕ) (s : State) → (g : IsReturned code e place s) → by_give_block s.operands (here_of place s) ≡ block_given (pool_return g.asked.pool.object g.asked.value (block_pool_at g.asked.pool.object s.world.pools) s.world) g.asked.rest (here_of place s)
give_move code e place s g =
    let a = g.asked in
    ap (λ (l : List Word). by_give_block l (here_of place s)) (g.are ∙ ap (λ (l : List Word). Scalar g.alignment ∷ l) a.are)
    ∙ ap (λ n. block_given (pool_return n a.value (block_pool_at n s.world.pools) s.world) a.rest (here_of place s)) a.object

-- what comes of it, of the pool and the address that stand there
abbrev pub OnReturn : (code : Code) (e : Engine) (place : ℕ) (s : State) → IsReturned code e place s → Stock → Option Stop → Type 0
OnReturn code e place s g t r = let n = g.asked.pool.object in IsAccepted (kept e).next_object s.world t (pool_return n g.asked.value (block_pool_at n s.world.pools) s.world) r

-- and so by what a call said of them
pub accepted_so : (code : Code) (e : Engine) (place n a : ℕ) (s : State) (t : Stock) (r r' : Option Stop) → (g : IsReturned code e place s) → n ≡ g.asked.pool.object → a ≡ g.asked.value → r ≡ r'
    → IsAccepted (kept e).next_object s.world t (pool_return n a (block_pool_at n s.world.pools) s.world) r → OnReturn code e place s g t r'
accepted_so code e place n a s t r r' g pool address same accepted =
    let next = (kept e).next_object in
    let w = s.world in
    subst (λ y. OnReturn code e place s g t y) same
    (subst (λ x. IsAccepted next w t (pool_return g.asked.pool.object x (block_pool_at g.asked.pool.object w.pools) w) r) address
    (subst (λ x. IsAccepted next w t (pool_return x a (block_pool_at x w.pools) w) r) pool accepted))

-- the pool took it
pub given_makes : (code : Code) (old new : Engine) (place : ℕ) (s : State) (t : Stock) → (g : IsReturned code old place s) → OnReturn code old place s g t None
    → t.objects ≡ old.stock.objects → t.needs ≡ old.stock.needs → new.mode ≡ ModeOf.At (place + 1) → kept new ≡ with_stock t (with_spots (kept old) (standing s.control g.asked.rest)) → new.events.items ≡ old.events.items → new.picks.items ≡ old.picks.items
    → Makes code old new (by_give_block s.operands (here_of place s))
given_makes code old new place s t g accepted objects needs mode kept_is events picks =
    subst (λ (m : Move). Makes code old new m) (sym (give_move code old place s g)) (by (pool_return a.pool.object a.value (block_pool_at a.pool.object s.world.pools) s.world) accepted)
  where
    a : IsAsked code old place 3 s (drop 1 s.operands)
    a = g.asked

    e : Kept
    e = with_spots (kept old) (standing s.control a.rest)

    by : (r : GivenBack) → IsAccepted (kept old).next_object s.world t r None → Makes code old new (block_given r a.rest (here_of place s))
    by (Returned v) x =
        let y = x.1 in
        let i = with_shown code e t y a.below s.control a.rest s.world a.left objects needs x.3 in
        let made = goes_keeping code old new (with_stock t e) (place + 1) a.below s.control a.rest (record s.world { pools = y }) a.leads i mode kept_is events picks in
        subst (λ (v : World). Makes code old new (quiet (At (first_display (heads_of s.world.activations)) (place + 1)) s.control a.rest v)) (sym x.2) made
    by (NotReturned stop) x = absurd (cc)
    by (DeallocateOf o n f) x = absurd x

-- and where it did not, the program is erroneous
pub refused_makes : (code : Code) (old new : Engine) (place : ℕ) (stop : Stop) (s : State) (stack : List Kind) (t : Stock) → (g : IsReturned code old place s) → Inside code (kept old) stack s.control s.operands s.world → OnReturn code old place s g t (Some stop)
    → t.objects ≡ old.stock.objects → t.needs ≡ old.stock.needs → new.mode ≡ ModeOf.Stopped stop → kept new ≡ with_stock t (kept old) → new.events.items ≡ old.events.items → new.picks.items ≡ old.picks.items → Makes code old new (by_give_block s.operands (here_of place s))
refused_makes code old new place stop s stack t g inside accepted objects needs mode kept_is events picks =
    subst (λ (m : Move). Makes code old new m) (sym (give_move code old place s g)) (by (pool_return a.pool.object a.value (block_pool_at a.pool.object s.world.pools) s.world) accepted)
  where
    a : IsAsked code old place 3 s (drop 1 s.operands)
    a = g.asked

    by : (r : GivenBack) → IsAccepted (kept old).next_object s.world t r (Some stop) → Makes code old new (block_given r a.rest (here_of place s))
    by (Returned v) x = absurd (cc)
    by (NotReturned other) x =
        let same : stop ≡ other = cc in
        let i = with_shown code (kept old) t s.world.pools stack s.control s.operands s.world inside objects needs x.1 in
        subst (λ z. Makes code old new (stopped z s.control s.world)) same (stops_makes code old new (with_stock t (kept old)) stop s.control s.operands s.world i.holds mode kept_is events picks)
    by (DeallocateOf o n f) x = absurd x

-- A block goes out -------------------------------------------------------------------------------------

-- the table's move, by what comes of the request
take_move : (code : Code) (e : Engine) (place out slot : ℕ) (s : State) → (a : IsAsked code e place 2 s s.operands) → by_take_block out slot s.operands (here_of place s) ≡ block_taken out slot (grant_in s.operands s.world) a.rest (here_of place s)
take_move code e place out slot s a =
    ap (λ (l : List Word). by_take_block out slot l (here_of place s)) a.are
    ∙ ap (λ (l : List Word). block_taken out slot (grant_in l s.world) a.rest (here_of place s)) (sym a.are)

-- what comes of it, of the pool and the size that stand there
abbrev pub OnRequest : Engine → State → Stock → Request → Type 0
OnRequest e s t r = IsServed (kept e).next_object s.world t (grant_in s.operands s.world) r

-- and so by what a call said of them
pub served_so : (code : Code) (e : Engine) (place n size : ℕ) (s : State) (t : Stock) (r r' : Request) → (a : IsAsked code e place 2 s s.operands) → n ≡ a.pool.object → size ≡ a.value → r ≡ r' → IsServed (kept e).next_object s.world t (pool_grant n size (block_pool_at n s.world.pools) s.world) r → OnRequest e s t r'
served_so code e place n size s t r r' a pool value same served =
    let next = (kept e).next_object in
    let w = s.world in
    subst (λ y. OnRequest e s t y) same
    (subst (λ (l : List Word). IsServed next w t (grant_in l w) r) (sym a.are)
    (subst (λ n. IsServed next w t (pool_grant n a.value (block_pool_at n w.pools) w) r) (sym a.object)
    (subst (λ x. IsServed next w t (pool_grant a.pool.object x (block_pool_at a.pool.object w.pools) w) r) value
    (subst (λ x. IsServed next w t (pool_grant x size (block_pool_at x w.pools) w) r) pool served))))

-- no block is free, or each is smaller, whatever takes an address
pub exhausted_by : (code : Code) (old new : Engine) (s : State) (stack : List Kind) (t : Stock) (f : Grant → Move) (r : Grant) → f Exhausted ≡ transfers (ByRaise storage_error) s.control s.world → Inside code (kept old) stack s.control s.operands s.world
    → IsServed (kept old).next_object s.world t r RequestOf.Exhausted → t.objects ≡ old.stock.objects → t.needs ≡ old.stock.needs → Becomes old new (ModeOf.Transfers (WayOf.Raise 2)) (with_stock t (kept old)) → Makes code old new (f r)
unfolding storage_error
exhausted_by code old new s stack t f (Granted Standard v) leaves inside x objects needs becomes = absurd x
exhausted_by code old new s stack t f (Granted (InBlock n b) v) leaves inside x objects needs becomes = absurd (cc)
exhausted_by code old new s stack t f (Granted (InSubpool n) v) leaves inside x objects needs becomes = absurd x
exhausted_by code old new s stack t f Exhausted leaves inside x objects needs becomes =
    subst (λ (m : Move). Makes code old new m) (sym leaves)
    (leaves_makes code old new (with_stock t (kept old)) (WayOf.Raise 2) tt stack s.control s.operands s.world (with_shown code (kept old) t s.world.pools stack s.control s.operands s.world inside objects needs x.1) becomes)
exhausted_by code old new s stack t f UnknownPool leaves inside x objects needs becomes = absurd (cc)
exhausted_by code old new s stack t f (AllocateOf o p) leaves inside x objects needs becomes = absurd x

-- there is no such pool, or it has closed
pub unknown_by : (code : Code) (old new : Engine) (s : State) (stack : List Kind) (t : Stock) (f : Grant → Move) (r : Grant) → f UnknownPool ≡ gone s.control s.world → Inside code (kept old) stack s.control s.operands s.world
    → IsServed (kept old).next_object s.world t r RequestOf.Unknown → t.objects ≡ old.stock.objects → t.needs ≡ old.stock.needs → Becomes old new (ModeOf.Stopped UseAfterFree) (with_stock t (kept old)) → Makes code old new (f r)
unknown_by code old new s stack t f (Granted Standard v) stops inside x objects needs becomes = absurd x
unknown_by code old new s stack t f (Granted (InBlock n b) v) stops inside x objects needs becomes = absurd (cc)
unknown_by code old new s stack t f (Granted (InSubpool n) v) stops inside x objects needs becomes = absurd x
unknown_by code old new s stack t f Exhausted stops inside x objects needs becomes = absurd (cc)
unknown_by code old new s stack t f UnknownPool stops inside x objects needs becomes =
    let i = with_shown code (kept old) t s.world.pools stack s.control s.operands s.world inside objects needs x.1 in
    subst (λ (m : Move). Makes code old new m) (sym stops)
    (stops_makes code old new (with_stock t (kept old)) UseAfterFree s.control s.operands s.world i.holds becomes.mode becomes.kept becomes.events becomes.picks)
unknown_by code old new s stack t f (AllocateOf o p) stops inside x objects needs becomes = absurd x

-- the table's world has the block out
pub out_inside : (code : Code) (e : Kept) (below : List Kind) (k : List T.Frame) (rest : List Word) (w : World) (t : Stock) (r : Grant) (address : ℕ) → Inside code e below k rest w → IsServed e.next_object w t r (RequestOf.Taken address) → t.objects ≡ e.objects → t.needs ≡ e.needs → Inside code (with_stock t e) below k rest (world_of r w)
out_inside code e below k rest w t (Granted Standard v) address i x objects needs = absurd x
out_inside code e below k rest w t (Granted (InBlock n b) v) address i x objects needs = subst (λ (u : World). Inside code (with_stock t e) below k rest u) (sym x.2) (with_shown code e t x.1 below k rest w i objects needs x.3)
out_inside code e below k rest w t (Granted (InSubpool n) v) address i x objects needs = absurd x
out_inside code e below k rest w t Exhausted address i x objects needs = absurd (cc)
out_inside code e below k rest w t UnknownPool address i x objects needs = absurd (cc)
out_inside code e below k rest w t (AllocateOf o f) address i x objects needs = absurd x

pub exhausted_makes : (code : Code) (old new : Engine) (place out slot : ℕ) (s : State) (stack : List Kind) (t : Stock) → IsAsked code old place 2 s s.operands → Inside code (kept old) stack s.control s.operands s.world → OnRequest old s t RequestOf.Exhausted
    → t.objects ≡ old.stock.objects → t.needs ≡ old.stock.needs → Becomes old new (ModeOf.Transfers (WayOf.Raise 2)) (with_stock t (kept old)) → Makes code old new (by_take_block out slot s.operands (here_of place s))
exhausted_makes code old new place out slot s stack t a inside served objects needs becomes =
    subst (λ (m : Move). Makes code old new m) (sym (take_move code old place out slot s a))
    (exhausted_by code old new s stack t (λ g. block_taken out slot g a.rest (here_of place s)) (grant_in s.operands s.world) refl inside served objects needs becomes)

pub unknown_makes : (code : Code) (old new : Engine) (place out slot : ℕ) (s : State) (stack : List Kind) (t : Stock) → IsAsked code old place 2 s s.operands → Inside code (kept old) stack s.control s.operands s.world → OnRequest old s t RequestOf.Unknown
    → t.objects ≡ old.stock.objects → t.needs ≡ old.stock.needs → Becomes old new (ModeOf.Stopped UseAfterFree) (with_stock t (kept old)) → Makes code old new (by_take_block out slot s.operands (here_of place s))
unknown_makes code old new place out slot s stack t a inside served objects needs becomes =
    subst (λ (m : Move). Makes code old new m) (sym (take_move code old place out slot s a))
    (unknown_by code old new s stack t (λ g. block_taken out slot g a.rest (here_of place s)) (grant_in s.operands s.world) refl inside served objects needs becomes)

-- the pool and the values over it are dropped
pub block_out : (code : Code) (old : Engine) (place address : ℕ) (s : State) (t : Stock) → (a : IsAsked code old place 2 s s.operands) → OnRequest old s t (RequestOf.Taken address) → t.objects ≡ old.stock.objects → t.needs ≡ old.stock.needs
    → Inside code (with_stock t (with_spots (kept old) (standing s.control a.rest))) a.below s.control a.rest (world_of (grant_in s.operands s.world) s.world)
block_out code old place address s t a served objects needs = out_inside code (with_spots (kept old) (standing s.control a.rest)) a.below s.control a.rest s.world t (grant_in s.operands s.world) address a.left served objects needs

-- a variable takes its address
pub taken_makes : (code : Code) (old mid new : Engine) (place out slot address : ℕ) (s : State) (t : Stock) → (a : IsAsked code old place 2 s s.operands) → OnRequest old s t (RequestOf.Taken address) → t.objects ≡ old.stock.objects → t.needs ≡ old.stock.needs
    → kept mid ≡ with_stock t (with_spots (kept old) (standing s.control a.rest)) → mid.events.items ≡ old.events.items → mid.picks.items ≡ old.picks.items
    → Gives (first_display (heads_of (world_of (grant_in s.operands s.world) s.world).activations)) out slot address (place + 1) mid new → Makes code old new (by_take_block out slot s.operands (here_of place s))
taken_makes code old mid new place out slot address s t a served objects needs mid_is events picks gives =
    subst (λ (m : Move). Makes code old new m) (sym (take_move code old place out slot s a))
    (by (grant_in s.operands s.world) served
    (makes_later code old mid new _ events picks
    (gives_makes code mid new place a.below s.control a.rest (world_of (grant_in s.operands s.world) s.world) out slot address a.leads
    (subst (λ (e : Kept). Inside code e a.below s.control a.rest (world_of (grant_in s.operands s.world) s.world)) (sym mid_is) (block_out code old place address s t a served objects needs)) gives)))
  where
    moved : List ℕ → ℕ → World → Move
    moved d x v = quiet (At d (place + 1)) s.control a.rest (with_cell d out slot x v)

    by : (r : Grant) → IsServed (kept old).next_object s.world t r (RequestOf.Taken address) → Makes code old new (moved (first_display (heads_of (world_of r s.world).activations)) address (world_of r s.world)) → Makes code old new (block_taken out slot r a.rest (here_of place s))
    by (Granted Standard v) x made = absurd x
    by (Granted (InBlock n b) v) x made =
        let same : address ≡ b = cc in
        let seen : first_display (heads_of v.activations) ≡ first_display (heads_of s.world.activations) = ap (λ (w : World). first_display (heads_of w.activations)) x.2 in
        subst (λ d. Makes code old new (moved d b v)) seen (subst (λ c. Makes code old new (moved (first_display (heads_of v.activations)) c v)) same made)
    by (Granted (InSubpool n) v) x made = absurd x
    by Exhausted x made = absurd (cc)
    by UnknownPool x made = absurd (cc)
    by (AllocateOf o f) x made = absurd x
