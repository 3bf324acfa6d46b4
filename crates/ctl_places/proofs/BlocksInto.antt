-- A block goes out of a pool, and a component takes its address (13.11): what the instruction makes of it. The part that has the component stands
-- over the pool.
use Rattle.std.proofs.Common.{◌≡◌, ℕ, ◌+◌, ◌-◌, ◌≤◌, List, [], ◌∷◌, ◌++◌, Some, None, drop, length, refl, sym, ap, ◌∙◌, subst, reverse, arith, length-append}
use Rattle.std.specs.Prelude.{slice_get, slice_index_or}
use Rattle.ctl_program.specs.declared.types.Ty.TheVariants.{Count, Record}
use Rattle.ctl_tree.specs.declared.ending.Stop.TheVariants.{UseAfterFree}
use Rattle.ctl_meaning.specs.Finalization.{Spot}
use Rattle.ctl_meaning.specs.Objects.{object_in}
use Rattle.ctl_meaning.specs.Pools.{block_pool_at}
use Rattle.ctl_meaning.specs.World as W
use Rattle.ctl_meaning.specs.World.{InBlock, InSubpool, Standard, World}
use Rattle.ctl_objects.specs.Stock.{Stock}
use Rattle.ctl_code.specs.declared.kinds.Kind.{Kind}
use Rattle.ctl_code.specs.declared.kinds.Kind.TheVariants.{Operand}
use Rattle.ctl_code.specs.declared.code.Code.{Code}
use Rattle.ctl_code.specs.declared.code.Instr.TheVariants.{TakeBlockInto}
use Rattle.ctl_code.specs.declared.code.Way.TheVariants as WayOf
use Rattle.ctl_code.specs.Kinds.{stack_at}
use Rattle.ctl_code.specs.States as T
use Rattle.ctl_code.specs.States.{Located, Move, Scalar, State, Word, Cells, object_of}
use Rattle.ctl_code.specs.Table.{AllocateOf, Exhausted, Grant, Granted, UnknownPool, block_taken_into, by_take_block_into, pool_grant, store_into, stored}
use Rattle.ctl_code.specs.Windows.{height}
use Rattle.ctl_engine.specs.declared.engine.Engine.{Engine}
use Rattle.ctl_frames.specs.declared.frame.Mode.TheVariants as ModeOf
use Rattle.ctl_places.specs.declared.pool_blocks.Request.{Request}
use Rattle.ctl_places.specs.declared.pool_blocks.Request.TheVariants as RequestOf
use Rattle.ctl_frames.specs.Masters.{first_display, first_window, heads_of}
use Rattle.ctl_engine.specs.Moves.{Before, Inside, Makes, here_of}
use Rattle.ctl_places.specs.PoolBlocks.{IsAskedInto, IsServed, StandsOnPool, grant_into, world_of}
use Rattle.ctl_engine.specs.Shows.{Kept, kept, with_spots, Holds}
use Rattle.ctl_frames.specs.Spots.{first_spot, located, standing, value_spot}
use Rattle.ctl_places.proofs.BlockCalls.{exhausted_by, out_inside, stops_makes, unknown_by}
use Rattle.ctl_engine.proofs.Blocks.{stack_is}
use Rattle.ctl_engine.proofs.Following.{makes_later}
use Rattle.ctl_engine.proofs.Operands.{are_newest, has_part, value_gone}
use Rattle.ctl_engine.proofs.Owned.{object_shown}
use Rattle.ctl_places.proofs.PartStored.{stored_in, stored_makes}
use Rattle.ctl_engine.proofs.Plain.{Becomes}
use Rattle.ctl_engine.proofs.Stocked.{with_stock}
use Rattle.ctl_frames.proofs.Words.{many_of, next_read, same_front}

-- What stands there ------------------------------------------------------------------------------------

pub into_asked : (code : Code) (e : Engine) (place t of position : ℕ) (s : State) → Before code e place (TakeBlockInto t of position) s → IsAskedInto code e place s
into_asked code e place t of position s b =
    let under = b.fine in
    let drops = under.2 in
    let k = s.control in
    let w = s.world in
    let over : List Kind = Operand (Record of) ∷ under.0 in
    let n = are_newest code (kept e) (height over) Count Count over k s.operands w tt tt (subst (λ (l : List Kind). Inside code (kept e) l k s.operands w) under.1 b.inside) refl in
    let p = has_part code (kept e) of under.0 k n.rest w n.left in
    let more = drop 1 n.rest in
    let lower : Kept = with_spots (kept e) (standing k more) in
    let q = has_part code lower t drops.0 k more w (subst (λ (l : List Kind). Inside code lower l k more w) drops.1 p.left) in
    let at : height over ≡ height (drop 2 (stack_at code.kinds place)) = ap (λ (l : List Kind). height (drop 2 l)) (sym (stack_is code place b.stack b.leads ∙ under.1)) in
    record {
      alignment = n.upper;
      size = n.lower;
      part = first_spot n.rest;
      pool = first_spot more;
      over = p.top;
      word = q.top;
      stands = p.stands;
      object = q.object;
      rest = drop 1 more;
      below = drops.0;
      are = n.are ∙ ap (λ (l : List Word). Scalar n.upper ∷ Scalar n.lower ∷ l) (p.are ∙ ap (λ (l : List Word). p.top ∷ l) q.are);
      read = subst (λ c. slice_get e.cells.items (first_window (reverse e.masters.items) + c) ≡ Some n.lower) at n.lower_read;
      spots = p.spots ∙ ap (λ (l : List Spot). l ++ first_spot n.rest ∷ []) q.spots;
      leads = drops.2;
      left = q.left;
    }

-- two parts are there
pub two_parts : (e : Engine) (below : List Spot) (pool part : Spot) → e.spots.items ≡ (below ++ pool ∷ []) ++ part ∷ [] → 2 ≤ length e.spots.items
two_parts e below pool part is = let many = many_of e.spots.items (below ++ pool ∷ []) part is in let fewer = length-append below (pool ∷ []) in omega (arith, many, fewer)

-- the pool is read
pub pool_below_read : (code : Code) (e : Engine) (place n count : ℕ) (x : Spot) (s : State) → (a : IsAskedInto code e place s) → count ≡ length e.spots.items → x ≡ slice_index_or e.spots.items (count - 2) x → n ≡ x.object → n ≡ a.pool.object
pool_below_read code e place n count x s a many read is = is ∙ ap (λ (y : Spot). y.object) (next_read e.spots.items (standing s.control a.rest) a.pool a.part x count a.spots many read)

-- both parts are dropped
pub both_dropped : (xs ys below : List Spot) (x y pool part : Spot) → xs ++ x ∷ [] ≡ (below ++ pool ∷ []) ++ part ∷ [] → xs ≡ ys ++ y ∷ [] → (x ≡ part) × (ys ≡ below)
both_dropped xs ys below x y pool part whole is =
    let upper = same_front xs (below ++ pool ∷ []) x part whole in
    (upper.1, (same_front ys below y pool (sym is ∙ upper.0)).0)

only_part : (x y : Spot) → x ∷ [] ≡ y ∷ [] → x ≡ y
only_part x y e = ap (λ (l : List Spot). part_or l) e
  where
    part_or : List Spot → Spot
    part_or [] = x
    part_or (z ∷ l) = z

-- the object of the value of a record is not there
no_value : (code : Code) (e : Kept) (k : List T.Frame) (ops : List Word) (v : List ℕ) (w : World) (o : W.Object) → Holds code e k ops w → object_in 0 e.objects ≡ Some o → ⊥
no_value code e k ops v w o h there = let f : None ≡ Some o = sym (value_gone code e k (Cells v ∷ []) ops w h tt) ∙ there in cc

-- The component takes the address ----------------------------------------------------------------------

-- its object is gone
pub address_gone : (code : Code) (old new : Engine) (place offset address : ℕ) (over : Word) (s : State) → (a : StandsOnPool code old place over s) → object_in a.part.object old.stock.objects ≡ None → Becomes old new (ModeOf.Stopped UseAfterFree) (with_spots (kept old) (standing s.control s.operands))
    → Makes code old new (store_into offset address over s.operands (here_of place s))
address_gone code old new place offset address (Located part) s a none becomes =
    let e = with_spots (kept old) (standing s.control s.operands) in
    let same : part ≡ a.part = only_part part a.part a.stands in
    let missing = object_shown code e s.control s.operands s.world part.object a.left.holds ∙ (ap (λ (x : Spot). object_in x.object old.stock.objects) same ∙ none) in
    subst (λ z. Makes code old new (stored part.object (part.offset + offset) address z s.operands (here_of place s))) (sym missing)
    (stops_makes code old new e UseAfterFree s.control s.operands s.world a.left.holds becomes.mode becomes.kept becomes.events becomes.picks)
address_gone code old new place offset address (Cells v) s a none becomes =
    stops_makes code old new (with_spots (kept old) (standing s.control s.operands)) UseAfterFree s.control s.operands s.world a.left.holds becomes.mode becomes.kept becomes.events becomes.picks
address_gone code old new place offset address (Scalar n) s a none becomes = absurd (let f : [] ≡ a.part ∷ [] = a.stands in cc)

-- or is there
pub address_stored : (code : Code) (old new : Engine) (place offset address : ℕ) (over : Word) (s : State) (o : W.Object) → (a : StandsOnPool code old place over s) → object_in a.part.object old.stock.objects ≡ Some o
    → Becomes old new (ModeOf.At (place + 1)) (with_spots (stored_in a.part.object (a.part.offset + offset) address (kept old)) (standing s.control s.operands)) → Makes code old new (store_into offset address over s.operands (here_of place s))
address_stored code old new place offset address (Located part) s o a there becomes =
    let same : a.part ≡ part = sym (only_part part a.part a.stands) in
    stored_makes code old new place a.below s.control s.operands s.world part.object (part.offset + offset) address o a.leads a.left (ap (λ (x : Spot). object_in x.object old.stock.objects) (sym same) ∙ there) becomes.mode
    (becomes.kept ∙ ap (λ (x : Spot). with_spots (stored_in x.object (x.offset + offset) address (kept old)) (standing s.control s.operands)) same) becomes.events becomes.picks
address_stored code old new place offset address (Cells v) s o a there becomes =
    let same : value_spot v ≡ a.part = only_part (value_spot v) a.part a.stands in
    let e = with_spots (kept old) (standing s.control s.operands) in
    absurd (no_value code e s.control s.operands v s.world o a.left.holds (ap (λ (x : Spot). object_in x.object old.stock.objects) same ∙ there))
address_stored code old new place offset address (Scalar n) s o a there becomes = absurd (let f : [] ≡ a.part ∷ [] = a.stands in cc)

-- A block goes out -------------------------------------------------------------------------------------

-- the table's move, by what comes of the request
into_move : (code : Code) (e : Engine) (place offset : ℕ) (s : State) → (a : IsAskedInto code e place s) → by_take_block_into offset s.operands (here_of place s) ≡ block_taken_into offset a.over (grant_into s.operands s.world) a.rest (here_of place s)
into_move code e place offset s a =
    ap (λ (l : List Word). by_take_block_into offset l (here_of place s)) a.are
    ∙ ap (λ (l : List Word). block_taken_into offset a.over (grant_into l s.world) a.rest (here_of place s)) (sym a.are)

-- what comes of it, of the pool and the size that stand there
abbrev pub OnRequestInto : Engine → State → Stock → Request → Type 0
OnRequestInto e s t r = IsServed (kept e).next_object s.world t (grant_into s.operands s.world) r

-- and so by what a call said of them
pub served_into : (code : Code) (e : Engine) (place n size : ℕ) (s : State) (t : Stock) (r r' : Request) → (a : IsAskedInto code e place s) → n ≡ a.pool.object → size ≡ a.size → r ≡ r' → IsServed (kept e).next_object s.world t (pool_grant n size (block_pool_at n s.world.pools) s.world) r → OnRequestInto e s t r'
served_into code e place n size s t r r' a pool value same served =
    let next = (kept e).next_object in
    let w = s.world in
    subst (λ y. OnRequestInto e s t y) same
    (subst (λ (l : List Word). IsServed next w t (grant_into l w) r) (sym a.are)
    (subst (λ n. IsServed next w t (pool_grant n a.size (block_pool_at n w.pools) w) r) (sym a.object)
    (subst (λ x. IsServed next w t (pool_grant a.pool.object x (block_pool_at a.pool.object w.pools) w) r) value
    (subst (λ x. IsServed next w t (pool_grant x size (block_pool_at x w.pools) w) r) pool served))))

-- no block is free, or each is smaller
pub exhausted_into : (code : Code) (old new : Engine) (place offset : ℕ) (s : State) (stack : List Kind) (t : Stock) → IsAskedInto code old place s → Inside code (kept old) stack s.control s.operands s.world → OnRequestInto old s t RequestOf.Exhausted
    → t.objects ≡ old.stock.objects → t.needs ≡ old.stock.needs → Becomes old new (ModeOf.Transfers (WayOf.Raise 2)) (with_stock t (kept old)) → Makes code old new (by_take_block_into offset s.operands (here_of place s))
exhausted_into code old new place offset s stack t a inside served objects needs becomes =
    subst (λ (m : Move). Makes code old new m) (sym (into_move code old place offset s a))
    (exhausted_by code old new s stack t (λ g. block_taken_into offset a.over g a.rest (here_of place s)) (grant_into s.operands s.world) refl inside served objects needs becomes)

-- there is no such pool, or it has closed
pub unknown_into : (code : Code) (old new : Engine) (place offset : ℕ) (s : State) (stack : List Kind) (t : Stock) → IsAskedInto code old place s → Inside code (kept old) stack s.control s.operands s.world → OnRequestInto old s t RequestOf.Unknown
    → t.objects ≡ old.stock.objects → t.needs ≡ old.stock.needs → Becomes old new (ModeOf.Stopped UseAfterFree) (with_stock t (kept old)) → Makes code old new (by_take_block_into offset s.operands (here_of place s))
unknown_into code old new place offset s stack t a inside served objects needs becomes =
    subst (λ (m : Move). Makes code old new m) (sym (into_move code old place offset s a))
    (unknown_by code old new s stack t (λ g. block_taken_into offset a.over g a.rest (here_of place s)) (grant_into s.operands s.world) refl inside served objects needs becomes)

-- what has the component, and what is left of the operands below it and the pool, in the table's world
abbrev pub first_word : List Word → Word
first_word [] = Scalar 0
first_word (x ∷ ops) = x

abbrev pub over_into : State → Word
over_into s = first_word (drop 2 s.operands)

abbrev pub left_into : State → State
left_into s = record s { operands = drop 4 s.operands; world = world_of (grant_into s.operands s.world) s.world }

-- the block is out: the part stands over the pool
pub stands_out : (code : Code) (old mid : Engine) (place address : ℕ) (s : State) (t : Stock) → IsAskedInto code old place s → OnRequestInto old s t (RequestOf.Taken address) → t.objects ≡ old.stock.objects → t.needs ≡ old.stock.needs → kept mid ≡ with_stock t (kept old)
    → StandsOnPool code mid place (over_into s) (left_into s)
stands_out code old mid place address s t a served objects needs mid_is =
    let k = s.control in
    let v = world_of (grant_into s.operands s.world) s.world in
    let rest : a.rest ≡ drop 4 s.operands = ap (λ (l : List Word). drop 4 l) (sym a.are) in
    let over : a.over ≡ over_into s = ap (λ (l : List Word). first_word (drop 2 l)) (sym a.are) in
    let out = out_inside code (with_spots (kept old) (standing k a.rest)) a.below k a.rest s.world t (grant_into s.operands s.world) address a.left served objects needs in
    let spots : mid.spots.items ≡ (standing k a.rest ++ a.pool ∷ []) ++ a.part ∷ [] = ap (λ (e : Kept). e.spots) mid_is ∙ a.spots in
    record {
      part = a.part;
      stands = subst (λ (x : Word). located (x ∷ []) ≡ a.part ∷ []) over a.stands;
      pool = a.pool;
      below = a.below;
      spots = spots ∙ ap (λ (l : List Word). (standing k l ++ a.pool ∷ []) ++ a.part ∷ []) rest;
      leads = a.leads;
      left = subst (λ (l : List Word). Inside code (with_spots (kept mid) (standing k l)) a.below k l v) rest (subst (λ (e : Kept). Inside code (with_spots e (standing k a.rest)) a.below k a.rest v) (sym mid_is) out);
    }

-- and a component of it takes the address
pub taken_into : (code : Code) (old mid new : Engine) (place offset address : ℕ) (s : State) (t : Stock) → IsAskedInto code old place s → OnRequestInto old s t (RequestOf.Taken address) → mid.events.items ≡ old.events.items → mid.picks.items ≡ old.picks.items
    → Makes code mid new (store_into offset address (over_into s) (left_into s).operands (here_of place (left_into s))) → Makes code old new (by_take_block_into offset s.operands (here_of place s))
taken_into code old mid new place offset address s t a served events picks made =
    subst (λ (m : Move). Makes code old new m) (sym (into_move code old place offset s a))
    (by (grant_into s.operands s.world) served
    (subst (λ (l : List Word). Makes code old new (moved (first_word (drop 2 l)) (drop 4 l) (first_display (heads_of (world_of (grant_into s.operands s.world) s.world).activations)) address (world_of (grant_into s.operands s.world) s.world))) a.are
    (makes_later code old mid new _ events picks made)))
  where
    moved : Word → List Word → List ℕ → ℕ → World → Move
    moved over rest d x v = store_into offset x over rest (record { display = d; place = place; control = s.control; world = v })

    by : (r : Grant) → IsServed (kept old).next_object s.world t r (RequestOf.Taken address) → Makes code old new (moved a.over a.rest (first_display (heads_of (world_of r s.world).activations)) address (world_of r s.world)) → Makes code old new (block_taken_into offset a.over r a.rest (here_of place s))
    by (Granted Standard v) x made = absurd x
    by (Granted (InBlock n b) v) x made =
        let same : address ≡ b = cc in
        let seen : first_display (heads_of v.activations) ≡ first_display (heads_of s.world.activations) = ap (λ (w : World). first_display (heads_of w.activations)) x.2 in
        subst (λ d. Makes code old new (moved a.over a.rest d b v)) seen (subst (λ c. Makes code old new (moved a.over a.rest (first_display (heads_of v.activations)) c v)) same made)
    by (Granted (InSubpool n) v) x made = absurd x
    by Exhausted x made = absurd (cc)
    by UnknownPool x made = absurd (cc)
    by (AllocateOf o f) x made = absurd x
