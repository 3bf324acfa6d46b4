-- What holds of a world holds where storage was granted or given back, if it holds where a block goes out of a pool and where one comes back;
-- and what a closing pool keeps holds where an object's finalization has ended (13.11, 13.11.2).
use Rattle.std.proofs.Common.{ℕ, List, Option, Some, None, Bool, true, false}
use Rattle.std.specs.Prelude.{◌||◌, nat_eq, nat_lt, not, if◌then◌else◌}
use Rattle.ctl_program.specs.declared.types.Var.{Var}
use Rattle.ctl_tree.specs.declared.ending.Stop.TheVariants.{UseAfterFree, BadAddress}
use Rattle.ctl_tree.specs.declared.event.Cause.{Cause}
use Rattle.ctl_tree.specs.declared.event.Cause.TheVariants as CauseOf
use Rattle.ctl_meaning.specs.World.{Place, Standard, InBlock, InSubpool, Object, BlockPool, World}
use Rattle.ctl_meaning.specs.Activations.{master_of}
use Rattle.ctl_meaning.specs.Pools.{block_at, block_pool_at, give_block, take_block}
use Rattle.ctl_meaning.specs.Changes.{close_pool_at, in_pools, is_vacant, object_at, slot_at}
use Rattle.ctl_code.specs.declared.code.Code.{Code}
use Rattle.ctl_code.specs.States.{Word, object_of}
use Rattle.ctl_code.specs.Table.{Grant, Granted, Exhausted, UnknownPool, AllocateOf, GivenBack, Returned, NotReturned, DeallocateOf, operation_for, block_grant, pool_grant, own_grant, object_grant, holder_grant, grant, block_return, pool_return, own_return, object_return, return_to, closed_if, with_end, word_of}

-- where storage was granted this holds of the world then
abbrev pub OnGrant : (World → Type 0) → Grant → Type 0
OnGrant P (Granted place w) = P w
OnGrant P Exhausted = Unit {0}
OnGrant P UnknownPool = Unit {0}
OnGrant P (AllocateOf o f) = Unit {0}

-- and where it was given back
abbrev pub OnReturn : (World → Type 0) → GivenBack → Type 0
OnReturn P (Returned w) = P w
OnReturn P (NotReturned s) = Unit {0}
OnReturn P (DeallocateOf o a f) = Unit {0}

module _ (P : World → Type 0) (taken : (n : ℕ) (w : World) → P w → P (in_pools (take_block n) w)) where
  of_block : (n size : ℕ) (p : BlockPool) (w : World) → P w → OnGrant P (block_grant n size p w)
  of_block n size p w h = by (not p.is_open) (nat_eq p.free 0 || nat_lt p.block_size size)
    where
      by : (shut full : Bool) → OnGrant P (if shut then UnknownPool else if full then Exhausted else Granted (InBlock n w.pools.next_address) (in_pools (take_block n) w))
      by true full = tt
      by false true = tt
      by false false = taken n w h

  pub granted_of_pool : (n size : ℕ) (p : Option BlockPool) (w : World) → P w → OnGrant P (pool_grant n size p w)
  granted_of_pool n size None w h = tt
  granted_of_pool n size (Some p) w h = of_block n size p w h

  of_own : (f : Option ℕ) (size : ℕ) (o : Object) (w : World) → P w → OnGrant P (own_grant f size o w)
  of_own None size o w h = granted_of_pool o.number size (block_pool_at o.number w.pools) w h
  of_own (Some f) size o w h = tt

  of_object : (code : Code) (size : ℕ) (o : Option Object) (w : World) → P w → OnGrant P (object_grant code size o w)
  of_object code size None w h = tt
  of_object code size (Some o) w h = of_own (operation_for (λ x. x.allocate) code o.ty) size o w h

  of_holder : (code : Code) (s : Option Word) (size : ℕ) (w : World) → P w → OnGrant P (holder_grant code s size w)
  of_holder code None size w h = tt
  of_holder code (Some x) size w h = of_object code size (object_at (object_of x) w) w h

  pub granted_keeps : (code : Code) (pool : Option Var) (d : List ℕ) (size : ℕ) (w : World) → P w → OnGrant P (grant code pool d size w)
  granted_keeps code None d size w h = h
  granted_keeps code (Some v) d size w h = of_holder code (word_of (slot_at (master_of d v) v.slot w).content) size w h

module _ (P : World → Type 0) (given : (n a : ℕ) (w : World) → P w → P (in_pools (give_block n a) w)) where
  to_block : (n a : ℕ) (p : BlockPool) (w : World) → P w → OnReturn P (block_return n a p w)
  to_block n a p w h = by (not p.is_open) (is_vacant w (block_at a p))
    where
      by : (shut vacant : Bool) → OnReturn P (if shut then NotReturned UseAfterFree else if vacant then Returned (in_pools (give_block n a) w) else NotReturned BadAddress)
      by true vacant = tt
      by false true = given n a w h
      by false false = tt

  pub returned_to_pool : (n a : ℕ) (p : Option BlockPool) (w : World) → P w → OnReturn P (pool_return n a p w)
  returned_to_pool n a None w h = tt
  returned_to_pool n a (Some p) w h = to_block n a p w h

  to_own : (f : Option ℕ) (a : ℕ) (o : Object) (w : World) → P w → OnReturn P (own_return f a o w)
  to_own None a o w h = returned_to_pool o.number a (block_pool_at o.number w.pools) w h
  to_own (Some f) a o w h = tt

  to_object : (code : Code) (a : ℕ) (o : Option Object) (w : World) → P w → OnReturn P (object_return code a o w)
  to_object code a None w h = tt
  to_object code a (Some o) w h = to_own (operation_for (λ x. x.deallocate) code o.ty) a o w h

  pub returned_keeps : (code : Code) (place : Place) (w : World) → P w → OnReturn P (return_to code place w)
  returned_keeps code Standard w h = h
  returned_keeps code (InBlock n a) w h = to_object code a (object_at n w) w h
  returned_keeps code (InSubpool s) w h = h

module _ (P : World → Type 0) (closed_holds : (n : ℕ) (w : World) → P w → P (close_pool_at n w)) where
  of_closed : (p : Option BlockPool) (n : ℕ) (w : World) → P w → P (closed_if p n w)
  of_closed None n w h = h
  of_closed (Some p) n w h = closed_holds n w h

  pub end_keeps : (cause : Cause) (n : ℕ) (w : World) → P w → P (with_end cause n w)
  end_keeps CauseOf.Scope n w h = of_closed (block_pool_at n w.pools) n w h
  end_keeps CauseOf.Collection n w h = h
  end_keeps CauseOf.Free n w h = h
  end_keeps CauseOf.Subpool n w h = h
  end_keeps CauseOf.Assign n w h = h
  end_keeps CauseOf.Failed n w h = h
