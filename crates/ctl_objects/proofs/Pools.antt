-- The pools of allocated objects, seen among all objects: no declared object is noted in a block, and no allocated one is a pool.
use Rattle.std.proofs.Common.{Bool, ◌≡◌, ◌∙◌, ℕ, List, Option, Some, None, true, false, cond, refl, sym, ap, subst}
use Rattle.std.specs.Prelude.{IfSome, is_some}
use Rattle.std.specs.Option.{option_or}
use Rattle.ctl_meaning.specs.World as W
use Rattle.ctl_meaning.specs.World.{Object, Origin, Declared, Allocated, opened_world}
use Rattle.ctl_meaning.specs.Lists.{opened_lists}
use Rattle.ctl_meaning.specs.Objects.{object_in}
use Rattle.ctl_meaning.specs.Pools.{block_pool_at, opened_pools}
use Rattle.ctl_storage.specs.Storage.{AreHolders, ArePools, Storage, exists}
use Rattle.ctl_storage.proofs.Beside.{holders_weaker, shown_beside}
use Rattle.ctl_objects.specs.Order.{AreSplit, IsAllocated, IsDeclared, both}
use Rattle.ctl_objects.specs.Pools.{AreExisting, HoldsPools, IsUnallocated, IsUndeclared}
use Rattle.ctl_objects.specs.Stock.{Stock, all_of, storage_of}
use Rattle.ctl_objects.proofs.Both.{found_both, found_first, not_declared}

-- pools beside declared objects
pub record AreBeside (next : ℕ) (x : W.Pools) (s : Storage) (ys : List Object) : Type 0 where
  pub shown : ArePools next x s
  pub holders : AreHolders (λ n. object_in n ys ≡ None) x
  pub owners : (n : ℕ) → IfSome (block_pool_at n x) (λ p. object_in n s.objects ≡ None)

none_some : (o : Option Object) → o ≡ None → false ≡ is_some o
none_some o none = sym (ap (λ (z : Option Object). is_some z) none)

-- a number that no declared object has finds the same among all
pub same_found : (n : ℕ) (xs ys : List Object) → AreSplit xs ys → object_in n ys ≡ None → exists n (both xs ys) ≡ exists n xs
same_found n xs ys split none = ap (λ (o : Option Object). is_some o) (found_first n xs ys split (none_some (object_in n ys) none))

pub pool_weaker : (Q R : Type 0) (o : Option W.BlockPool) → (Q → R) → IfSome o (λ p. Q) → IfSome o (λ p. R)
pool_weaker Q R None f i = tt
pool_weaker Q R (Some p) f i = f i

pub held_all : (xs ys : List Object) (x : W.Pools) → AreSplit xs ys → AreHolders (λ n. object_in n ys ≡ None) x → AreHolders (λ m. exists m (both xs ys) ≡ exists m xs) x
held_all xs ys x split h = holders_weaker (λ n. object_in n ys ≡ None) (λ m. exists m (both xs ys) ≡ exists m xs) x (λ m none. same_found m xs ys split none) h

-- no allocated object has a number
pub unallocated : (n : ℕ) (xs ys : List Object) → AreSplit xs ys → object_in n xs ≡ None → IsUnallocated n (both xs ys)
unallocated n xs ys split none = subst (λ o. IfSome o (λ (z : Object). IsDeclared z.origin)) (sym (found_both n xs ys split ∙ ap (λ (r : Option Object). option_or r (object_in n ys)) none)) (split.declared n)

pub to_all : (next : ℕ) (x : W.Pools) (a : Stock) (ys : List Object) → AreSplit a.objects ys → AreBeside next x (storage_of a) ys → HoldsPools next x (all_of a ys)
to_all next x a ys split b = record {
  shown = shown_beside next x (both a.objects ys) (storage_of a) (held_all a.objects ys x split b.holders) b.shown;
  holders = holders_weaker (λ n. object_in n ys ≡ None) (λ n. IsUndeclared n (both a.objects ys)) x undeclared b.holders;
  owners = λ n. pool_weaker (object_in n a.objects ≡ None) (IsUnallocated n (both a.objects ys)) (block_pool_at n x) (unallocated n a.objects ys split) (b.owners n);
}
  where
    undeclared : (n : ℕ) → object_in n ys ≡ None → IsUndeclared n (both a.objects ys)
    undeclared n none = subst (λ o. IfSome o (λ (z : Object). IsAllocated z.origin)) (sym (found_first n a.objects ys split (none_some (object_in n ys) none))) (split.allocated n)

never : (x : Origin) → IsAllocated x → IsDeclared x → ⊥
never (Declared m) a d = a
never (Allocated c p) a d = d

-- a number that no allocated object has finds none of them
pub not_allocated : (n : ℕ) (xs ys : List Object) → AreSplit xs ys → IsUnallocated n (both xs ys) → object_in n xs ≡ None
not_allocated n xs ys split un = by (object_in n xs) refl
  where
    by : (r : Option Object) → object_in n xs ≡ r → r ≡ None
    by None there = refl
    by (Some z) there =
        let found : object_in n (both xs ys) ≡ Some z = found_both n xs ys split ∙ ap (λ (r : Option Object). option_or r (object_in n ys)) there in
        absurd (never z.origin (subst (λ r. IfSome r (λ (o : Object). IsAllocated o.origin)) there (split.allocated n)) (subst (λ r. IfSome r (λ (o : Object). IsDeclared o.origin)) found un))

pub from_all : (next : ℕ) (x : W.Pools) (a : Stock) (ys : List Object) → AreSplit a.objects ys → HoldsPools next x (all_of a ys) → AreBeside next x (storage_of a) ys
from_all next x a ys split h = record {
  shown = shown_beside next x a.objects (storage_of (all_of a ys)) (holders_weaker (λ n. object_in n ys ≡ None) (λ m. exists m a.objects ≡ exists m (both a.objects ys)) x (λ m none. sym (same_found m a.objects ys split none)) held) h.shown;
  holders = held;
  owners = λ n. pool_weaker (IsUnallocated n (both a.objects ys)) (object_in n a.objects ≡ None) (block_pool_at n x) (not_allocated n a.objects ys split) (h.owners n);
}
  where
    held : AreHolders (λ n. object_in n ys ≡ None) x
    held = holders_weaker (λ n. IsUndeclared n (both a.objects ys)) (λ n. object_in n ys ≡ None) x (λ n allocated. not_declared n a.objects ys split allocated (split.declared n)) h.holders

-- Nothing is there at first -------------------------------------------------------------------------------

pub none_beside : (s : Storage) (ys : List Object) → ArePools 1 W.empty_pools s → AreBeside 1 W.empty_pools s ys
unfolding opened_pools opened_lists opened_world
none_beside s ys shown = record { shown = shown; holders = λ n a. tt; owners = λ n. tt }

pub none_existing : (os : List Object) → AreExisting os W.empty_pools W.empty_pools
unfolding opened_pools opened_lists opened_world
none_existing os = record { address = refl; pools = λ n. by (exists n os) }
  where
    by : (b : Bool) → (let none : Option W.BlockPool = None in none ≡ cond b none none)
    by true = refl
    by false = refl

-- Fields that stay ---------------------------------------------------------------------------------------

pub all_same : (a b : Stock) (ys zs : List Object) → b ≡ record a { objects = b.objects } → all_of b zs ≡ record (all_of a ys) { objects = both b.objects zs }
all_same a b ys zs same = ap (λ (s : Stock). record s { objects = both b.objects zs }) same

pub all_but_blocks : (a b : Stock) (ys zs : List Object) → b ≡ record a { objects = b.objects; blocks = b.blocks } → all_of b zs ≡ record (all_of a ys) { objects = both b.objects zs; blocks = b.blocks }
all_but_blocks a b ys zs same = ap (λ (s : Stock). record s { objects = both b.objects zs }) same
