-- What the calls of pools say of all objects, by what they say of the allocated ones.
use Rattle.std.proofs.Common.{◌≡◌, ◌∙◌, ℕ, ◌+◌, ◌<◌, ◌++◌, ◌∷◌, arith, List, [], Option, Some, None, Bool, true, false, cond, refl, sym, ap, subst}
use Rattle.std.specs.Prelude.{IfOk, IfSome, OnErr, Result, Ok, Err, is_some, nat_eq, not}
use Rattle.std.specs.Option.{option_map, option_or}
use borrow.Author.Tests.{eqb-true}
use Rattle.ctl_meaning.specs.World as W
use Rattle.ctl_meaning.specs.World.{Object, Origin, Declared, Allocated, opened_world}
use Rattle.ctl_meaning.specs.Lists.{keep, opened_lists}
use Rattle.ctl_meaning.specs.Objects.{lies_in_pool, object_in, opened_objects}
use Rattle.ctl_meaning.specs.Pools as P
use Rattle.ctl_meaning.specs.Pools.{block_pool_at, opened_pools}
use Rattle.ctl_storage.specs.declared.pools.Placing.{Placing}
use Rattle.ctl_storage.specs.declared.pools.Placing.TheVariants.{Placed, Refused}
use Rattle.ctl_storage.specs.declared.pools.Pool.{Pool}
use Rattle.ctl_storage.specs.declared.pools.BlockReturn.{BlockReturn}
use Rattle.std.proofs.lemmas.Bool.Decides.{nat_tests}
use Rattle.ctl_storage.specs.Calls.{placing, returned, taken_at, IsPoolOf, OnPlaced, OnRefused, is_exhausted_at, is_fit_at, is_vacant_at, with_returned, with_taken}
use Rattle.ctl_storage.specs.Order.{Rise}
use Rattle.ctl_storage.specs.Storage.{AreHolders, ArePools, KeepsPools, Storage, exists}
use Rattle.ctl_storage.proofs.Beside.{fit_alike, holders_given, holders_held, holders_opened, holders_shut, holders_taken, vacant_alike}
use Rattle.ctl_storage.proofs.Rising.{in_newest, in_keep, kept_one, rise_keep, same_objects}
use Rattle.ctl_storage.proofs.Shown.{pool_changed}
use Rattle.ctl_objects.specs.Order.{AreSplit, IsDeclared, both}
use Rattle.ctl_objects.specs.Pools.{AreExisting, HoldsPools, IsOwner, ShowsPools}
use Rattle.ctl_objects.specs.Stock.{Stock, all_of, storage_of}
use Rattle.ctl_objects.proofs.Both.{found_both, kept_both, lacks_kept, split_kept}
use Rattle.ctl_objects.proofs.Pools.{from_all, held_all, not_allocated, pool_weaker, to_all}
use Rattle.ctl_objects.proofs.Shown.{existing_alike, existing_held, existing_opened, existing_returned, existing_shut, existing_taken, same_fit, same_taken, same_vacant}

-- no declared object is noted, and no allocated one is a pool
abbrev AreFree : List Object → W.Pools → Type 0
AreFree ys x = AreHolders (λ n. object_in n ys ≡ None) x

abbrev EachPool : (ℕ → Type 0) → W.Pools → Type 0
EachPool Q x = (n : ℕ) → IfSome (block_pool_at n x) (λ p. Q n)

abbrev AreOwned : List Object → W.Pools → Type 0
AreOwned xs x = EachPool (λ n. object_in n xs ≡ None) x

-- a call of pools, which leaves the declared objects as they are
all_moved : (next later : ℕ) (x y : W.Pools) (a b : Stock) (ys : List Object) → AreSplit a.objects ys → AreSplit b.objects ys → (ArePools next x (storage_of a) → ArePools later y (storage_of b)) → (AreFree ys x → AreFree ys y)
    → (AreOwned a.objects x → AreOwned b.objects y) → HoldsPools next x (all_of a ys) → HoldsPools later y (all_of b ys)
all_moved next later x y a b ys split splits moves free owned h =
    let beside = from_all next x a ys split h in
    to_all later y b ys splits (record { shown = moves beside.shown; holders = free beside.holders; owners = owned beside.owners })

-- Pools as they change -------------------------------------------------------------------------------------

each_changed : (Q : ℕ → Type 0) (n : ℕ) (f : W.BlockPool → W.BlockPool) (x y : W.Pools) → ((k : ℕ) → block_pool_at k y ≡ cond (nat_eq k n) (option_map f (block_pool_at k x)) (block_pool_at k x)) → EachPool Q x → EachPool Q y
each_changed Q n f x y changed h k = subst (λ o. IfSome o (λ (p : W.BlockPool). Q k)) (sym (changed k)) (by (nat_eq k n) (block_pool_at k x) (h k))
  where
    by : (b : Bool) (o : Option W.BlockPool) → IfSome o (λ p. Q k) → IfSome (cond b (option_map f o) o) (λ p. Q k)
    by true None i = tt
    by true (Some p) i = i
    by false o i = i

each_taken : (Q : ℕ → Type 0) (n : ℕ) (x : W.Pools) → EachPool Q x → EachPool Q (P.take_block n x)
unfolding opened_pools
each_taken Q n x h = each_changed Q n (P.with_block_out x.next_address) x (P.take_block n x) (λ k. pool_changed k n (P.with_block_out x.next_address) x (λ p. refl)) h

each_given : (Q : ℕ → Type 0) (n a : ℕ) (x : W.Pools) → EachPool Q x → EachPool Q (P.give_block n a x)
unfolding opened_pools
each_given Q n a x h = each_changed Q n (P.with_block_back a) x (P.give_block n a x) (λ k. pool_changed k n (P.with_block_back a) x (λ p. refl)) h

each_held : (Q : ℕ → Type 0) (n a object : ℕ) (x : W.Pools) → EachPool Q x → EachPool Q (P.hold_block n a object x)
unfolding opened_pools
each_held Q n a object x h = each_changed Q n (P.with_holder a object) x (P.hold_block n a object x) (λ k. pool_changed k n (P.with_holder a object) x (λ p. refl)) h

each_shut : (Q : ℕ → Type 0) (n : ℕ) (x : W.Pools) → EachPool Q x → EachPool Q (P.shut n x)
unfolding opened_pools
each_shut Q n x h = each_changed Q n P.closed_block_pool x (P.shut n x) (λ k. pool_changed k n P.closed_block_pool x (λ p. refl)) h

each_opened : (Q : ℕ → Type 0) (n size count : ℕ) (x : W.Pools) → Q n → EachPool Q x → EachPool Q (P.push_block_pool n size count x)
unfolding opened_pools opened_lists
each_opened Q n size count x own h k = by (nat_eq n k) refl (block_pool_at k x) (h k)
  where
    by : (b : Bool) → nat_eq n k ≡ b → (o : Option W.BlockPool) → IfSome o (λ p. Q k) → IfSome (cond b (Some (record { object = n; is_open = true; block_size = size; block_count = count; free = count; out = [] })) o) (λ p. Q k)
    by true is o i = subst Q (eqb-true n k is) own
    by false is o i = i

-- The calls ------------------------------------------------------------------------------------------------

-- the objects that are noted exist among all as they do among the allocated ones
noted_all : (next : ℕ) (x : W.Pools) (a : Stock) (ys : List Object) → AreSplit a.objects ys → HoldsPools next x (all_of a ys) → AreHolders (λ m. exists m (both a.objects ys) ≡ exists m a.objects) x
noted_all next x a ys split h = held_all a.objects ys x split (from_all next x a ys split h).holders

vacant_all : (next n a : ℕ) (x : W.Pools) (s : Stock) (ys : List Object) → AreSplit s.objects ys → HoldsPools next x (all_of s ys) → is_vacant_at n a (both s.objects ys) x ≡ is_vacant_at n a s.objects x
vacant_all next n a x s ys split h = vacant_alike (both s.objects ys) s.objects x n a (noted_all next x s ys split h)

fit_all : (next n a size : ℕ) (x : W.Pools) (s : Stock) (ys : List Object) → AreSplit s.objects ys → HoldsPools next x (all_of s ys) → is_fit_at n a size (both s.objects ys) x ≡ is_fit_at n a size s.objects x
fit_all next n a size x s ys split h = fit_alike (both s.objects ys) s.objects x n a size (noted_all next x s ys split h)

-- other allocated objects, and the same pools exist
existing_among : (xs zs ys : List Object) (x y : W.Pools) → AreSplit xs ys → AreSplit zs ys → ((n : ℕ) → IfSome (block_pool_at n y) (λ p. (object_in n xs ≡ None) × (object_in n zs ≡ None))) → AreExisting (both xs ys) x y → AreExisting (both zs ys) x y
existing_among xs zs ys x y split splits none h =
    existing_alike (both xs ys) (both zs ys) x y (λ n. pool_weaker ((object_in n xs ≡ None) × (object_in n zs ≡ None)) (exists n (both zs ys) ≡ exists n (both xs ys)) (block_pool_at n y) (λ e. found n zs splits e.1 ∙ sym (found n xs split e.0)) (none n)) h
  where
    found : (n : ℕ) (os : List Object) → AreSplit os ys → object_in n os ≡ None → exists n (both os ys) ≡ is_some (object_in n ys)
    found n os s e = ap (λ (o : Option Object). is_some o) (found_both n os ys s ∙ ap (λ (r : Option Object). option_or r (object_in n ys)) e)

-- allocated objects go, and no pool changes
pub all_gone : (next : ℕ) (x : W.Pools) (a b : Stock) (ys : List Object) (p : Object → Bool) → AreSplit a.objects ys → AreSplit b.objects ys → b.objects ≡ keep p a.objects → KeepsPools (storage_of a) (storage_of b) → ShowsPools next x (all_of a ys) → ShowsPools next x (all_of b ys)
all_gone next x a b ys p split splits is keeps h = record {
  kept = h.kept;
  existing = existing_among a.objects b.objects ys x h.kept split splits (λ n. pool_weaker (object_in n a.objects ≡ None) ((object_in n a.objects ≡ None) × (object_in n b.objects ≡ None)) (block_pool_at n h.kept) (λ e. (e, none n e)) (owned n)) h.existing;
  held = all_moved next next h.kept h.kept a b ys split splits (keeps next h.kept) (λ free. free) (λ own n. pool_weaker (object_in n a.objects ≡ None) (object_in n b.objects ≡ None) (block_pool_at n h.kept) (none n) (own n)) h.held;
}
  where
    none : (n : ℕ) → object_in n a.objects ≡ None → object_in n b.objects ≡ None
    none n e = ap (λ (l : List Object). object_in n l) is ∙ lacks_kept p n a.objects split.first e

    owned : AreOwned a.objects h.kept
    owned = (from_all next h.kept a ys split h.held).owners

pub all_opened : (next n size count : ℕ) (x : W.Pools) (a b : Stock) (ys : List Object) → AreSplit a.objects ys → b.objects ≡ a.objects → IsOwner n (both a.objects ys)
    → ((y : W.Pools) → ArePools next y (storage_of a) → ArePools next (P.push_block_pool n size count y) (storage_of b)) → ShowsPools next x (all_of a ys) → ShowsPools next (P.push_block_pool n size count x) (all_of b ys)
all_opened next n size count x a b ys split same owner moves h = record {
  kept = P.push_block_pool n size count h.kept;
  existing = subst (λ (l : List Object). AreExisting (both l ys) (P.push_block_pool n size count x) (P.push_block_pool n size count h.kept)) (sym same)
      (existing_opened (both a.objects ys) n size count x h.kept (ap (λ (o : Option Object). is_some o) owner.1) h.existing);
  held = all_moved next next h.kept (P.push_block_pool n size count h.kept) a b ys split (subst (λ (l : List Object). AreSplit l ys) (sym same) split) (moves h.kept) (λ free. holders_opened (λ m. object_in m ys ≡ None) n size count h.kept free)
      (λ owned. subst (λ (l : List Object). AreOwned l (P.push_block_pool n size count h.kept)) (sym same) (each_opened (λ k. object_in k a.objects ≡ None) n size count h.kept none owned)) h.held;
}
  where
    none : object_in n a.objects ≡ None
    none = not_allocated n a.objects ys split (subst (λ o. IfSome o (λ (z : Object). IsDeclared z.origin)) (sym owner.1) owner.2)

pub answer_taken : (next n size : ℕ) (x : W.Pools) (a : Stock) (ys : List Object) (r : Option ℕ) → AreSplit a.objects ys → exists n (both a.objects ys) ≡ true → ((m : ℕ) (y : W.Pools) → ArePools m y (storage_of a) → r ≡ taken_at n size y) → ShowsPools next x (all_of a ys)
    → r ≡ taken_at n size x
answer_taken next n size x a ys r split there is h = is next h.kept (from_all next h.kept a ys split h.held).shown ∙ sym (same_taken (both a.objects ys) n size x h.kept there h.existing)

pub all_taken : (next n size : ℕ) (x : W.Pools) (a b : Stock) (ys : List Object) → AreSplit a.objects ys → b.objects ≡ a.objects → exists n (both a.objects ys) ≡ true
    → ((y : W.Pools) → ArePools next y (storage_of a) → ArePools next (with_taken n size y) (storage_of b)) → ShowsPools next x (all_of a ys) → ShowsPools next (with_taken n size x) (all_of b ys)
all_taken next n size x a b ys split same there moves h = record {
  kept = with_taken n size y;
  existing = subst (λ (l : List Object). AreExisting (both l ys) (with_taken n size x) (with_taken n size y)) (sym same) (existing_taken (both a.objects ys) n size x y there h.existing);
  held = all_moved next next y (with_taken n size y) a b ys split (subst (λ (l : List Object). AreSplit l ys) (sym same) split) (moves y) (λ free. by (AreFree ys) (is_exhausted_at n size y) free (holders_taken (λ m. object_in m ys ≡ None) n y free))
      (λ owned. subst (λ (l : List Object). AreOwned l (with_taken n size y)) (sym same) (by (AreOwned a.objects) (is_exhausted_at n size y) owned (each_taken (λ k. object_in k a.objects ≡ None) n y owned))) h.held;
}
  where
    y : W.Pools
    y = h.kept

    by : (Q : W.Pools → Type 0) (b : Bool) → Q y → Q (P.take_block n y) → Q (cond b y (P.take_block n y))
    by Q true old new = old
    by Q false old new = new

pub answer_given : (next n a : ℕ) (x : W.Pools) (s : Stock) (ys : List Object) (r : BlockReturn) → AreSplit s.objects ys → exists n (both s.objects ys) ≡ true → ((m : ℕ) (y : W.Pools) → ArePools m y (storage_of s) → r ≡ returned (is_vacant_at n a s.objects y))
    → ShowsPools next x (all_of s ys) → r ≡ returned (is_vacant_at n a (both s.objects ys) x)
answer_given next n a x s ys r split there is h =
    is next h.kept (from_all next h.kept s ys split h.held).shown ∙ ap returned (sym (vacant_all next n a h.kept s ys split h.held) ∙ sym (same_vacant (both s.objects ys) (both s.objects ys) n a x h.kept there h.existing))

pub all_given : (next n a : ℕ) (x : W.Pools) (s t : Stock) (ys : List Object) → AreSplit s.objects ys → t.objects ≡ s.objects → exists n (both s.objects ys) ≡ true
    → ((y : W.Pools) → ArePools next y (storage_of s) → ArePools next (with_returned n a s.objects y) (storage_of t)) → ShowsPools next x (all_of s ys) → ShowsPools next (with_returned n a (both s.objects ys) x) (all_of t ys)
all_given next n a x s t ys split same there moves h = record {
  kept = with_returned n a (both s.objects ys) y;
  existing = subst (λ (l : List Object). AreExisting (both l ys) (with_returned n a (both s.objects ys) x) (with_returned n a (both s.objects ys) y)) (sym same)
      (existing_returned (both s.objects ys) (both s.objects ys) n a x y there h.existing);
  held = subst (λ b. HoldsPools next (cond b (P.give_block n a y) y) (all_of t ys)) (sym (vacant_all next n a y s ys split h.held))
      (all_moved next next y (with_returned n a s.objects y) s t ys split (subst (λ (l : List Object). AreSplit l ys) (sym same) split) (moves y) (λ free. by (AreFree ys) (is_vacant_at n a s.objects y) free (holders_given (λ m. object_in m ys ≡ None) n a y free))
      (λ owned. subst (λ (l : List Object). AreOwned l (with_returned n a s.objects y)) (sym same) (by (AreOwned s.objects) (is_vacant_at n a s.objects y) owned (each_given (λ k. object_in k s.objects ≡ None) n a y owned))) h.held);
}
  where
    y : W.Pools
    y = h.kept

    by : (Q : W.Pools → Type 0) (b : Bool) → Q y → Q (P.give_block n a y) → Q (cond b (P.give_block n a y) y)
    by Q true old new = new
    by Q false old new = old

pub answer_placed : (next n a size : ℕ) (x : W.Pools) (s : Stock) (ys : List Object) (r : Placing) → AreSplit s.objects ys → exists n (both s.objects ys) ≡ true → ((m : ℕ) (y : W.Pools) → ArePools m y (storage_of s) → r ≡ placing (is_fit_at n a size s.objects y))
    → ShowsPools next x (all_of s ys) → r ≡ placing (is_fit_at n a size (both s.objects ys) x)
answer_placed next n a size x s ys r split there is h =
    is next h.kept (from_all next h.kept s ys split h.held).shown ∙ ap placing (sym (fit_all next n a size h.kept s ys split h.held) ∙ sym (same_fit (both s.objects ys) (both s.objects ys) n a size x h.kept there h.existing))

-- an object comes in a block, after a change that each pool outlives
all_come : (f : W.Pools → W.Pools) (n a : ℕ) (o : Object) (x : W.Pools) (s t : Stock) (ys : List Object) → AreSplit s.objects ys → AreSplit t.objects ys → t.objects ≡ s.objects ++ o ∷ [] → object_in o.number ys ≡ None
    → ((y : W.Pools) → AreExisting (both s.objects ys) x y → AreExisting (both s.objects ys) (f x) (f y)) → ((y : W.Pools) → AreFree ys y → AreFree ys (f y)) → ((Q : ℕ → Type 0) (y : W.Pools) → EachPool Q y → EachPool Q (f y))
    → ((y : W.Pools) → ArePools o.number y (storage_of s) → ArePools (o.number + 1) (P.hold_block n a o.number (f y)) (storage_of t)) → ShowsPools o.number x (all_of s ys) → ShowsPools (o.number + 1) (P.hold_block n a o.number (f x)) (all_of t ys)
all_come f n a o x s t ys split splits is free exist frees each moves h = record {
  kept = after;
  existing = existing_among s.objects t.objects ys (P.hold_block n a o.number (f x)) after split splits both_none (existing_held (both s.objects ys) n a o.number (f x) (f h.kept) (exist h.kept h.existing));
  held = all_moved o.number (o.number + 1) h.kept after s t ys split splits (moves h.kept) (λ held. holders_held (λ m. object_in m ys ≡ None) n a o.number (f h.kept) free (frees h.kept held))
      (λ own k. pool_weaker ((object_in k s.objects ≡ None) × (object_in k t.objects ≡ None)) (object_in k t.objects ≡ None) (block_pool_at k after) (λ e. e.1) (both_none k)) h.held;
}
  where
    after : W.Pools
    after = P.hold_block n a o.number (f h.kept)

    owned : AreOwned s.objects h.kept
    owned = (from_all o.number h.kept s ys split h.held).owners

    none : (k : ℕ) → k < o.number → object_in k s.objects ≡ None → object_in k t.objects ≡ None
    none k less e =
        let differs : nat_eq o.number k ≡ false = grind (arith, nat_tests, less) in
        ap (λ (l : List Object). object_in k l) is ∙ (in_newest k s.objects o ∙ (ap (λ (r : Option Object). option_or r (cond (nat_eq o.number k) (Some o) None)) e ∙ ap (λ b. cond b (Some o) None) differs))

    both_none : (k : ℕ) → IfSome (block_pool_at k after) (λ p. (object_in k s.objects ≡ None) × (object_in k t.objects ≡ None))
    both_none k = by (block_pool_at k after) (outlives (λ m. object_in m s.objects ≡ None) owned k) (outlives (λ m. m < o.number) h.held.shown.pools k)
      where
        outlives : (Q : ℕ → Type 0) → EachPool Q h.kept → EachPool Q after
        outlives Q e = each_held Q n a o.number (f h.kept) (each Q h.kept e)

        by : (p : Option W.BlockPool) → IfSome p (λ z. object_in k s.objects ≡ None) → IfSome p (λ z. k < o.number) → IfSome p (λ z. (object_in k s.objects ≡ None) × (object_in k t.objects ≡ None))
        by None e b = tt
        by (Some z) e b = (e, none k b e)

pub all_placed : (n a : ℕ) (o : Object) (x : W.Pools) (s t : Stock) (ys : List Object) → AreSplit s.objects ys → AreSplit t.objects ys → t.objects ≡ s.objects ++ o ∷ [] → object_in o.number ys ≡ None
    → ((y : W.Pools) → ArePools o.number y (storage_of s) → ArePools (o.number + 1) (P.hold_block n a o.number y) (storage_of t)) → ShowsPools o.number x (all_of s ys) → ShowsPools (o.number + 1) (P.hold_block n a o.number x) (all_of t ys)
all_placed n a o x s t ys split splits is free moves h = all_come (λ y. y) n a o x s t ys split splits is free (λ y e. e) (λ y e. e) (λ Q y e. e) moves h

-- a block goes out for the object that comes
pub all_served : (n a size : ℕ) (o : Object) (x : W.Pools) (s t : Stock) (ys : List Object) → AreSplit s.objects ys → AreSplit t.objects ys → t.objects ≡ s.objects ++ o ∷ [] → object_in o.number ys ≡ None → exists n (both s.objects ys) ≡ true
    → ((y : W.Pools) → ArePools o.number y (storage_of s) → ArePools (o.number + 1) (P.hold_block n a o.number (with_taken n size y)) (storage_of t)) → ShowsPools o.number x (all_of s ys) → ShowsPools (o.number + 1) (P.hold_block n a o.number (with_taken n size x)) (all_of t ys)
all_served n a size o x s t ys split splits is free there moves h =
    all_come (with_taken n size) n a o x s t ys split splits is free (λ y e. existing_taken (both s.objects ys) n size x y there e) (λ y e. by (AreFree ys) (is_exhausted_at n size y) y e (holders_taken (λ m. object_in m ys ≡ None) n y e))
    (λ Q y e. by (EachPool Q) (is_exhausted_at n size y) y e (each_taken Q n y e)) moves h
  where
    by : (R : W.Pools → Type 0) (b : Bool) (y : W.Pools) → R y → R (P.take_block n y) → R (cond b y (P.take_block n y))
    by R true y old new = old
    by R false y old new = new

-- A pool closes --------------------------------------------------------------------------------------------

-- no declared object lies in it
pub declared_stay : (n : ℕ) (ys : List Object) → Rise 0 ys → ((k : ℕ) → IfSome (object_in k ys) (λ o. IsDeclared o.origin)) → keep (λ o. not (lies_in_pool n o.origin)) ys ≡ ys
unfolding opened_objects
declared_stay n ys rise declared = same_objects 0 (keep p ys) ys (rise_keep p 0 ys rise) rise (λ k. in_keep p 0 k ys rise ∙ by (object_in k ys) (declared k))
  where
    p : Object → Bool
    p o = not (lies_in_pool n o.origin)

    own : (z : Object) (x : Origin) → z.origin ≡ x → IsDeclared x → p z ≡ true
    own z (Declared m) is d = ap (λ y. not (lies_in_pool n y)) is
    own z (Allocated c q) is d = absurd d

    by : (o : Option Object) → IfSome o (λ z. IsDeclared z.origin) → kept_one p o ≡ o
    by None d = refl
    by (Some z) d = ap (λ b. cond b (Some z) None) (own z z.origin refl d)

pub split_closed : (n : ℕ) (xs zs ys : List Object) → AreSplit xs ys → zs ≡ keep (λ o. not (lies_in_pool n o.origin)) xs → AreSplit zs ys
split_closed n xs zs ys split is =
    subst (λ (l : List Object). AreSplit l ys) (sym is) (subst (λ (l : List Object). AreSplit (keep (λ o. not (lies_in_pool n o.origin)) xs) l) (declared_stay n ys split.second split.declared) (split_kept (λ o. not (lies_in_pool n o.origin)) xs ys split))

pub both_closed : (n : ℕ) (xs zs ys : List Object) → AreSplit xs ys → zs ≡ keep (λ o. not (lies_in_pool n o.origin)) xs → both zs ys ≡ keep (λ o. not (lies_in_pool n o.origin)) (both xs ys)
both_closed n xs zs ys split is =
    ap (λ (l : List Object). both l ys) is
    ∙ (ap (both (keep (λ o. not (lies_in_pool n o.origin)) xs)) (sym (declared_stay n ys split.second split.declared)) ∙ kept_both (λ o. not (lies_in_pool n o.origin)) xs ys split)

pub all_shut : (next n : ℕ) (x : W.Pools) (s t : Stock) (ys : List Object) → AreSplit s.objects ys → AreSplit t.objects ys → t.objects ≡ keep (λ o. not (lies_in_pool n o.origin)) s.objects
    → ((y : W.Pools) → ArePools next y (storage_of s) → ArePools next (P.shut n y) (storage_of t)) → ShowsPools next x (all_of s ys) → ShowsPools next (P.shut n x) (all_of t ys)
all_shut next n x s t ys split splits is moves h = record {
  kept = P.shut n h.kept;
  existing = existing_among s.objects t.objects ys (P.shut n x) (P.shut n h.kept) split splits (λ k. pool_weaker (object_in k s.objects ≡ None) ((object_in k s.objects ≡ None) × (object_in k t.objects ≡ None)) (block_pool_at k (P.shut n h.kept)) (λ e. (e, none k e)) (owned k))
      (existing_shut (both s.objects ys) n x h.kept h.existing);
  held = all_moved next next h.kept (P.shut n h.kept) s t ys split splits (moves h.kept) (λ free. holders_shut (λ m. object_in m ys ≡ None) n h.kept free)
      (λ own k. pool_weaker (object_in k s.objects ≡ None) (object_in k t.objects ≡ None) (block_pool_at k (P.shut n h.kept)) (none k) (owned k)) h.held;
}
  where
    none : (k : ℕ) → object_in k s.objects ≡ None → object_in k t.objects ≡ None
    none k e = ap (λ (l : List Object). object_in k l) is ∙ lacks_kept (λ o. not (lies_in_pool n o.origin)) k s.objects split.first e

    owned : AreOwned s.objects (P.shut n h.kept)
    owned = each_shut (λ k. object_in k s.objects ≡ None) n h.kept (from_all next h.kept s ys split h.held).owners

-- What is known of a pool, and where an object was put --------------------------------------------------

pub known_all : (n : ℕ) (r : Option Pool) (s : Storage) (os : List Object) → IsPoolOf n r s → IsPoolOf n r (record s { objects = os })
known_all n None s os h = h
known_all n (Some k) s os h = h

-- what is said of each answer
pub placed_either : {E : Type 0} (r : Result Placing E) (P Q R G : Type 0) → IfOk r (λ z. OnPlaced z P) → IfOk r (λ z. OnRefused z Q) → OnErr r R → (P → G) → (Q → G) → (R → G) → G
placed_either (Ok Placed) P Q R G p q e f g h = f p
placed_either (Ok Refused) P Q R G p q e f g h = g q
placed_either (Err z) P Q R G p q e f g h = h e

pub if_placed : {E : Type 0} (r : Result Placing E) (P Q : Type 0) → IfOk r (λ z. OnPlaced z P) → (P → Q) → IfOk r (λ z. OnPlaced z Q)
if_placed (Ok Placed) P Q p f = f p
if_placed (Ok Refused) P Q p f = tt
if_placed (Err z) P Q p f = p

pub placed_both : {E : Type 0} (r : Result Placing E) (P Q : Type 0) → IfOk r (λ z. OnPlaced z P) → IfOk r (λ z. OnPlaced z Q) → IfOk r (λ z. OnPlaced z (P × Q))
placed_both (Ok Placed) P Q p q = (p, q)
placed_both (Ok Refused) P Q p q = tt
placed_both (Err z) P Q p q = p

-- no pool is left
pub none_kept : (stays : ℕ → Bool) → P.keep_pools stays W.empty_pools ≡ W.empty_pools
unfolding opened_pools opened_lists opened_world
none_kept stays = refl
