-- A master is left: its declared objects go, and the pools among them.
use Rattle.std.proofs.Common.{◌≡◌, ◌∙◌, ℕ, List, [], Option, Some, None, Bool, true, false, cond, refl, sym, ap, subst}
use Rattle.std.specs.Prelude.{IfSome, is_some, not}
use Rattle.std.specs.Option.{option_map_or}
use Rattle.ctl_meaning.specs.World as W
use Rattle.ctl_meaning.specs.World.{Object, Origin, Declared, Allocated}
use Rattle.ctl_meaning.specs.Lists.{keep}
use Rattle.ctl_meaning.specs.Objects.{ends_with_master, object_in, opened_objects}
use Rattle.ctl_meaning.specs.Pools.{block_pool_at, keep_pools}
use Rattle.ctl_storage.specs.Storage.{ArePools, exists}
use Rattle.ctl_storage.proofs.Beside.{holders_kept, holders_weaker}
use Rattle.ctl_storage.proofs.Rising.{in_keep, kept_one}
use Rattle.ctl_storage.proofs.Shown.{pool_kept}
use Rattle.ctl_groups.specs.Members.{passes}
use Rattle.ctl_objects.specs.Order.{AreSplit, IsDeclared, both}
use Rattle.ctl_objects.specs.Pools.{DropsOnly, ShowsPools}
use Rattle.ctl_objects.specs.Stock.{Stock, all_of, storage_of}
use Rattle.ctl_objects.proofs.Both.{found_second, kept_both, lacks_kept, rise_both}
use Rattle.ctl_objects.proofs.Shown.{existing_left}
use Rattle.ctl_objects.proofs.Pools.{AreBeside, from_all, pool_weaker, to_all}

-- an object that is left, and the test of the declared ones that go
abbrev stays : ℕ → List ℕ → Object → Bool
stays m sets o = not (ends_with_master m sets o.origin)

abbrev goes : ℕ → Object → Bool
goes m o = ends_with_master m [] o.origin

-- Those pools are shown whose objects stay -------------------------------------------------------------------

ends_same : (m : ℕ) (sets : List ℕ) (o : Object) → IsDeclared o.origin → stays m sets o ≡ not (goes m o)
unfolding opened_objects
ends_same m sets o declared = by o.origin refl declared
  where
    by : (x : Origin) → o.origin ≡ x → IsDeclared x → not (ends_with_master m sets o.origin) ≡ not (ends_with_master m [] o.origin)
    by (Declared k) same d = ap (λ y. not (ends_with_master m sets y)) same ∙ sym (ap (λ y. not (ends_with_master m [] y)) same)
    by (Allocated c p) same d = absurd d

kept_true : (p : Object → Bool) (o : Option Object) → is_some (kept_one p o) ≡ true → is_some o ≡ true
kept_true p None e = e
kept_true p (Some z) e = refl

-- a declared object that is left does not go
left_stays : (m n : ℕ) (sets : List ℕ) (xs ys : List Object) → AreSplit xs ys → exists n (keep (stays m sets) (both xs ys)) ≡ true → passes (goes m) n ys ≡ false
left_stays m n sets xs ys split there = by (object_in n ys) refl (split.declared n)
  where
    turned : (b : Bool) → not b ≡ true → b ≡ false
    turned true e = absurd (cc)
    turned false e = refl

    some : (b : Bool) (z : Object) → is_some (cond b (Some z) None) ≡ true → b ≡ true
    some true z e = refl
    some false z e = absurd (cc)

    by : (o : Option Object) → object_in n ys ≡ o → IfSome o (λ (z : Object). IsDeclared z.origin) → option_map_or (goes m) o false ≡ false
    by None e d = refl
    by (Some z) e d =
        let found = found_second n xs ys split (sym (ap (λ (o : Option Object). is_some o) e)) ∙ e in
        let kept = sym (ap (λ (o : Option Object). is_some o) (in_keep (stays m sets) 0 n (both xs ys) (rise_both xs ys split) ∙ ap (kept_one (stays m sets)) found)) ∙ there in
        turned (goes m z) (sym (ends_same m sets z d) ∙ some (stays m sets z) z kept)

pub all_left : (next m : ℕ) (sets : List ℕ) (x : W.Pools) (a b : Stock) (ys zs : List Object) → AreSplit a.objects ys → AreSplit b.objects zs → b.objects ≡ keep (stays m sets) a.objects → zs ≡ keep (stays m sets) ys
    → ((y : W.Pools) → ArePools next y (storage_of a) → DropsOnly (λ n. passes (goes m) n ys) next y (storage_of b)) → ShowsPools next x (all_of a ys) → ShowsPools next (keep_pools (λ n. exists n (both b.objects zs)) x) (all_of b zs)
all_left next m sets x a b ys zs split splits first second drops h = record {
  kept = keep_pools dropped.0 y;
  existing = existing_left (both a.objects ys) (both b.objects zs) dropped.0 x y left h.existing;
  held = to_all next (keep_pools dropped.0 y) b zs splits (record {
    shown = dropped.2;
    holders = holders_kept (λ n. object_in n zs ≡ None) dropped.0 y (holders_weaker (λ n. object_in n ys ≡ None) (λ n. object_in n zs ≡ None) y gone beside.holders);
    owners = λ n. subst (λ o. IfSome o (λ (p : W.BlockPool). object_in n b.objects ≡ None)) (sym (pool_kept n dropped.0 y)) (owner n (dropped.0 n) (block_pool_at n y) (beside.owners n));
  });
}
  where
    y : W.Pools
    y = h.kept

    beside : AreBeside next y (storage_of a) ys
    beside = from_all next y a ys split h.held

    dropped : DropsOnly (λ n. passes (goes m) n ys) next y (storage_of b)
    dropped = drops y beside.shown

    gone : (n : ℕ) → object_in n ys ≡ None → object_in n zs ≡ None
    gone n none = ap (λ (l : List Object). object_in n l) second ∙ lacks_kept (stays m sets) n ys split.second none

    owner : (n : ℕ) (c : Bool) (o : Option W.BlockPool) → IfSome o (λ p. object_in n a.objects ≡ None) → IfSome (cond c o None) (λ p. object_in n b.objects ≡ None)
    owner n false o i = tt
    owner n true o i = pool_weaker (object_in n a.objects ≡ None) (object_in n b.objects ≡ None) o (λ none. ap (λ (l : List Object). object_in n l) first ∙ lacks_kept (stays m sets) n a.objects split.first none) i

    all : both b.objects zs ≡ keep (stays m sets) (both a.objects ys)
    all = ap (λ (l : List Object). both l zs) first ∙ (ap (both (keep (stays m sets) a.objects)) second ∙ kept_both (stays m sets) a.objects ys split)

    left : (n : ℕ) → exists n (both b.objects zs) ≡ true → (exists n (both a.objects ys) ≡ true) × (dropped.0 n ≡ true)
    left n e =
        let there = ap (λ (l : List Object). exists n l) (sym all) ∙ e in (
          kept_true (stays m sets) (object_in n (both a.objects ys)) (sym (ap (λ (o : Option Object). is_some o) (in_keep (stays m sets) 0 n (both a.objects ys) (rise_both a.objects ys split))) ∙ there),
          dropped.1 n (left_stays m n sets a.objects ys split there),
        )
