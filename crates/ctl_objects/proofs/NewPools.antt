-- An object is declared, and a pool opens under its number.
use Rattle.std.proofs.Common.{◌≡◌, ◌∙◌, ℕ, ◌+◌, ◌<◌, List, [], ◌∷◌, ◌++◌, true, refl, sym, ap, arith, subst}
use Rattle.std.specs.Prelude.{IfSome}
use Rattle.ctl_meaning.specs.World as W
use Rattle.ctl_meaning.specs.World.{Object}
use Rattle.ctl_meaning.specs.Objects.{object_in}
use Rattle.ctl_meaning.specs.Pools.{push_block_pool}
use Rattle.ctl_storage.specs.Storage.{ArePools, exists}
use Rattle.ctl_storage.proofs.Kept.{newest_exists}
use Rattle.ctl_objects.specs.Order.{AreSplit, IsDeclared, both}
use Rattle.ctl_objects.specs.Pools.{IsOwner, ShowsPools}
use Rattle.ctl_objects.specs.Stock.{Stock, all_of, storage_of}
use Rattle.ctl_objects.proofs.Both.{found_second, some_is}
use Rattle.ctl_objects.proofs.Pools.{all_same}
use Rattle.ctl_objects.proofs.PoolCalls.{all_opened}
use Rattle.ctl_objects.proofs.Unchanged.{newest_shown}

-- the new object may own a pool
pub new_owner : (o : Object) (xs ys zs : List Object) → AreSplit xs zs → zs ≡ ys ++ o ∷ [] → IsOwner o.number (both xs zs)
new_owner o xs ys zs split is =
    let there : exists o.number zs ≡ true = ap (λ (l : List Object). exists o.number l) is ∙ newest_exists ys o in
    let found = some_is (object_in o.number zs) (sym there) in
    (found.0, found_second o.number xs zs split (sym there) ∙ found.1, subst (λ r. IfSome r (λ (z : Object). IsDeclared z.origin)) found.1 (split.declared o.number))

pub all_declared_open : (size count : ℕ) (x : W.Pools) (a b : Stock) (o : Object) (ys zs : List Object) → AreSplit a.objects zs → zs ≡ ys ++ o ∷ [] → both a.objects zs ≡ both a.objects ys ++ o ∷ [] → b.objects ≡ a.objects
    → ((next : ℕ) (y : W.Pools) → o.number < next → ArePools next y (storage_of a) → ArePools next (push_block_pool o.number size count y) (storage_of b))
    → ShowsPools o.number x (all_of a ys) → ShowsPools (o.number + 1) (push_block_pool o.number size count x) (all_of b zs)
all_declared_open size count x a b o ys zs split is newest objects moves h =
    all_opened (o.number + 1) o.number size count x a b zs split objects (new_owner o a.objects ys zs split is) (λ y. moves (o.number + 1) y (omega arith)) (newest_shown (all_of a ys) (all_of a zs) o (all_same a a ys zs refl) newest x h)
