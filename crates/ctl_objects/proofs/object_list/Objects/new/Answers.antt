use Rattle.std.proofs.Common.{◌∙◌, [], List, ap, subst, sym}
use Rattle.ctl_meaning.specs.World as W
use Rattle.ctl_meaning.specs.World.{Object}
use Rattle.ctl_objects.specs.Order.{AreSplit, both}
use Rattle.ctl_objects.specs.Stock.{storage_of}
use Rattle.ctl_objects.proofs.Both.{both_none, no_objects}
use Rattle.ctl_objects.proofs.Pools.{none_beside, to_all}
use Rattle.ctl_objects.proofs.Pools.{none_existing}
use Rattle.ctl_objects.proofs.object_list.Objects.new.Goals as goal

pub invariant_of-result : goal.invariant_of-result
invariant_of-result c = subst (λ (l : List Object). AreSplit l c.new.result) (sym c.new-2.ensures.objects) (subst (λ (l : List Object). AreSplit [] l) (sym c.new.ensures) no_objects)

pub returns-clause-objects : goal.returns-clause-objects
returns-clause-objects c = ap (λ (l : List Object). both l c.new.result) c.new-2.ensures.objects ∙ (both_none c.new.result ∙ c.new.ensures)

pub returns-clause-pools : goal.returns-clause-pools
returns-clause-pools c = record {
  kept = W.empty_pools;
  existing = none_existing (both c.new-2.result.objects c.new.result);
  held = to_all 1 W.empty_pools c.new-2.result c.new.result (invariant_of-result c) (none_beside (storage_of c.new-2.result) c.new.result c.new-2.ensures.pools);
}
