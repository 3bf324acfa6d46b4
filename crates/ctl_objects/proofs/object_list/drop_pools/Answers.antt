use Rattle.std.proofs.Common.{[]}
use Rattle.ctl_meaning.specs.Objects.{ends_with_master}
use Rattle.ctl_objects.specs.Declarations.{has_number}
use Rattle.ctl_groups.specs.Members.{passes}
use Rattle.ctl_objects.specs.Stock.{storage_of}
use Rattle.ctl_objects.proofs.Dropped.{drops_less, drops_none}
use Rattle.ctl_objects.proofs.object_list.drop_pools.Goals as goal

pub returns-then-has_pools-clause-pools : goal.returns-then-has_pools-clause-pools
returns-then-has_pools-clause-pools c = λ next x h.
    drops_less (λ n. has_number n c.going-going.result.now) (λ n. passes (λ o. ends_with_master c.args.master [] o.origin) n c.args.declared.now) next x (storage_of c.drop_pools.new.self) c.going-going.ensures (c.drop_pools.ensures.pools next x h)

pub returns-else-has_pools-clause-pools : goal.returns-else-has_pools-clause-pools
returns-else-has_pools-clause-pools c = λ next x h. drops_none (λ n. passes (λ o. ends_with_master c.args.master [] o.origin) n c.args.declared.now) next x (storage_of c.args.allocated.now) h
