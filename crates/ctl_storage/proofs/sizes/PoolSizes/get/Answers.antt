use Rattle.std.proofs.Common.{◌∙◌, ap, refl, sym}
use Rattle.std.specs.Ordering.{nat_cmp}
use Rattle.std.specs.FinMap.{FinMap, get, get-empty}
use Rattle.ctl_storage.specs.declared.pools.PoolSize.{PoolSize}
use Rattle.ctl_storage.proofs.sizes.PoolSizes.get.Goals as goal

pub returns-then-not-are_used : goal.returns-then-not-are_used
returns-then-not-are_used c = sym (ap (λ (m : FinMap nat_cmp PoolSize). get m c.args.number) (c.if-not-are_used.ensures refl) ∙ get-empty nat_cmp c.args.number)
