use Rattle.std.proofs.Common.{◌≡◌, ◌∙◌, ℕ, ap}
use Rattle.std.specs.Ordering.{nat_cmp}
use Rattle.std.specs.FinMap.{FinMap, empty, remove}
use Rattle.pool_store.proofs.ClosedPools.{nothing_removed}
use Rattle.ctl_storage.specs.declared.pools.PoolSize.{PoolSize}
use Rattle.ctl_storage.specs.declared.sizes.Usage.{Usage}
use Rattle.ctl_storage.specs.declared.sizes.Usage.TheVariants.{Unused, Used}
use Rattle.ctl_storage.specs.Sizes.{IfUnused}
use Rattle.ctl_storage.proofs.sizes.PoolSizes.remove.Goals as goal

unused_removed : (u : Usage) (n : ℕ) (m k : FinMap nat_cmp PoolSize) → k ≡ remove m n → IfUnused u (m ≡ empty) → IfUnused u (k ≡ empty)
unused_removed Unused n m k is none = is ∙ (ap (λ (t : FinMap nat_cmp PoolSize). remove t n) none ∙ nothing_removed n)
unused_removed Used n m k is none = tt

pub invariant_of-self : goal.invariant_of-self
invariant_of-self c = let s = c.self.inside in unused_removed s.usage c.args.number s.sizes.values c.remove.new.self.values c.remove.ensures.values c.self.invariant
