use Rattle.std.proofs.Common.{sym, ap, subst, ◌∙◌}
use Rattle.pool_store.specs.Joined.{side_by_side, AreApart}
use Rattle.pool_store.specs.Store as store
use Rattle.pool_store.specs.Store.{Store}
use Rattle.pool_store.proofs.Sides.{closed_apart, closed_side}
use Rattle.pool_store.proofs.store.PoolStore.close_pool.Goals as goal

pub invariant_of-self : goal.invariant_of-self
invariant_of-self g c =
    let s = c.self.inside in
    subst (λ a. AreApart a c.close_pool-2.new.self) (sym c.close_pool.ensures)
    (subst (λ b. AreApart (store.without_pool c.args.pool s.blocks) b) (sym c.close_pool-2.ensures) (closed_apart s.blocks s.marks c.args.pool c.self.invariant))

pub returns : goal.returns
returns g c =
    let s = c.self.inside in
    let p = c.args.pool in
    ap (λ a. side_by_side a c.close_pool-2.new.self) c.close_pool.ensures ∙ ap (side_by_side (store.without_pool p s.blocks)) c.close_pool-2.ensures
    ∙ closed_side s.blocks s.marks p c.self.invariant ∙ ap (store.without_pool p) c.self.view_is
