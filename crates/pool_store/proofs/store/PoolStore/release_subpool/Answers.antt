use Rattle.std.proofs.Common.{sym, ap, subst, ◌∙◌}
use Rattle.pool_store.specs.Joined.{side_by_side, AreApart}
use Rattle.pool_store.specs.Store as store
use Rattle.pool_store.specs.Store.{Store}
use Rattle.pool_store.proofs.Sides.{released_apart, released_side}
use Rattle.pool_store.proofs.store.PoolStore.release_subpool.Goals as goal

pub invariant_of-self : goal.invariant_of-self
invariant_of-self g c =
    let s = c.self.inside in
    subst (AreApart s.blocks) (sym c.release.ensures.store) (released_apart s.blocks s.marks c.args.subpool.0 c.self.invariant)

pub returns-clause-store : goal.returns-clause-store
returns-clause-store g c =
    let s = c.self.inside in
    let n = c.args.subpool.0 in
    ap (side_by_side s.blocks) c.release.ensures.store ∙ released_side s.blocks s.marks n c.self.invariant c.lies_outside_subpools.ensures ∙ ap (store.released_subpool n) c.self.view_is
