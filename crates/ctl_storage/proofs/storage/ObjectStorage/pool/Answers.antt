use Rattle.std.proofs.Common.{◌∙◌, Option, Some, ap, subst, sym}
use Rattle.std.specs.FinMap.{get}
use Rattle.ctl_storage.specs.declared.pools.Pool.{Pool}
use Rattle.ctl_storage.specs.declared.pools.PoolState.{PoolState}
use Rattle.ctl_storage.specs.Calls.{IsInState}
use Rattle.ctl_storage.specs.Storage.{Storage}
use Rattle.ctl_storage.proofs.Calls.{no_pool_known, pool_known, state_is}
use Rattle.ctl_storage.proofs.storage.ObjectStorage.pool.Goals as goal

pub returns-in-Some-clause-known : goal.returns-in-Some-clause-known
returns-in-Some-clause-known c = (
  ap (λ (v : Storage). get v.sizes c.args.number) (sym c.self.view_is) ∙ sym c.in-Some.ensures,
  subst (λ (z : PoolState). IsInState z (get c.args.self.now.blocks c.args.number)) (sym c.state.ensures) (state_is (get c.args.self.now.blocks c.args.number)),
)

pub returns-in-Some-clause-shown : goal.returns-in-Some-clause-shown
returns-in-Some-clause-shown c = λ next x h.
    let z = c.in-Some.size.now in
    ap (λ (y : PoolState). let known : Option Pool = Some (record { size = z; state = y }) in known) c.state.ensures
    ∙ pool_known next c.args.number x c.args.self.now z (ap (λ (v : Storage). get v.sizes c.args.number) (sym c.self.view_is) ∙ sym c.in-Some.ensures) h

pub returns-in-None-clause-known : goal.returns-in-None-clause-known
returns-in-None-clause-known c = ap (λ (v : Storage). get v.sizes c.args.number) (sym c.self.view_is) ∙ sym c.in-None.ensures

pub returns-in-None-clause-shown : goal.returns-in-None-clause-shown
returns-in-None-clause-shown c = λ next x h. no_pool_known next c.args.number x c.args.self.now (ap (λ (v : Storage). get v.sizes c.args.number) (sym c.self.view_is) ∙ sym c.in-None.ensures) h
