use Rattle.std.proofs.Common.{[], List, subst, sym}
use Rattle.std.specs.Prelude.{not}
use Rattle.ctl_meaning.specs.Objects.{ends_with_master}
use Rattle.ctl_meaning.specs.World.{Object}
use Rattle.ctl_objects.specs.Order.{AreUpTo, IsUpTo}
use Rattle.ctl_storage.proofs.Conditions.{all_kept}
use Rattle.ctl_engine.proofs.layers.forget_owned.Goals as goal
use Rattle.ctl_objects.specs.Stock.{Stock}
use Rattle.ctl_engine.specs.LeftPools.{LeavesPools}
use Rattle.ctl_engine.proofs.layers.forget_owned.Goals.{then-may_gather, else-may_gather}

pub forget_gathered-requires-clause-masters : goal.forget_gathered-requires-clause-masters
forget_gathered-requires-clause-masters c =
    let m = c.args.master.now.number in
    subst (λ (l : List Object). AreUpTo m l) (sym c.close_master.ensures.objects) (all_kept (λ x. IsUpTo m x.origin) (λ x. not (ends_with_master m [] x.origin)) c.args.stock.now.objects c.requires.masters)

pub returns-clause-pools : goal.returns-clause-pools
returns-clause-pools c = elim c.if-may_gather.branch [
  | then-may_gather w ↦ subst (λ (x : Stock). LeavesPools c.args.stock.now x) (sym w.stock-is) (w.forget_gathered.ensures.pools c.args.stock.now c.close_master.ensures.pools)
  | else-may_gather w ↦ subst (λ (x : Stock). LeavesPools c.args.stock.now x) (sym w.stock-is) c.close_master.ensures.pools
]
