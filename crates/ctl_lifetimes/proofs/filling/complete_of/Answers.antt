use Rattle.std.proofs.Common.{refl}
use Rattle.ctl_lifetimes.proofs.Complete.{complete_apart}
use Rattle.ctl_lifetimes.proofs.filling.complete_of.Goals as goal

pub returns : goal.returns
returns g c = complete_apart c.args.code.now c.args.record g.those c.args.incomplete _ c.requires.0 c.requires.1 refl c.count_finalized.ensures c.count_finalized-2.ensures c.count_controlled.ensures.count
