use Rattle.ctl_meaning.proofs.Proved.{candidates_in_order}
use Rattle.ctl_meaning.proofs.laws.candidates_in_order.Goals as goal

pub returns : goal.returns
returns c = candidates_in_order c.args.program.now
