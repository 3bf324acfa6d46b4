use Rattle.ctl_code.proofs.Logs.{chooses_by_order}
use Rattle.ctl_code.proofs.laws.every_choice_is_by_order.Goals as goal

pub returns : goal.returns
returns c = chooses_by_order c.args.code.now
