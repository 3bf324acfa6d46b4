use Rattle.ctl_sound.proofs.Keeping.{expression_keeps_faults}
use Rattle.ctl_sound.proofs.laws.expression_keeps_faults.Goals as goal

pub returns : goal.returns
returns c = expression_keeps_faults c.args.expression.now
