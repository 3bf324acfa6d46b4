use Rattle.ctl_sound.proofs.Values.{expression_well_typed}
use Rattle.ctl_sound.proofs.laws.expression_is_well_typed.Goals as goal

pub returns : goal.returns
returns c = expression_well_typed c.args.expression.now
