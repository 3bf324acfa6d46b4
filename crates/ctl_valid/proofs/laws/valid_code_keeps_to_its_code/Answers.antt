use Rattle.ctl_code.proofs.FittingSteps.{keeps_to_its_code}
use Rattle.ctl_valid.proofs.laws.valid_code_keeps_to_its_code.Goals as goal

pub returns : goal.returns
returns c = keeps_to_its_code c.args.code.now c.code.ensures.valid
