use Rattle.ctl_sound.proofs.Leaves.{simple_statements_well_typed}
use Rattle.ctl_sound.proofs.laws.simple_statements_are_well_typed.Goals as goal

pub returns : goal.returns
returns c = simple_statements_well_typed c.args.name.now c.args.value.now
