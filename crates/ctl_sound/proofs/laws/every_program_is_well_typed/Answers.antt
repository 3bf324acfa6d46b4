use Rattle.ctl_sound.proofs.Programs.{programs_well_typed}
use Rattle.ctl_sound.proofs.laws.every_program_is_well_typed.Goals as goal

pub returns : goal.returns
returns c = programs_well_typed c.args.tree.now
