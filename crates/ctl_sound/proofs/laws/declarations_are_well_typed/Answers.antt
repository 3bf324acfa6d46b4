use Rattle.ctl_sound.proofs.Items.{declarations_well_typed}
use Rattle.ctl_sound.proofs.laws.declarations_are_well_typed.Goals as goal

pub returns : goal.returns
returns c = declarations_well_typed c.args.objects.now c.args.heading.now
