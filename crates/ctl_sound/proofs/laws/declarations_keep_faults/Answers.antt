use Rattle.ctl_sound.proofs.KeepingItems.{declarations_keep_faults}
use Rattle.ctl_sound.proofs.laws.declarations_keep_faults.Goals as goal

pub returns : goal.returns
returns c = declarations_keep_faults c.args.objects.now c.args.heading.now
