use Rattle.ctl_sound.proofs.Beginning.{beginning_sound}
use Rattle.ctl_sound.proofs.laws.beginning_is_sound.Goals as goal

pub returns : goal.returns
returns c = beginning_sound
