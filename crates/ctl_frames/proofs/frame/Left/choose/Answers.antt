use Rattle.std.proofs.Common.{refl}
use Rattle.ctl_frames.proofs.StillLeft.{newest_chosen, oldest_chosen}
use Rattle.ctl_frames.proofs.frame.Left.choose.Goals as goal

pub returns-in-Newest-clause-chosen : goal.returns-in-Newest-clause-chosen
returns-in-Newest-clause-chosen c = λ all left h. newest_chosen all left c.args.self _ _ _ h c.requires refl refl refl refl

pub returns-in-Oldest-clause-chosen : goal.returns-in-Oldest-clause-chosen
returns-in-Oldest-clause-chosen c = λ all left h. oldest_chosen all left c.args.self _ h c.requires refl refl
