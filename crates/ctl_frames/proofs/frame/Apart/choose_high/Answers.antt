use Rattle.std.proofs.Common.{refl}
use Rattle.ctl_frames.proofs.Chosen.{chosen_high}
use Rattle.ctl_frames.proofs.frame.Apart.choose_high.Goals as goal

pub returns-clause-chosen : goal.returns-clause-chosen
returns-clause-chosen c = λ all left a. chosen_high all left c.args.self _ c.choose-chosen.result.pick c.choose-chosen.result.at c.choose-chosen.result.rest a refl (λ high h. c.choose-chosen.ensures.chosen all high h)
