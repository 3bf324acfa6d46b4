use Rattle.std.proofs.Common.{◌<◌, ◌-◌, subst, sym, arith}
use Rattle.ctl_frames.proofs.Chosen.{chosen_low, picked_within}
use Rattle.ctl_frames.proofs.frame.Apart.choose_low.Goals as goal

pub returns-clause-chosen : goal.returns-clause-chosen
returns-clause-chosen c = λ all left a.
    let x = c.args.self.low in
    let some = c.requires in
    let within : c.choose-chosen.result.pick < x.last - x.first = subst (λ n. n < x.last - x.first) (sym c.choose-chosen.ensures.pick) (picked_within c.args.order (x.last - x.first) (omega (arith, some))) in
    chosen_low all left c.args.self c.choose-chosen.result.pick c.choose-chosen.result.at c.choose-chosen.result.rest a within (λ low h. c.choose-chosen.ensures.chosen all low h)
