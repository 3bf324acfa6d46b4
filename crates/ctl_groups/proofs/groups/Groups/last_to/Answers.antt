use Rattle.ctl_groups.proofs.Grouped.{last_of_range, none_to_end}
use Rattle.ctl_groups.proofs.groups.Groups.last_to.Goals as goal

pub returns-in-Some : goal.returns-in-Some
returns-in-Some c = last_of_range c.args.end c.args.self.now c.range.result c.next_back.new.self c.in-Some.last.now (c.range.ensures.in_range tt) c.in-Some.ensures.steps

pub returns-in-None : goal.returns-in-None
returns-in-None c = none_to_end c.args.end c.args.self.now c.range.result (c.range.ensures.in_range tt) c.in-None.ensures.steps.0
