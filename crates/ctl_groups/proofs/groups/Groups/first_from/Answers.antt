use Rattle.ctl_groups.proofs.Grouped.{first_of_range, none_of_range}
use Rattle.ctl_groups.proofs.groups.Groups.first_from.Goals as goal

pub returns-in-Some : goal.returns-in-Some
returns-in-Some c = first_of_range c.args.start c.args.self.now c.range.result c.next.new.self c.in-Some.first.now (c.range.ensures.in_range tt) c.in-Some.ensures.steps

pub returns-in-None : goal.returns-in-None
returns-in-None c = none_of_range c.args.start c.args.self.now c.range.result (c.range.ensures.in_range tt) c.in-None.ensures.steps.0
