use Rattle.ctl_groups.proofs.Grouped.{none_grouped}
use Rattle.ctl_groups.proofs.groups.Groups.new.Goals as goal

pub returns : goal.returns
returns c = λ needs. none_grouped needs (record { untouched = c.new.result; joined = c.new-2.result }) c.new.ensures.empty c.new-2.ensures.empty
