use Rattle.std.proofs.Common.{◌∙◌, sym}
use Rattle.ctl_groups.proofs.Grouped.{entered_new}
use Rattle.ctl_groups.proofs.groups.enter.Goals as goal

pub returns-clause-same : goal.returns-clause-same
returns-clause-same c = entered_new c.args.group c.args.counts.now c.insert.new.self c.in_ok-insert.ensures.updates (sym c.contains_key.ensures ∙ c.if-contains_key.false)
