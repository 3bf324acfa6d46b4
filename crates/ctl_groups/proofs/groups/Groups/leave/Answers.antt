use Rattle.ctl_storage.specs.Allocated.{known}
use Rattle.ctl_groups.proofs.Grouped.{has_counted, goes_counted, goes_last, goes_outside, goes_uncounted}
use Rattle.ctl_groups.proofs.groups.Groups.leave.Goals as goal

pub returns-then-object : goal.returns-then-object
returns-then-object c = goes_counted c.args.needs.now c.args.number (known c.args.number c.args.object.now) c.args.self.now c.remove.new.self c.lower.new.counts c.in-Some.group c.requires (c.in-Some.ensures c.args.number) c.remove.ensures.updates c.if-object.true c.lower.ensures

pub returns-else-object : goal.returns-else-object
returns-else-object c = goes_uncounted c.args.needs.now c.args.number (known c.args.number c.args.object.now) c.args.self.now c.remove.new.self c.in-Some.group c.requires (c.in-Some.ensures c.args.number) c.remove.ensures.updates c.if-object.false

pub returns-in-None : goal.returns-in-None
returns-in-None c = goes_last c.args.needs.now c.args.number (known c.args.number c.args.object.now) c.args.self.now c.remove.new.self c.remove-in-None.new.self c.in-Some.group c.requires (c.in-Some.ensures c.args.number) c.remove.ensures.updates c.in-None.ensures c.remove-in-None.ensures.updates

pub returns-in_default : goal.returns-in_default
returns-in_default c = goes_outside c.args.needs.now c.args.number (known c.args.number c.args.object.now) c.args.self.now c.requires (c.in_default.ensures c.args.number)

pub lower-requires : goal.lower-requires
lower-requires c = has_counted c.args.needs.now c.args.number (known c.args.number c.args.object.now) c.args.self.now c.in-Some.group c.requires (c.in-Some.ensures c.args.number) c.if-object.true
