use Rattle.ctl_storage.specs.Allocated.{known}
use Rattle.ctl_groups.proofs.Grouped.{has_count, joins, joins_again, joins_outside}
use Rattle.ctl_groups.proofs.groups.Groups.join.Goals as goal

pub returns-then-object : goal.returns-then-object
returns-then-object c = joins_again c.args.needs.now c.args.number (known c.args.number c.args.object.now) c.args.self.now c.requires c.if-object.true

pub returns-in-Some : goal.returns-in-Some
returns-in-Some c = joins c.args.needs.now c.args.number (known c.args.number c.args.object.now) c.args.self.now c.raise.new.counts c.in-Some.group c.requires (c.in-Some.ensures c.args.number) c.if-object.false c.raise.ensures

pub returns-in_default : goal.returns-in_default
returns-in_default c = joins_outside c.args.needs.now c.args.number (known c.args.number c.args.object.now) c.args.self.now c.requires (c.in_default.ensures c.args.number)

pub raise-requires-clause-there : goal.raise-requires-clause-there
raise-requires-clause-there c = has_count c.args.needs.now c.args.number (known c.args.number c.args.object.now) c.args.self.now c.in-Some.group c.requires (c.in-Some.ensures c.args.number)
