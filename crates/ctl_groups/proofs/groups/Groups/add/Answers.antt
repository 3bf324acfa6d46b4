use Rattle.std.proofs.Common.{None}
use Rattle.ctl_storage.specs.Allocated.{known}
use Rattle.ctl_groups.proofs.Grouped.{comes, comes_outside, open_by}
use Rattle.ctl_groups.proofs.groups.Groups.add.Goals as goal

pub returns-clause-ok : goal.returns-clause-ok
returns-clause-ok c = comes c.args.needs.now c.args.number (known c.args.number c.args.object.now) c.args.self.now (record { untouched = c.insert.new.self; joined = c.enter.new.counts }) c.in-Some.group (c.in-Some.ensures c.args.number) c.requires.stage c.requires.entered c.requires.new
    c.in_ok-insert.ensures.updates c.enter.ensures.same c.in_ok-enter.ensures.ok

pub returns-in_default-clause-ok : goal.returns-in_default-clause-ok
returns-in_default-clause-ok c =
    let x = known c.args.number c.args.object.now in
    comes_outside c.args.needs.now c.args.number x c.args.self.now c.requires.entered c.requires.new (λ g. open_by c.args.needs.now x None (c.in_default.ensures c.args.number) g)
