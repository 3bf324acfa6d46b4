use Rattle.std.proofs.Common.{Some, ap}
use Rattle.ctl_engine.specs.Assigning.{is_assigning}
use Rattle.ctl_engine.proofs.Following.{makes_later}
use Rattle.ctl_lifetimes.proofs.Targets.{finishes_over}
use Rattle.ctl_steps.proofs.assign.finalize_controlled.Goals as goal

pub finalize_assigned-requires : goal.finalize_assigned-requires
finalize_assigned-requires g c =
    let aside = c.in_ok-begin_assignment.ensures in
    (c.requires.0, (finishes_over c.args.code.now c.begin_assignment.new.engine c.args.record c.args.place (Some g.t.1) g.t.0 aside.pending, (c.requires.1.1.1.0, (aside.room, (c.requires.1.1.1.1.0, (c.requires.1.1.1.1.1.0, ap is_assigning aside.pending.top))))))

pub returns-clause-ok : goal.returns-clause-ok
returns-clause-ok g c =
    let aside = c.in_ok-begin_assignment.ensures in
    makes_later c.args.code.now c.args.engine.now c.begin_assignment.new.engine c.finalize_assigned.new.engine _ aside.events aside.picks c.finalize_assigned.ensures
