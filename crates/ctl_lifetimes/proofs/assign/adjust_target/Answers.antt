use Rattle.std.proofs.Common.{None, ◌∙◌, sym}
use Rattle.ctl_lifetimes.proofs.Assignments.{at_makes}
use Rattle.ctl_lifetimes.proofs.Targets.{finishes_over, target_plain}
use Rattle.ctl_lifetimes.proofs.assign.adjust_target.Goals as goal

pub adjust_part-requires : goal.adjust_part-requires
adjust_part-requires g c =
    let x = c.args.assignment in
    let a = c.requires.1.0 in
    (c.requires.0, (finishes_over c.args.code.now c.args.engine.now x.record_type x.place None g.t a.pending, (a.base, (c.requires.1.1.0, (c.requires.1.1.1, (tt, tt))))))

pub returns-in-Plain : goal.returns-in-Plain
returns-in-Plain g c =
    let x = c.args.assignment in
    let end = c.end_assignment in
    target_plain c.args.code.now c.args.engine.now end.new.engine x.record_type g.t (sym c.parts_of.ensures ∙ c.in-Plain.is)
    (at_makes c.args.code.now c.args.engine.now end.new.engine x.record_type x.place None g.t c.requires.1.0.pending end.ensures.mode end.ensures.holds end.ensures.spots end.ensures.events end.ensures.picks)
