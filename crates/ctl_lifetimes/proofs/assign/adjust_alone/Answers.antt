use Rattle.std.proofs.Common.{None, ap, false, refl, reverse}
use Rattle.ctl_engine.specs.Assigning.{is_assigning}
use Rattle.ctl_frames.specs.Owned.{home_among, sets_owned}
use Rattle.ctl_lifetimes.proofs.Adjusted.{alone_adjusted}
use Rattle.ctl_lifetimes.proofs.Finishing.{newest_calls}
use Rattle.ctl_lifetimes.proofs.Targets.{controlled_adjusted, finishes_over, target_over}
use Rattle.ctl_lifetimes.proofs.assign.adjust_alone.Goals as goal

pub adjust_among-requires : goal.adjust_among-requires
adjust_among-requires g c =
    let old = c.args.engine.now in
    let x = c.args.assignment in
    let a = c.requires.1.0 in
    let master = home_among (sets_owned old.owned.items) a.object.origin in
    let calls = newest_calls (reverse old.control.items) old.masters.items master c.count_masters-caller.result (ap is_assigning a.pending.top) c.count_masters-caller.ensures.count in
    (c.requires.0, (finishes_over c.args.code.now old x.record_type x.place None g.t a.pending, (a.base, (c.requires.1.1.0, (c.requires.1.1.1.0, (tt, (tt, (master, a.object, record { found = a.found; home = refl }, calls))))))))

pub returns : goal.returns
returns g c =
    let code = c.args.code.now in
    let old = c.args.engine.now in
    let new = c.adjust_among.new.engine in
    let type = c.args.assignment.record_type in
    let alone = c.requires.1.1.1.1 in
    controlled_adjusted code old new type g.t alone.controlled
    (alone_adjusted code old new (target_over type None g.t) None type false alone.none alone.controlled c.adjust_among.ensures)
