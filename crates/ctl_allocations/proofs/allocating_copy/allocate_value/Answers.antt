use Rattle.std.proofs.Common.{refl}
use Rattle.ctl_allocations.proofs.CopyAllocated.{copy_refused, copy_takes, has_given}
use Rattle.ctl_engine.proofs.Steps.{on_ok}
use Rattle.ctl_allocations.proofs.allocating_copy.allocate_value.Goals as goal

pub set_for-requires : goal.set_for-requires
set_for-requires g c = let b = c.requires.1.0 in (b.inside.holds, (b.fine.1.0, b.fine.1.1, b.fine.1.2))

pub value_member-requires : goal.value_member-requires
value_member-requires g c = (c.requires.0, ((g.s.1, g.s.2, c.requires.1.0), (c.requires.1.1.0, (refl, c.requires.1.1.1))))

pub returns-in-Ok-clause-ok : goal.returns-in-Ok-clause-ok
returns-in-Ok-clause-ok g c =
    let move = has_given c.args.code.now c.args.access c.args.place c.args.record g.s.2 g.s.1 g.s.0 c.requires.1.1.0 in
    on_ok c.value_member.result (copy_takes c.args.code.now c.args.engine.now c.value_member.new.engine c.args.access c.args.place c.in-Ok.set c.args.record g.s.2 g.s.1 _ g.s.0 move c.in-Ok.ensures.ok) c.value_member.ensures.ok

pub returns-in-Err-clause-ok : goal.returns-in-Err-clause-ok
returns-in-Err-clause-ok g c =
    let move = has_given c.args.code.now c.args.access c.args.place c.args.record g.s.2 g.s.1 g.s.0 c.requires.1.1.0 in
    copy_refused c.args.code.now c.args.engine.now c.go_on.new.self c.args.access c.args.place c.args.record g.s.2 g.s.1 c.in-Err.refused _ g.s.0 c.requires.1.0 move c.in-Err.ensures.err c.go_on.ensures
