use Rattle.std.proofs.Common.{refl}
use Rattle.ctl_allocations.proofs.NewMember.{set_refuses, set_takes}
use Rattle.ctl_engine.proofs.Steps.{on_ok}
use Rattle.ctl_allocations.proofs.allocating.allocate.Goals as goal

pub set_for-requires : goal.set_for-requires
set_for-requires g c = let b = c.requires.1.0 in (b.inside.holds, (b.fine.1.0, b.fine.1.1, b.fine.1.2))

pub create_member-requires : goal.create_member-requires
create_member-requires g c = (c.requires.0, ((g.s.1, g.s.2, c.requires.1.0), (refl, c.requires.1.1)))

pub returns-in-Ok-clause-ok : goal.returns-in-Ok-clause-ok
returns-in-Ok-clause-ok g c =
    on_ok c.create_member.result (set_takes c.args.code.now c.args.engine.now c.create_member.new.engine c.args.access c.args.place c.in-Ok.set c.args.of g.s.2 g.s.1 g.s.0 c.in-Ok.ensures.ok) c.create_member.ensures.ok

pub returns-in-Err-clause-ok : goal.returns-in-Err-clause-ok
returns-in-Err-clause-ok g c =
    set_refuses c.args.code.now c.args.engine.now c.go_on.new.self c.args.access c.args.place c.args.of g.s.2 g.s.1 c.in-Err.refused g.s.0 c.requires.1.0 c.in-Err.ensures.err c.go_on.ensures
