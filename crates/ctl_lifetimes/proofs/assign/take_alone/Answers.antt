use Rattle.ctl_lifetimes.proofs.Targets.{taken_and_adjusted}
use Rattle.ctl_lifetimes.proofs.assign.take_alone.Goals as goal

pub adjust_alone-requires : goal.adjust_alone-requires
adjust_alone-requires g c =
    let took = c.in_ok-is_there.ensures.taken c.if-is_there.true in
    (c.requires.0, (took.assigns, (took.room, (c.requires.1.1.1.0, c.requires.1.1.1.1.0))))

pub returns-then-is_there-clause-ok : goal.returns-then-is_there-clause-ok
returns-then-is_there-clause-ok g c =
    let took = c.in_ok-is_there.ensures.taken c.if-is_there.true in
    taken_and_adjusted c.args.code.now c.args.engine.now c.take_over.new.engine c.adjust_alone.new.engine _ g.t.1 g.t.0 took c.adjust_alone.ensures
