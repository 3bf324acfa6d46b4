use Rattle.std.proofs.Common.{◌+◌, subst}
use Rattle.ctl_frames.specs.declared.frame.Mode.TheVariants.{At}
use Rattle.ctl_engine.specs.Moves.{Makes, here_of}
use Rattle.ctl_engine.specs.Windows.{moded}
use Rattle.ctl_code.specs.Table.{put}
use Rattle.ctl_engine.proofs.Plain.{put_makes, put_within}
use Rattle.ctl_places.proofs.variables.fetch.Goals as goal

pub set_cell-requires : goal.set_cell-requires
set_cell-requires g c =
    let b = c.requires.1.0.1 in
    record { window = c.requires.1.1; cell = put_within c.args.code.now c.args.engine.now c.args.place c.args.to.now c.requires.1.0.0 b.stack g.s.control g.s.operands g.s.world b.fine.0 c.requires.0 b.inside b.fine.1 }

pub returns-clause-makes : goal.returns-clause-makes
returns-clause-makes g c = λ ty.
    let b = c.requires.1.0.1 in
    let new = moded c.set_cell.new.engine (At (c.args.place + 1)) in
    subst (λ x. Makes c.args.code.now c.args.engine.now new (put c.args.to.now.named x g.s.operands (here_of c.args.place g.s))) c.read_seen-value.ensures
    (put_makes c.args.code.now c.args.engine.now new c.args.place c.args.to.now c.requires.1.0.0 b.stack g.s.control g.s.operands g.s.world c.read_seen-value.result b.fine.0 c.requires.0 b.inside b.fine.1 (c.set_cell.ensures.goes (c.args.place + 1)))
