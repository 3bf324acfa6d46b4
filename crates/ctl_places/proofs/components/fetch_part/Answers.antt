use Rattle.ctl_engine.proofs.Plain.{put_within}
use Rattle.ctl_places.proofs.Touched.{fetch_makes, fetch_gone}
use Rattle.ctl_places.proofs.components.fetch_part.Goals as goal

pub read_held-requires : goal.read_held-requires
read_held-requires g c = c.requires.1.0.3.inside.holds

pub put-requires-clause-cell : goal.put-requires-clause-cell
put-requires-clause-cell g c =
    let b = c.requires.1.0.3 in
    put_within c.args.code.now c.args.engine.now c.args.place c.args.to.now c.requires.1.0.2 b.stack g.s.control g.s.operands g.s.world b.fine.0 c.requires.0 b.inside b.fine.1

pub returns-in-Some-clause-passed : goal.returns-in-Some-clause-passed
returns-in-Some-clause-passed g c = λ t position ty same. (c.put.ensures.mode, fetch_makes c.args.code.now c.args.engine.now c.put.new.self c.args.place g.s c.args.variable.now c.requires.1.0.0 c.requires.1.0.1 c.args.offset c.requires.1.0.2 c.args.to.now c.in-Some.value c.requires.0 c.requires.1.0.3 c.in-Some.ensures c.put.ensures t position ty same)

pub returns-in-None-clause-gone : goal.returns-in-None-clause-gone
returns-in-None-clause-gone g c = λ t position ty same new goes. fetch_gone c.args.code.now c.args.engine.now new c.args.place g.s c.args.variable.now c.requires.1.0.0 c.requires.1.0.1 c.args.offset c.requires.1.0.2 c.args.to.now c.requires.1.0.3 c.in-None.ensures goes t position ty same
