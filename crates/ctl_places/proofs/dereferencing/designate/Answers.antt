use Rattle.std.proofs.Common.{◌≡◌, Option, Some, subst}
use Rattle.std.specs.Prelude.{IfNone, IfSome}
use Rattle.ctl_tree.specs.declared.ending.Stop.TheVariants.{UseAfterFree}
use Rattle.ctl_code.specs.declared.code.Instr.TheVariants.{Dereference}
use Rattle.ctl_code.specs.Table.{by_instr}
use Rattle.ctl_frames.specs.declared.frame.Mode.{Mode}
use Rattle.ctl_frames.specs.declared.frame.Mode.TheVariants.{Stopped}
use Rattle.ctl_engine.specs.Moves.{GoesOn, Makes, here_of}
use Rattle.ctl_engine.specs.Windows.{Comes}
use Rattle.ctl_engine.proofs.Following.{makes_after}
use Rattle.ctl_places.proofs.dereferencing.designate.Goals as goal

pub returns-in-Some-clause-ok : goal.returns-in-Some-clause-ok
returns-in-Some-clause-ok g c = λ t.
    let code = c.args.code.now in
    let old = c.args.engine.now in
    let new = c.dereference.new.engine in
    let move = by_instr code (Some (Dereference t c.args.at)) g.s.operands (here_of c.args.place g.s) in
    (subst (λ (o : Option Mode). IfSome o (λ next. (new.mode ≡ next) × Makes code old new move)) c.in-Some.is (c.in_ok-dereference.ensures.passed t)).1

pub returns-in-None-clause-ok : goal.returns-in-None-clause-ok
returns-in-None-clause-ok g c = λ t.
    let code = c.args.code.now in
    let old = c.args.engine.now in
    let mid = c.dereference.new.engine in
    let move = by_instr code (Some (Dereference t c.args.at)) g.s.operands (here_of c.args.place g.s) in
    let left = subst (λ (o : Option Mode). IfNone o (GoesOn old mid old.mode old.cells.items)) c.in-None.is c.in_ok-dereference.ensures.left in
    let gone = subst (λ (o : Option Mode). IfNone o (Comes code mid (Stopped UseAfterFree) mid.cells.items move)) c.in-None.is (c.in_ok-dereference.ensures.gone t) in
    makes_after code old mid c.go_on.new.self move left (gone c.go_on.new.self c.go_on.ensures)
