use Rattle.std.proofs.Common.{Option, Some, ℕ, subst}
use Rattle.std.specs.Prelude.{IfNone}
use Rattle.ctl_tree.specs.declared.ending.Stop.TheVariants.{UseAfterFree}
use Rattle.ctl_code.specs.Table.{by_instr}
use Rattle.ctl_frames.specs.declared.frame.Mode.TheVariants.{Stopped}
use Rattle.ctl_engine.specs.Moves.{GoesOn, here_of}
use Rattle.ctl_engine.specs.Windows.{Comes}
use Rattle.ctl_engine.proofs.Following.{makes_after}
use Rattle.ctl_places.proofs.components.touch.Goals as goal

pub returns-in-None-clause-ok : goal.returns-in-None-clause-ok
returns-in-None-clause-ok g c =
    let code = c.args.code.now in
    let old = c.args.engine.now in
    let mid = c.touch_object.new.engine in
    let move = by_instr code (Some c.args.instr.now) g.s.operands (here_of c.args.place g.s) in
    let left = subst (λ (o : Option ℕ). IfNone o (GoesOn old mid old.mode old.cells.items)) c.in-None.is c.in_ok-touch_object.ensures.left in
    let gone = subst (λ (o : Option ℕ). IfNone o (Comes code mid (Stopped UseAfterFree) mid.cells.items move)) c.in-None.is c.in_ok-touch_object.ensures.gone in
    makes_after code old mid c.go_on.new.self move left (gone c.go_on.new.self c.go_on.ensures)
