use Rattle.std.proofs.Common.{◌≡◌, ◌+◌, Some, sym, subst}
use Rattle.std.specs.Prelude.{IfNone, IfSome}
use Rattle.ctl_tree.specs.declared.ending.Stop.TheVariants.{UseAfterFree}
use Rattle.ctl_code.specs.declared.code.Instr.{Instr}
use Rattle.ctl_code.specs.Table.{by_instr}
use Rattle.ctl_frames.specs.declared.frame.Mode.TheVariants.{At, Stopped}
use Rattle.ctl_engine.specs.Moves.{Makes, here_of}
use Rattle.ctl_engine.specs.Windows.{Comes}
use Rattle.ctl_places.proofs.copies.pass_component.Goals as goal

pub returns-in-Reserve-clause-passed : goal.returns-in-Reserve-clause-passed
returns-in-Reserve-clause-passed g c = subst (λ (i : Instr). (c.reserve_numbers.new.engine.mode ≡ At (c.args.place + 1)) × Makes c.args.code.now c.args.engine.now c.reserve_numbers.new.engine (by_instr c.args.code.now (Some i) g.s.operands (here_of c.args.place g.s))) (sym c.in-Reserve.is) (c.reserve_numbers.ensures.mode, c.reserve_numbers.ensures.makes)

pub returns-in-KeepPart-clause-passed : goal.returns-in-KeepPart-clause-passed
returns-in-KeepPart-clause-passed g c = subst (λ (i : Instr). IfSome c.keep_part.result (λ next. (c.keep_part.new.engine.mode ≡ At next) × Makes c.args.code.now c.args.engine.now c.keep_part.new.engine (by_instr c.args.code.now (Some i) g.s.operands (here_of c.args.place g.s)))) (sym c.in-KeepPart.is) (c.keep_part.ensures.passed c.in-KeepPart.record c.in-KeepPart.position c.in-KeepPart.ty c.offset_of-offset.ensures)

pub returns-in-KeepPart-clause-gone : goal.returns-in-KeepPart-clause-gone
returns-in-KeepPart-clause-gone g c = subst (λ (i : Instr). IfNone c.keep_part.result (Comes c.args.code.now c.keep_part.new.engine (Stopped UseAfterFree) c.keep_part.new.engine.cells.items (by_instr c.args.code.now (Some i) g.s.operands (here_of c.args.place g.s)))) (sym c.in-KeepPart.is) (c.keep_part.ensures.gone c.in-KeepPart.record c.in-KeepPart.position c.in-KeepPart.ty c.offset_of-offset.ensures)

pub returns-in-CopyBackPart-clause-passed : goal.returns-in-CopyBackPart-clause-passed
returns-in-CopyBackPart-clause-passed g c = subst (λ (i : Instr). IfSome c.copy_back_part.result (λ next. (c.copy_back_part.new.engine.mode ≡ At next) × Makes c.args.code.now c.args.engine.now c.copy_back_part.new.engine (by_instr c.args.code.now (Some i) g.s.operands (here_of c.args.place g.s)))) (sym c.in-CopyBackPart.is) (c.copy_back_part.ensures.passed c.in-CopyBackPart.record c.in-CopyBackPart.position c.offset_of-offset-in-CopyBackPart.ensures)

pub returns-in-CopyBackPart-clause-gone : goal.returns-in-CopyBackPart-clause-gone
returns-in-CopyBackPart-clause-gone g c = subst (λ (i : Instr). IfNone c.copy_back_part.result (Comes c.args.code.now c.copy_back_part.new.engine (Stopped UseAfterFree) c.copy_back_part.new.engine.cells.items (by_instr c.args.code.now (Some i) g.s.operands (here_of c.args.place g.s)))) (sym c.in-CopyBackPart.is) (c.copy_back_part.ensures.gone c.in-CopyBackPart.record c.in-CopyBackPart.position c.offset_of-offset-in-CopyBackPart.ensures)
