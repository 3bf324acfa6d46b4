use Rattle.std.proofs.Common.{◌≡◌, ◌+◌, Some, sym, subst}
use Rattle.std.specs.Prelude.{IfNone, IfOk, IfSome}
use Rattle.ctl_tree.specs.declared.ending.Stop.TheVariants.{UseAfterFree}
use Rattle.ctl_code.specs.declared.code.Instr.{Instr}
use Rattle.ctl_code.specs.Table.{by_instr}
use Rattle.ctl_frames.specs.declared.frame.Mode.TheVariants.{At, Stopped}
use Rattle.ctl_engine.specs.Instructions.{PassesComponent}
use Rattle.ctl_engine.specs.Moves.{Makes, here_of}
use Rattle.ctl_engine.specs.Windows.{Comes}
use Rattle.ctl_engine.proofs.Steps.{either}
use Rattle.ctl_places.proofs.components.touch_object.Goals as goal

pub returns-in-FetchPart-clause-passed : goal.returns-in-FetchPart-clause-passed
returns-in-FetchPart-clause-passed g c = subst (λ (i : Instr). IfSome c.fetch_part.result (λ next. (c.fetch_part.new.engine.mode ≡ At next) × Makes c.args.code.now c.args.engine.now c.fetch_part.new.engine (by_instr c.args.code.now (Some i) g.s.operands (here_of c.args.place g.s)))) (sym c.in-FetchPart.is) (c.fetch_part.ensures.passed c.in-FetchPart.record c.in-FetchPart.position c.in-FetchPart.ty c.offset_of-offset.ensures)

pub returns-in-FetchPart-clause-gone : goal.returns-in-FetchPart-clause-gone
returns-in-FetchPart-clause-gone g c = subst (λ (i : Instr). IfNone c.fetch_part.result (Comes c.args.code.now c.fetch_part.new.engine (Stopped UseAfterFree) c.fetch_part.new.engine.cells.items (by_instr c.args.code.now (Some i) g.s.operands (here_of c.args.place g.s)))) (sym c.in-FetchPart.is) (c.fetch_part.ensures.gone c.in-FetchPart.record c.in-FetchPart.position c.in-FetchPart.ty c.offset_of-offset.ensures)

pub returns-in-Locate-clause-passed : goal.returns-in-Locate-clause-passed
returns-in-Locate-clause-passed g c = subst (λ (i : Instr). IfOk c.locate.result (λ some. IfSome some (λ next. (c.locate.new.engine.mode ≡ At next) × Makes c.args.code.now c.args.engine.now c.locate.new.engine (by_instr c.args.code.now (Some i) g.s.operands (here_of c.args.place g.s))))) (sym c.in-Locate.is) (c.locate.ensures.passed c.in-Locate.record)

pub returns-in-Locate-clause-gone : goal.returns-in-Locate-clause-gone
returns-in-Locate-clause-gone g c = subst (λ (i : Instr). IfOk c.locate.result (λ some. IfNone some (Comes c.args.code.now c.locate.new.engine (Stopped UseAfterFree) c.locate.new.engine.cells.items (by_instr c.args.code.now (Some i) g.s.operands (here_of c.args.place g.s))))) (sym c.in-Locate.is) (c.locate.ensures.gone c.in-Locate.record)

pub returns-in-TakePart-clause-passed : goal.returns-in-TakePart-clause-passed
returns-in-TakePart-clause-passed g c = subst (λ (i : Instr). IfSome c.take_part.result (λ next. (c.take_part.new.engine.mode ≡ At next) × Makes c.args.code.now c.args.engine.now c.take_part.new.engine (by_instr c.args.code.now (Some i) g.s.operands (here_of c.args.place g.s)))) (sym c.in-TakePart.is) (c.take_part.ensures.passed c.in-TakePart.record c.in-TakePart.position c.in-TakePart.ty c.offset_of-offset-in-TakePart.ensures)

pub returns-in-TakePart-clause-gone : goal.returns-in-TakePart-clause-gone
returns-in-TakePart-clause-gone g c = subst (λ (i : Instr). IfNone c.take_part.result (Comes c.args.code.now c.take_part.new.engine (Stopped UseAfterFree) c.take_part.new.engine.cells.items (by_instr c.args.code.now (Some i) g.s.operands (here_of c.args.place g.s)))) (sym c.in-TakePart.is) (c.take_part.ensures.gone c.in-TakePart.record c.in-TakePart.position c.in-TakePart.ty c.offset_of-offset-in-TakePart.ensures)

pub returns-in-TakeDiscriminant-clause-passed : goal.returns-in-TakeDiscriminant-clause-passed
returns-in-TakeDiscriminant-clause-passed g c = subst (λ (i : Instr). IfSome c.take_discriminant.result (λ next. (c.take_discriminant.new.engine.mode ≡ At next) × Makes c.args.code.now c.args.engine.now c.take_discriminant.new.engine (by_instr c.args.code.now (Some i) g.s.operands (here_of c.args.place g.s)))) (sym c.in-TakeDiscriminant.is) (c.take_discriminant.ensures.passed c.in-TakeDiscriminant.record)

pub returns-in-TakeDiscriminant-clause-gone : goal.returns-in-TakeDiscriminant-clause-gone
returns-in-TakeDiscriminant-clause-gone g c = subst (λ (i : Instr). IfNone c.take_discriminant.result (Comes c.args.code.now c.take_discriminant.new.engine (Stopped UseAfterFree) c.take_discriminant.new.engine.cells.items (by_instr c.args.code.now (Some i) g.s.operands (here_of c.args.place g.s)))) (sym c.in-TakeDiscriminant.is) (c.take_discriminant.ensures.gone c.in-TakeDiscriminant.record)

pub returns-in-StorePart-clause-passed : goal.returns-in-StorePart-clause-passed
returns-in-StorePart-clause-passed g c = subst (λ (i : Instr). IfSome c.store_part.result (λ next. (c.store_part.new.engine.mode ≡ At next) × Makes c.args.code.now c.args.engine.now c.store_part.new.engine (by_instr c.args.code.now (Some i) g.s.operands (here_of c.args.place g.s)))) (sym c.in-StorePart.is) (c.store_part.ensures.passed c.in-StorePart.record c.in-StorePart.position c.in-StorePart.ty c.offset_of-offset-in-StorePart.ensures)

pub returns-in-StorePart-clause-gone : goal.returns-in-StorePart-clause-gone
returns-in-StorePart-clause-gone g c = subst (λ (i : Instr). IfNone c.store_part.result (Comes c.args.code.now c.store_part.new.engine (Stopped UseAfterFree) c.store_part.new.engine.cells.items (by_instr c.args.code.now (Some i) g.s.operands (here_of c.args.place g.s)))) (sym c.in-StorePart.is) (c.store_part.ensures.gone c.in-StorePart.record c.in-StorePart.position c.in-StorePart.ty c.offset_of-offset-in-StorePart.ensures)

pub returns-in_ok-select-in-Select-clause-passed : goal.returns-in_ok-select-in-Select-clause-passed
returns-in_ok-select-in-Select-clause-passed g c = subst (λ (i : Instr). (c.select.new.engine.mode ≡ At (c.args.place + 1)) × Makes c.args.code.now c.args.engine.now c.select.new.engine (by_instr c.args.code.now (Some i) g.s.operands (here_of c.args.place g.s))) (sym c.in-Select.is) (c.in_ok-select-in-Select.ensures.mode, c.in_ok-select-in-Select.ensures.ok c.in-Select.record c.in-Select.part c.offset_of-offset-in-Select.ensures)

pub returns-in-DropPart-clause-passed : goal.returns-in-DropPart-clause-passed
returns-in-DropPart-clause-passed g c = subst (λ (i : Instr). (c.drop_part.new.engine.mode ≡ At (c.args.place + 1)) × Makes c.args.code.now c.args.engine.now c.drop_part.new.engine (by_instr c.args.code.now (Some i) g.s.operands (here_of c.args.place g.s))) (sym c.in-DropPart.is) (c.drop_part.ensures.mode, c.drop_part.ensures.makes c.in-DropPart.record)

pub returns-in-Designate-clause-passed : goal.returns-in-Designate-clause-passed
returns-in-Designate-clause-passed g c = subst (λ (i : Instr). IfSome c.designate_variable.result (λ next. (c.designate_variable.new.engine.mode ≡ At next) × Makes c.args.code.now c.args.engine.now c.designate_variable.new.engine (by_instr c.args.code.now (Some i) g.s.operands (here_of c.args.place g.s)))) (sym c.in-Designate.is) (c.designate_variable.ensures.passed c.in-Designate.ty)

pub returns-in-Designate-clause-gone : goal.returns-in-Designate-clause-gone
returns-in-Designate-clause-gone g c = subst (λ (i : Instr). IfNone c.designate_variable.result (Comes c.args.code.now c.designate_variable.new.engine (Stopped UseAfterFree) c.designate_variable.new.engine.cells.items (by_instr c.args.code.now (Some i) g.s.operands (here_of c.args.place g.s)))) (sym c.in-Designate.is) (c.designate_variable.ensures.gone c.in-Designate.ty)

pub returns-in-GiveValue-clause-passed : goal.returns-in-GiveValue-clause-passed
returns-in-GiveValue-clause-passed g c = subst (λ (i : Instr). IfSome c.give_value.result (λ next. (c.give_value.new.engine.mode ≡ At next) × Makes c.args.code.now c.args.engine.now c.give_value.new.engine (by_instr c.args.code.now (Some i) g.s.operands (here_of c.args.place g.s)))) (sym c.in-GiveValue.is) (c.give_value.ensures.passed c.in-GiveValue.of c.in-GiveValue.ty)

pub returns-in-GiveValue-clause-gone : goal.returns-in-GiveValue-clause-gone
returns-in-GiveValue-clause-gone g c = subst (λ (i : Instr). IfNone c.give_value.result (Comes c.args.code.now c.give_value.new.engine (Stopped UseAfterFree) c.give_value.new.engine.cells.items (by_instr c.args.code.now (Some i) g.s.operands (here_of c.args.place g.s)))) (sym c.in-GiveValue.is) (c.give_value.ensures.gone c.in-GiveValue.of c.in-GiveValue.ty)

pub pass_component-requires : goal.pass_component-requires
pass_component-requires g c =
    let kind : PassesComponent c.args.instr.now = either (λ h. subst PassesComponent (sym h.2) tt) (either (λ h. subst PassesComponent (sym h.7) tt) (λ h. subst PassesComponent (sym h.6) tt)) c.in-Reserve.is in
    (c.requires.0, (c.requires.1.0, (kind, c.requires.1.1.1)))
