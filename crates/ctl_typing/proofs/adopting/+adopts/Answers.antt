use Rattle.std.proofs.Common.{◌∙◌, arith, ap, refl}
use denote.Param.Weighed.{at_most}
use Rattle.ctl_syntax.specs.declared.denoted.Use.{Use}
use Rattle.ctl_syntax.specs.declared.expression.Expression.{Expression, size-Expression}
use Rattle.ctl_syntax.specs.declared.operators.Operand.{Operand}
use Rattle.ctl_typing.proofs.Depths.{chain_depth}
use Rattle.ctl_typing.specs.Typing as spec
use Rattle.ctl_typing.proofs.Senses.{sense_chain, sense_null, sense_number, sense_parentheses, sense_unary}
use Rattle.ctl_typing.proofs.adopting.+adopts.Goals as goal

pub adopts-returns-in-Chain : goal.adopts-returns-in-Chain
adopts-returns-in-Chain t c =
    let i = c.in-Chain in
    rw (i.is, sense_chain i.field-0 i.first i.second i.rest, ← c.get-in-Chain.ensures, ← c.get-in-Chain-2.ensures, ← c.as_slice.ensures) c.all_adopt.ensures

pub adopts-all_adopt-requires : goal.adopts-all_adopt-requires
adopts-all_adopt-requires t c =
    let i = c.in-Chain in
    let below = chain_depth i.field-0 i.first i.second i.rest in
    let whole = ap (λ (x : Expression Use). size-Expression Use x) i.is in
    rw (c.get-in-Chain.ensures, c.get-in-Chain-2.ensures, c.as_slice.ensures) (omega (arith, below, whole, c.decreases), tt)

pub all_adopt-adopts-requires : goal.all_adopt-adopts-requires
all_adopt-adopts-requires t c = (omega (arith, c.decreases), tt)

pub all_adopt-adopts-requires-2 : goal.all_adopt-adopts-requires-2
all_adopt-adopts-requires-2 t c = (omega (arith, c.decreases), tt)

pub all_adopt-adopts-requires-in-loop-operand : goal.all_adopt-adopts-requires-in-loop-operand
all_adopt-adopts-requires-in-loop-operand t c =
    let o = c.operand-item.result in
    let below = at_most (λ (p : Operand (Expression Use)). size-Expression Use p.operand) c.args.rest.now c.loop-operand.operand-index o c.loop-operand-test.true in
    let same = ap (λ (p : Operand (Expression Use)). size-Expression Use p.operand) c.operand-item.is in
    (omega (arith, below, same, c.decreases), tt)

pub adopts-returns-in-Number : goal.adopts-returns-in-Number
adopts-returns-in-Number t c = rw (c.in-Number.is, sense_number) refl

pub adopts-returns-in-Null : goal.adopts-returns-in-Null
adopts-returns-in-Null t c = rw (c.in-Null.is, sense_null) refl

pub adopts-returns-in-Unary : goal.adopts-returns-in-Unary
adopts-returns-in-Unary t c =
    let i = c.in-Unary in
    rw (i.is, sense_unary i.field-0 i.operator i.operand, ← c.get.ensures) (c.of_unary.ensures ∙ ap (spec.of_unary i.operator) c.adopts.ensures)

pub adopts-returns-in-Parentheses : goal.adopts-returns-in-Parentheses
adopts-returns-in-Parentheses t c =
    let i = c.in-Parentheses in
    rw (i.is, sense_parentheses i.field-0 i.inner, ← c.get-in-Parentheses.ensures) c.adopts-in-Parentheses.ensures
