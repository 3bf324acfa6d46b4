use Rattle.std.proofs.Common.{◌+◌, ap, sym, ◌∙◌, map, drop}
use Rattle.ctl_layout.specs.Values.{OperatorCode, last_type, operator_of}
use Rattle.ctl_layout.proofs.Turns.{turn_of}
use Rattle.ctl_layout.proofs.Layers.{operator_is}
use Rattle.ctl_layout.proofs.typing.last_type.Goals as goal

pub loop-operand-preserved : goal.loop-operand-preserved
loop-operand-preserved c =
    let all = c.args.more.now in
    let i = c.loop-operand.operand-index in
    let x = c.operand-item.result in
    ap (λ (o : OperatorCode). last_type o.ty (map operator_of (drop (i + 1) all))) (sym (operator_is x))
    ∙ turn_of (λ xs. last_type c.loop-operand.last (map operator_of xs)) all i x c.loop-operand-test.true c.operand-item.is
    ∙ c.loop-operand.invariant
