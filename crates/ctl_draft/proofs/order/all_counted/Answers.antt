use Rattle.std.proofs.Common.{rules, ap, length}
use Rattle.ctl_draft.specs.Freezing as spec
use Rattle.ctl_typing.proofs.Countdown.{one_less}
use Rattle.ctl_draft.proofs.order.all_counted.Goals as goal

pub loop-number-preserved : goal.loop-number-preserved
loop-number-preserved c =
    let rs = c.args.records.now in
    let turn = ap (λ k. spec.counted_up rs k c.loop-number.number c.loop-number.states) (one_less (length rs) c.loop-number.number c.loop-number-test.true) in
    search (rules, turn)
