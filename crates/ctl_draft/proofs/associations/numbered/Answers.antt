use Rattle.std.proofs.Common.{rules, ap, arith}
use Rattle.ctl_draft.specs.Marks as spec
use Rattle.ctl_typing.proofs.Countdown.{one_less}
use Rattle.ctl_draft.proofs.associations.numbered.Goals as goal

pub loop-number-preserved : goal.loop-number-preserved
loop-number-preserved c =
    let turn = ap (λ k. spec.numbers_on c.loop-number.numbers k c.loop-number.number) (one_less c.args.count c.loop-number.number c.loop-number-test.true) in
    record { within = omega (arith, c.loop-number-test.true); same = search (rules, turn) }
