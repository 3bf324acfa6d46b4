use Rattle.std.proofs.Common.{rules, ap, arith, length}
use Rattle.ctl_typing.specs.Lookup as spec
use Rattle.ctl_typing.proofs.Countdown.{one_less}
use Rattle.ctl_typing.proofs.lookup.descends.Goals as goal

pub loop-preserved : goal.loop-preserved
loop-preserved c =
    let rs = c.as_slice-records.result.now in
    let turn = ap (λ k. spec.descends_within k rs c.args.ancestor c.loop.at) (one_less (length rs) c.loop.counter c.loop-test.true) in
    record { within = omega (arith, c.loop-test.true); same = search (rules, turn) }
