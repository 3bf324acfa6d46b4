use Rattle.std.proofs.Common.{ap, sym, ◌∙◌}
use Rattle.ctl_typing.specs.Typing.{adopts}
use Rattle.ctl_typing.proofs.Parting.{leads}
use Rattle.ctl_typing.proofs.adopting.parted.Goals as goal

pub returns-then-not-takes_on : goal.returns-then-not-takes_on
returns-then-not-takes_on c = leads c.args.operands.now c.loop-at.at c.index-operands-at.result c.loop-at-test.true c.index-operands-at.is (ap adopts (sym c.adopts.ensures) ∙ sym c.takes_on.ensures ∙ c.if-not-takes_on.true) c.loop-at.invariant
