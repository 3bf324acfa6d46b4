use Rattle.std.proofs.Common.{◌≡◌, ◌+◌, ◌-◌, suc, ap, ◌∙◌, arith}
use Rattle.ctl_emitter.proofs.EmittedCalls.{left, next_left, none_left}
use Rattle.ctl_emitter.proofs.emit.Emitter.leave_operands.Goals as goal

pub loop-preserved : goal.loop-preserved
loop-preserved c =
    let i = c.loop.counter in
    let n = c.args.count in
    let same : suc (n - (i + 1)) ≡ n - i = omega (arith, c.loop-test.true) in
    next_left (n - (i + 1)) c.loop.self c.leave.new.self c.leave.ensures ∙ ap (λ m. left m c.loop.self) same ∙ c.loop.invariant

pub returns : goal.returns
returns c =
    let none : 0 ≡ c.args.count - c.loop.counter = omega (arith, c.loop-test.false) in
    none_left c.loop.self ∙ ap (λ m. left m c.loop.self) none ∙ c.loop.invariant
