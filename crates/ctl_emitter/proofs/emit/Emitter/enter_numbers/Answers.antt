use Rattle.std.proofs.Common.{◌≡◌, ◌+◌, ◌-◌, suc, ap, ◌∙◌, arith}
use Rattle.ctl_emitter.proofs.EmittedCalls.{numbered, next_number, no_number}
use Rattle.ctl_emitter.proofs.emit.Emitter.enter_numbers.Goals as goal

pub loop-preserved : goal.loop-preserved
loop-preserved c =
    let i = c.loop.counter in
    let n = c.args.count in
    let same : suc (n - (i + 1)) ≡ n - i = omega (arith, c.loop-test.true) in
    next_number (n - (i + 1)) c.loop.self c.enter.new.self c.in_ok-enter.ensures ∙ ap (λ m. numbered m c.loop.self) same ∙ c.loop.invariant

pub returns : goal.returns
returns c =
    let none : 0 ≡ c.args.count - c.loop.counter = omega (arith, c.loop-test.false) in
    no_number c.loop.self ∙ ap (λ m. numbered m c.loop.self) none ∙ c.loop.invariant
