use Rattle.std.proofs.Common.{◌≡◌, ◌+◌, ap, sym, ◌∙◌, map, drop, length, length-drop, arith}
use Rattle.std.proofs.lemmas.List.{drop_all, length-map}
use Rattle.ctl_emitter.specs.Emitted.{lined}
use Rattle.ctl_layout.specs.Values.{actual_code, backs_code}
use Rattle.ctl_layout.proofs.Turns.{turn_of}
use Rattle.ctl_emitter.proofs.EmittedCalls.{next_back, no_back}
use Rattle.ctl_emitter.proofs.emit.Emitter.copies_back.Goals as goal

pub loop-one-preserved : goal.loop-one-preserved
loop-one-preserved c =
    let all = c.args.actuals.now in
    let i = c.loop-one.one-index in
    let x = c.one-item.result in
    let rest = drop (i + 1) all in
    let at = c.loop-one.at in
    let below = c.loop-one.below in
    let count = c.loop-one.invariant.2 in
    let few = c.loop-one.invariant.3 in
    let two = c.numbers_of-below.ensures.few in
    let long = length-drop (i + 1) all in
    let same = length-map rest actual_code in
    let from : c.loop-one.depth ≡ length (map actual_code rest) + 1 = omega (arith, count, long, same, c.loop-one-test.true) in (
      next_back (actual_code x) (map actual_code rest) c.loop-one.depth at below (below + c.numbers_of-below.result) c.loop-one.self c.copy_back.new.self from (ap (λ n. below + n) c.numbers_of-below.ensures.same) c.in_ok-copy_back.ensures
          ∙ turn_of (λ xs. lined (backs_code (map actual_code xs) at below) c.loop-one.self) all i x c.loop-one-test.true c.one-item.is
          ∙ c.loop-one.invariant.0,
      omega (arith, c.loop-one.invariant.1),
      omega (arith, c.saturating_sub-depth.ensures, count, c.loop-one-test.true),
      omega (arith, few, two),
    )

pub returns : goal.returns
returns c =
    no_back c.loop-one.at c.loop-one.below c.loop-one.self
    ∙ ap (λ xs. lined (backs_code (map actual_code xs) c.loop-one.at c.loop-one.below) c.loop-one.self) (sym (drop_all c.loop-one.one-index c.args.actuals.now c.loop-one-test.false))
    ∙ c.loop-one.invariant.0
