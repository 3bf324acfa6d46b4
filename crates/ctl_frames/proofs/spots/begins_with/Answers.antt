use Rattle.std.proofs.Common.{◌≡◌, suc, ◌+◌, ◌∙◌, ap, arith, drop, sym}
use Rattle.ctl_meaning.specs.Lists.{begins}
use Rattle.ctl_frames.proofs.Beginnings.{begins_here, begins_so_far, other_here, too_short}
use Rattle.ctl_frames.proofs.spots.begins_with.Goals as goal

pub returns-then-path-beginning : goal.returns-then-path-beginning
returns-then-path-beginning c = sym (too_short c.args.beginning.now c.args.path.now c.if-path-beginning.true)

pub returns-then-path-at : goal.returns-then-path-at
returns-then-path-at c =
    let less = c.loop-at-test.true in
    let long = c.if-path-beginning.false in
    sym (other_here c.args.beginning.now c.args.path.now c.loop-at.at (omega (arith, less)) (omega (arith, long)) c.if-path-at.true) ∙ c.loop-at.invariant

pub loop-at-preserved : goal.loop-at-preserved
loop-at-preserved c =
    let less = c.loop-at-test.true in
    let long = c.if-path-beginning.false in
    let next : c.loop-at.at + 1 ≡ suc c.loop-at.at = omega arith in
    ap (λ n. begins (drop n c.args.beginning.now) (drop n c.args.path.now)) next
    ∙ (sym (begins_here c.args.beginning.now c.args.path.now c.loop-at.at (omega (arith, less)) (omega (arith, long)) c.if-path-at.false) ∙ c.loop-at.invariant)

pub returns : goal.returns
returns c =
    let end = c.loop-at.auto.at-end in
    let past = c.loop-at-test.false in
    sym (begins_so_far c.args.beginning.now (drop c.loop-at.at c.args.path.now) c.loop-at.at (omega (arith, end, past))) ∙ c.loop-at.invariant
