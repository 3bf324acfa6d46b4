use Rattle.std.proofs.Common.{◌≡◌, suc, ◌+◌, ◌∙◌, ap, arith, drop, sym}
use Rattle.ctl_meaning.specs.Lists.{same_list}
use Rattle.ctl_frames.proofs.Words.{all_same, differs_here, differs_long, same_here}
use Rattle.ctl_frames.proofs.spots.is_same_path.Goals as goal

pub returns-then-path-other : goal.returns-then-path-other
returns-then-path-other c = sym (differs_long c.args.path.now c.args.other.now c.if-path-other.true)

pub returns-then-path-at : goal.returns-then-path-at
returns-then-path-at c = let less = c.loop-at-test.true in sym (differs_here c.args.path.now c.args.other.now c.loop-at.at (omega (arith, less)) c.if-path-other.false c.if-path-at.true) ∙ c.loop-at.invariant

pub loop-at-preserved : goal.loop-at-preserved
loop-at-preserved c =
    let less = c.loop-at-test.true in
    let next : c.loop-at.at + 1 ≡ suc c.loop-at.at = omega arith in
    ap (λ n. same_list (drop n c.args.path.now) (drop n c.args.other.now)) next
    ∙ (sym (same_here c.args.path.now c.args.other.now c.loop-at.at (omega (arith, less)) c.if-path-other.false c.if-path-at.false) ∙ c.loop-at.invariant)

pub returns : goal.returns
returns c =
    let end = c.loop-at.auto.at-end in
    let past = c.loop-at-test.false in
    sym (all_same c.args.path.now c.args.other.now c.loop-at.at (omega (arith, end, past)) c.if-path-other.false) ∙ c.loop-at.invariant
