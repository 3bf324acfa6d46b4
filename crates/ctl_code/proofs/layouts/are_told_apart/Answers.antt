use Rattle.std.proofs.Common.{refl, arith}
use Rattle.ctl_code.proofs.Declarable.{is_none, there, told_all, told_none, told_some}
use Rattle.ctl_code.proofs.layouts.are_told_apart.Goals as goal

pub returns-in_default : goal.returns-in_default
returns-in_default c =
    let code = c.args.code.now in
    let xs = c.args.layout.now.begun.items in
    let x = there xs c.loop-at.at (omega (arith, c.loop-at-test.true)) in
    (λ t. cc t, λ e. absurd (told_none code xs c.loop-at.at x.0 c.args.layout.now.controlled.items c.loop-at.rest.now x.1 (c.in_default.ensures.none refl x.0 x.1) c.loop-at.invariant e))

pub loop-at-preserved : goal.loop-at-preserved
loop-at-preserved c =
    let code = c.args.code.now in
    let xs = c.args.layout.now.begun.items in
    let x = there xs c.loop-at.at (omega (arith, c.loop-at-test.true)) in
    told_some code xs c.loop-at.at x.0 c.args.layout.now.controlled.items c.loop-at.rest.now c.in-Some.others.now x.1 (c.in-Some.ensures.some x.0 x.1) c.loop-at.invariant

pub returns : goal.returns
returns c =
    let all = told_all c.args.code.now c.args.layout.now.begun.items c.loop-at.at c.args.layout.now.controlled.items c.loop-at.rest.now (omega (arith, c.loop-at-test.false)) c.loop-at.invariant in
    let empty = is_none c.loop-at.rest.now c.is_empty.result c.is_empty.ensures in
    (λ t. all.1 (empty.0 t), λ e. empty.1 (all.0 e))
