use Rattle.std.proofs.Common.{◌≡◌, ◌∙◌, ◌-◌, Some, ap, arith, sym}
use Rattle.std.specs.Prelude.{slice_get}
use Rattle.ctl_code.specs.Table.{word_of}
use Rattle.ctl_frames.specs.declared.frame.Formal.{Formal}
use Rattle.ctl_frames.specs.Holders.{held_by}
use Rattle.ctl_frames.proofs.Links.{got}
use Rattle.ctl_engine.proofs.Walked.{formal_found, formal_passed, formal_word}
use Rattle.ctl_engine.proofs.holders.formal.Goals as goal

pub returns-then-formals-at-clause-part : goal.returns-then-formals-at-clause-part
returns-then-formals-at-clause-part c =
    let some = c.loop-at-test.true in
    let same = c.if-formals-at.true in
    let within = c.loop-at.invariant.0 in
    let f = c.index-formals-at.result in
    let found : slice_get c.args.formals.now (c.loop-at.at - 1) ≡ Some f = got c.args.formals.now (c.loop-at.at - 1) f (omega (arith, some, within)) c.index-formals-at.is in
    ap (λ o. held_by o) found
    ∙ formal_word f
    ∙ ap (λ x. word_of x) (sym (formal_found c.args.formals.now c.args.start c.loop-at.at c.args.slot f (omega (arith, some)) found (let is = ap (λ (x : Formal). x.slot) c.index-formals-at.is in omega (arith, same, is))) ∙ c.loop-at.invariant.1)

pub loop-at-preserved : goal.loop-at-preserved
loop-at-preserved c =
    let some = c.loop-at-test.true in
    let differs = c.if-formals-at.false in
    let within = c.loop-at.invariant.0 in
    let f = c.index-formals-at.result in
    let found : slice_get c.args.formals.now (c.loop-at.at - 1) ≡ Some f = got c.args.formals.now (c.loop-at.at - 1) f (omega (arith, some, within)) c.index-formals-at.is in
    (omega (arith, within), formal_passed c.args.formals.now c.args.start c.loop-at.at c.args.slot f (omega (arith, some)) found (λ same. let is = ap (λ (x : Formal). x.slot) c.index-formals-at.is in omega (arith, differs, same, is)) ∙ c.loop-at.invariant.1)
