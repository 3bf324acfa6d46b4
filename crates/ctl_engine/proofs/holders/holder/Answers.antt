use Rattle.std.proofs.Common.{◌-◌, ◌∙◌, ap, arith, sym}
use Rattle.std.specs.Prelude.{slice_index_or}
use Rattle.ctl_code.specs.Table.{word_of}
use Rattle.ctl_frames.specs.declared.frame.Role.{Role}
use Rattle.ctl_frames.specs.Holders.{content_as, formal_in, own_formals}
use Rattle.ctl_frames.proofs.Newest.{any_owned}
use Rattle.ctl_engine.proofs.Walked.{holder_found, holder_passed}
use Rattle.ctl_engine.proofs.holders.holder.Goals as goal

pub returns-in-Object-clause-part : goal.returns-in-Object-clause-part
returns-in-Object-clause-part c =
    let owned = c.args.owned.now in
    let some = c.loop-at-test.true in
    let same = c.if-newest-slot.true in
    let o = slice_index_or owned (c.loop-at.at - 1) any_owned in
    let found = holder_found owned c.args.start c.loop-at.at c.args.slot any_owned (formal_in (own_formals c.args.master.now c.args.formals.now) c.args.slot) (omega (arith, some)) c.loop-at.invariant.0 (omega (arith, same)) in
    ap (λ (r : Role). word_of (content_as r o.number)) (sym c.in-Object.is) ∙ ap (λ x. word_of x) (sym found ∙ c.loop-at.invariant.1)

pub returns-in-Collection-clause-part : goal.returns-in-Collection-clause-part
returns-in-Collection-clause-part c =
    let owned = c.args.owned.now in
    let some = c.loop-at-test.true in
    let same = c.if-newest-slot.true in
    let o = slice_index_or owned (c.loop-at.at - 1) any_owned in
    let found = holder_found owned c.args.start c.loop-at.at c.args.slot any_owned (formal_in (own_formals c.args.master.now c.args.formals.now) c.args.slot) (omega (arith, some)) c.loop-at.invariant.0 (omega (arith, same)) in
    ap (λ (r : Role). word_of (content_as r o.number)) (sym c.in-Collection.is) ∙ ap (λ x. word_of x) (sym found ∙ c.loop-at.invariant.1)

pub loop-at-preserved : goal.loop-at-preserved
loop-at-preserved c =
    let some = c.loop-at-test.true in
    let differs = c.if-newest-slot.false in
    let within = c.loop-at.invariant.0 in
    (omega (arith, within), holder_passed c.args.owned.now c.args.start c.loop-at.at c.args.slot any_owned (formal_in (own_formals c.args.master.now c.args.formals.now) c.args.slot) (omega (arith, some)) within (λ same. omega (arith, differs, same)) ∙ c.loop-at.invariant.1)
