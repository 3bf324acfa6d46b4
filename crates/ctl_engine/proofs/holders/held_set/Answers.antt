use Rattle.std.proofs.Common.{◌-◌, ◌∙◌, List, ap, arith, sym}
use Rattle.std.specs.Prelude.{slice_index_or}
use Rattle.ctl_meaning.specs.Allocation as Allocation
use Rattle.ctl_meaning.specs.World.{Content, Nothing}
use Rattle.ctl_frames.specs.declared.frame.Owned.{Owned}
use Rattle.ctl_frames.specs.declared.frame.Role.{Role}
use Rattle.ctl_frames.specs.Holders.{content_as, holder_in}
use Rattle.ctl_frames.proofs.Newest.{any_owned}
use Rattle.ctl_engine.proofs.Walked.{holder_found, holder_passed, none_taken}
use Rattle.ctl_engine.proofs.holders.held_set.Goals as goal

pub returns-in-Object : goal.returns-in-Object
unfolding Allocation.set_in
returns-in-Object c =
    let owned = c.args.owned.now in
    let some = c.loop-at-test.true in
    let same = c.if-newest-slot.true in
    let o = slice_index_or owned (c.loop-at.at - 1) any_owned in
    let found = holder_found owned c.args.start c.loop-at.at c.args.slot any_owned Nothing (omega (arith, some)) c.loop-at.invariant.0 (omega (arith, same)) in
    ap (λ (r : Role). Allocation.set_in (content_as r o.number)) (sym c.in-Object.is) ∙ ap (λ (x : Content). Allocation.set_in x) (sym found ∙ c.loop-at.invariant.1)

pub returns-in-Collection : goal.returns-in-Collection
unfolding Allocation.set_in
returns-in-Collection c =
    let owned = c.args.owned.now in
    let some = c.loop-at-test.true in
    let same = c.if-newest-slot.true in
    let o = slice_index_or owned (c.loop-at.at - 1) any_owned in
    let found = holder_found owned c.args.start c.loop-at.at c.args.slot any_owned Nothing (omega (arith, some)) c.loop-at.invariant.0 (omega (arith, same)) in
    ap (λ (r : Role). Allocation.set_in (content_as r o.number)) (sym c.in-Collection.is) ∙ ap (λ (x : Content). Allocation.set_in x) (sym found ∙ c.loop-at.invariant.1)

pub loop-at-preserved : goal.loop-at-preserved
loop-at-preserved c =
    let some = c.loop-at-test.true in
    let differs = c.if-newest-slot.false in
    let within = c.loop-at.invariant.0 in
    (omega (arith, within), holder_passed c.args.owned.now c.args.start c.loop-at.at c.args.slot any_owned Nothing (omega (arith, some)) within (λ same. omega (arith, differs, same)) ∙ c.loop-at.invariant.1)

pub returns : goal.returns
unfolding Allocation.set_in
returns c =
    let owned = c.args.owned.now in
    let none = none_taken owned c.loop-at.at c.args.start (omega (arith, c.loop-at-test.false)) in
    ap (λ (l : List Owned). Allocation.set_in (holder_in l c.args.slot Nothing)) (sym none) ∙ ap (λ (x : Content). Allocation.set_in x) c.loop-at.invariant.1
