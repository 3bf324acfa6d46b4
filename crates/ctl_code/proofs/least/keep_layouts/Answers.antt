use Rattle.std.proofs.Common.{◌≡◌, ◌+◌, ◌≤◌, List, length, Some, sym, subst, arith}
use Rattle.std.specs.Prelude.{slice_get}
use Rattle.std.proofs.lemmas.Grind.{common_steps}
use Rattle.std.proofs.lemmas.Option.{gets}
use Rattle.ctl_code.specs.declared.code.Layout.{Layout}
use Rattle.ctl_code.specs.Homes.{Raises}
use Rattle.ctl_code.proofs.Raising.{IsAroundAt, UpTo, layout_raised, layouts_raised, one_more_up_to}
use Rattle.ctl_code.proofs.least.keep_layouts.Goals as goal

pub loop-number-preserved : goal.loop-number-preserved
loop-number-preserved c =
    let code = c.args.code.now in
    let t = c.loop-number.number in
    let x = c.layout-item.result in
    let found : slice_get code.layouts.items t ≡ Some x = grind (arith, common_steps, gets) in
    let mid = c.loop-number.homes in
    let new = c.keep_layout.new.homes in
    let R = IsAroundAt code in
    subst (λ b. Raises (UpTo R (t + 1)) c.args.homes.now new b) (sym c.either-raised.ensures)
    (one_more_up_to R t c.args.homes.now mid new c.loop-number.raised c.in_ok-more.more c.loop-number.invariant (layout_raised code t x mid new c.in_ok-more.more found c.in_ok-more.ensures))

pub returns : goal.returns
returns c =
    let code = c.args.code.now in
    let t = c.loop-number.number in
    let end : length code.layouts.items ≤ t = subst (λ (xs : List Layout). length xs ≤ t) c.deref-layout-items.ensures.value c.loop-number-test.false in
    layouts_raised code t c.args.homes.now c.loop-number.homes c.loop-number.raised end c.loop-number.invariant
