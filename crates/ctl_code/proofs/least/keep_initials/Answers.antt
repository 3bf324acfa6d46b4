use Rattle.std.proofs.Common.{◌≡◌, ◌+◌, ◌≤◌, List, length, get_or, Some, sym, subst}
use Rattle.std.specs.Prelude.{slice_get}
use Rattle.std.proofs.lemmas.Option.{slice_get-get_or}
use Rattle.ctl_code.specs.declared.code.Begun.{Begun}
use Rattle.ctl_code.specs.declared.code.Initial.TheVariants.{Constant}
use Rattle.ctl_code.specs.Demands.{with_counts}
use Rattle.ctl_code.specs.Homes.{Raises}
use Rattle.ctl_code.specs.Valid.{IsInitialWithin}
use Rattle.ctl_code.proofs.Raising.{IsWithinAt, UpTo, initial_raised, initials_raised, one_more_up_to}
use Rattle.ctl_code.proofs.least.keep_initials.Goals as goal

pub loop-component-preserved : goal.loop-component-preserved
loop-component-preserved c =
    let t = c.args.number in
    let xs = c.args.layout.now.begun.items in
    let ys = c.deref-component-items.result.now in
    let i = c.loop-component.component-index in
    let x : Begun = get_or ys i (record { position = 0; offset = 0; initial = Constant 0 }) in
    let found : slice_get xs i ≡ Some x = subst (λ zs. slice_get zs i ≡ Some x) c.deref-component-items.ensures.value (slice_get-get_or ys i (record { position = 0; offset = 0; initial = Constant 0 }) c.loop-component-test.true) in
    let mid = c.loop-component.homes in
    let new = c.keep_initial.new.homes in
    let code = c.args.code.now in
    let R = IsWithinAt code t xs in
    subst (λ b. Raises (UpTo R (i + 1)) c.args.homes.now new b) (sym c.either-raised.ensures)
    (one_more_up_to R i c.args.homes.now mid new c.loop-component.raised c.in_ok-more.more c.loop-component.invariant (initial_raised code t xs i x mid new c.in_ok-more.more found (subst (λ place. Raises (λ counts. IsInitialWithin (with_counts counts code) t place x.initial) mid new c.in_ok-more.more) c.default_of-place.ensures c.in_ok-more.ensures)))

pub returns : goal.returns
returns c =
    let i = c.loop-component.component-index in
    let end : length c.args.layout.now.begun.items ≤ i = subst (λ (xs : List Begun). length xs ≤ i) c.deref-component-items.ensures.value c.loop-component-test.false in
    initials_raised c.args.code.now c.args.number c.args.layout.now.begun.items i c.args.homes.now c.loop-component.homes c.loop-component.raised end c.loop-component.invariant
