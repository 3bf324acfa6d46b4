use Rattle.std.proofs.Common.{◌+◌, ◌-◌, arith}
use Rattle.std.specs.Prelude.{◌/◌, slice_index_or}
use Rattle.ctl_objects.proofs.Found.{any_declaration, get_index, goes_behind, goes_before, none_behind, none_between}
use Rattle.ctl_objects.proofs.declarations.find.Goals as goal

pub loop-low-preserved-then-found-number-2 : goal.loop-low-preserved-then-found-number-2
loop-low-preserved-then-found-number-2 c =
    let middle = c.loop-low.low + (c.loop-low.high - c.loop-low.low) / 2 in
    let within = c.loop-low.invariant.0 in
    let some = c.loop-low-test.true in
    let less = c.if-found-number-2.true in
    (within, goes_behind c.args.objects.now middle c.args.number any_declaration c.requires (omega (arith, within, some)) (omega (arith, less)), c.loop-low.invariant.2)

pub loop-low-preserved : goal.loop-low-preserved
loop-low-preserved c =
    let middle = c.loop-low.low + (c.loop-low.high - c.loop-low.low) / 2 in
    let within = c.loop-low.invariant.0 in
    let some = c.loop-low-test.true in
    let differs = c.if-found-number.false in
    let more = c.if-found-number-2.false in
    (omega (arith, within, some), c.loop-low.invariant.1, goes_before c.args.objects.now middle c.args.number any_declaration c.requires (omega (arith, within, some)) (omega (arith, differs, more)))

pub returns-clause-none : goal.returns-clause-none
returns-clause-none c = λ t. none_between c.args.number c.args.objects.now c.loop-low.low c.loop-low.high (omega (arith, c.loop-low-test.false)) c.loop-low.invariant.1 c.loop-low.invariant.2

pub returns-then-newest-number-2-clause-none : goal.returns-then-newest-number-2-clause-none
returns-then-newest-number-2-clause-none c = λ t. none_behind c.args.objects.now c.args.number any_declaration c.requires c.in-len1-up.len_at_least c.if-newest-number-2.true

pub returns-then-found-number-clause-some : goal.returns-then-found-number-clause-some
returns-then-found-number-clause-some c =
    let os = c.args.objects.now in
    let middle = c.loop-low.low + (c.loop-low.high - c.loop-low.low) / 2 in
    let within = c.loop-low.invariant.0 in
    let some = c.loop-low-test.true in
    (slice_index_or os middle any_declaration, get_index os middle any_declaration (omega (arith, within, some)), c.if-found-number.true)
