use Rattle.std.proofs.Common.{◌≡◌, Some, refl, arith}
use Rattle.std.specs.Prelude.{slice_get}
use Rattle.std.proofs.lemmas.Grind.{common_steps}
use Rattle.std.proofs.lemmas.Option.{gets}
use Rattle.ctl_code.proofs.Declarable.{each_laid, one_more_laid}
use Rattle.ctl_code.proofs.layouts.are_layouts_fine.Goals as goal

pub loop-number-preserved : goal.loop-number-preserved
loop-number-preserved c =
    let found : slice_get c.args.code.now.layouts.items c.loop-number.number ≡ Some c.index.result.now = grind (arith, common_steps, gets) in
    one_more_laid c.args.code.now c.loop-number.number c.index.result.now found c.loop-number.invariant (c.if-not-is_laid.ensures.0 refl)

pub returns : goal.returns
returns c = (λ t. each_laid c.args.code.now c.loop-number.number (omega (arith, c.loop-number-test.false, c.as_slice-number-end.ensures.len)) c.loop-number.invariant, λ laid. refl)
