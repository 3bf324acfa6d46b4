use Rattle.std.proofs.Common.{◌≡◌, Some, None, arith}
use Rattle.std.specs.Prelude.{slice_get}
use Rattle.std.proofs.lemmas.Grind.{common_steps}
use Rattle.std.proofs.lemmas.Option.{gets}
use Rattle.ctl_code.proofs.Declarable.{declarable, not_declarable}
use Rattle.ctl_code.proofs.layouts.is_declarable.Goals as goal

pub returns-in-Some : goal.returns-in-Some
returns-in-Some c =
    let got : slice_get c.args.code.now.layouts.items c.args.number ≡ Some c.in-Some.layout.now = grind (arith, common_steps, gets) in
    declarable c.args.code.now c.args.masters c.args.number c.in-Some.layout.now got

pub returns-in-None : goal.returns-in-None
returns-in-None c =
    let none : slice_get c.args.code.now.layouts.items c.args.number ≡ None = grind (arith, common_steps, gets) in
    (λ t. cc t, λ h. absurd (not_declarable c.args.code.now c.args.masters c.args.number none h))
