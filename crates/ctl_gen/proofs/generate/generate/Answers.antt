use Rattle.std.proofs.Common.{refl, sym, subst}
use Rattle.ctl_code.specs.Valid.{IsValid}
use Rattle.ctl_gen.specs.Correct.{Behaves}
use Rattle.ctl_gen.proofs.FormedWhole.{is_valid}
use Rattle.ctl_gen.proofs.Whole.{behaves}
use Rattle.ctl_gen.proofs.generate.generate.Goals as goal

pub returns-in-Some-clause-behaves : goal.returns-in-Some-clause-behaves
returns-in-Some-clause-behaves c run_it linked =
    let made = c.in_ok-assemble.ensures in
    let same = c.in-Some.ensures.same in
    let valid = subst IsValid same c.in-Some.ensures.valid in
    subst (Behaves c.args.program.now) (sym same) (behaves c.args.program.now c.in_ok-assemble.field-0 made.laid_out made.kinds valid run_it linked)

pub returns-in-None-clause-memory : goal.returns-in-None-clause-memory
returns-in-None-clause-memory c run_it typed =
    absurd (c.in-None.ensures.refused refl (is_valid c.args.program.now c.in_ok-assemble.field-0 c.in_ok-assemble.ensures.laid_out c.in_ok-assemble.ensures.kinds c.in_ok-assemble.ensures.homes run_it typed))
