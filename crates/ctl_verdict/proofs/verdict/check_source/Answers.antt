use Rattle.std.proofs.Common.{inl, sym, ◌∙◌}
use Rattle.std.proofs.lemmas.Result.{err_from_is_err_and}
use Rattle.ctl_verdict.specs.Verdict.{accepted}
use Rattle.ctl_verdict.proofs.Verdicts.{by_construct, by_first, is_program}
use Rattle.ctl_verdict.proofs.verdict.check_source.Goals as goal

pub returns-in_err-program : goal.returns-in_err-program
returns-in_err-program c =
    let p = err_from_is_err_and c.from_residual.result c.from_residual.ensures.1 in
    rw (p.1, p.2) (by_first c.args.source.now c.in_err-program.field-0.0 c.in_err-program.ensures)

pub returns-in-Ok-true : goal.returns-in-Ok-true
returns-in-Ok-true c = inl (accepted (is_program c.args.source.now c.in_ok-program.program c.in_ok-program.ensures) (sym c.in-Ok-true.ensures ∙ c.in-Ok-true.field-0-test))

pub returns-in-Ok-false : goal.returns-in-Ok-false
returns-in-Ok-false c =
    by_construct c.args.source.now c.in_ok-program.program c.left_out.result
    (is_program c.args.source.now c.in_ok-program.program c.in_ok-program.ensures)
    (sym c.in-Ok-false.ensures ∙ c.in-Ok-false.field-0-test)
    c.left_out.ensures
