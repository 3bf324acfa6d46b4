use Rattle.std.proofs.lemmas.Result.{err_from_is_err_and}
use Rattle.ctl_verdict.proofs.Verdicts.{refused_for, verdict_of}
use Rattle.ctl_verdict.proofs.verdict.accept_source.Goals as goal

pub returns-in_err-program-clause-refused : goal.returns-in_err-program-clause-refused
returns-in_err-program-clause-refused c =
    let p = err_from_is_err_and c.from_residual.result c.from_residual.ensures.1 in
    rw (p.1, p.2) (refused_for c.args.source.now c.in_err-program.field-0.0 c.in_err-program.ensures)

pub returns-clause-accepted : goal.returns-clause-accepted
returns-clause-accepted c = (c.in_ok-program.program, verdict_of c.args.source.now c.in_ok-program.program c.in_ok-program.ensures)
