use Rattle.std.proofs.Common.{rules}
use Rattle.std.proofs.lemmas.Result.{err_from_is_err_and}
use Rattle.ctl_run.proofs.into.show_run.Goals as goal

pub returns-in_err-put_run-clause-write : goal.returns-in_err-put_run-clause-write
returns-in_err-put_run-clause-write g c = λ is. c.in_err-put_run.ensures.write (search rules)

pub returns-in_err-put_run-clause-memory : goal.returns-in_err-put_run-clause-memory
returns-in_err-put_run-clause-memory g c =
    let p = err_from_is_err_and c.from_residual.result c.from_residual.ensures.1 in
    rw (p.1, p.2) c.in_err-put_run.ensures.memory
