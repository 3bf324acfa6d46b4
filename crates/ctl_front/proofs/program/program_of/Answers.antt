use Rattle.std.proofs.lemmas.Result.{err_from_is_err_and}
use Rattle.ctl_front.proofs.Judging.{answered_by, unread}
use Rattle.ctl_front.proofs.program.program_of.Goals as goal

pub returns-in_err-tree : goal.returns-in_err-tree
returns-in_err-tree c =
    let p = err_from_is_err_and c.from_residual.result c.from_residual.ensures.1 in
    rw (p.1, p.2) (unread c.args.source.now c.in_err-tree.field-0.0 c.in_err-tree.ensures.refused)

pub returns : goal.returns
returns c =
    let found = c.in_ok-tree.ensures.found in
    answered_by c.args.source.now found.0 (c.in_ok-tree.tree, c.in_ok-tree.broken) c.check.result found.1 found.2 c.check.ensures
