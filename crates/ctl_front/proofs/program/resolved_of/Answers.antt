use Rattle.ctl_front.proofs.Judging.{resolved_as}
use Rattle.ctl_front.proofs.program.resolved_of.Goals as goal

pub returns-clause-found : goal.returns-clause-found
returns-clause-found c =
    let found = c.in_ok-tree.ensures.found in
    resolved_as c.args.source.now found.0 (c.in_ok-tree.tree, c.in_ok-tree.field-0-1) found.1 found.2
