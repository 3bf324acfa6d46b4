use Rattle.std.proofs.Common.{◌+◌, ◌<◌, length, arith}
use Rattle.ctl_emit.proofs.EmittedStatements.{not_last}
use Rattle.ctl_emit.proofs.emit_statements.layer_of.Goals as goal

pub returns-else-index-accesses : goal.returns-else-index-accesses
returns-else-index-accesses c =
    let more : c.args.index + 1 < length c.args.accesses.now = omega (arith, c.requires, c.if-index-accesses.false) in
    not_last c.args.accesses.now (c.args.index + 1) (c.args.index + 1) more
