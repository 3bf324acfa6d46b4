use Rattle.std.proofs.Common.{Some, None}
use Rattle.ctl_program.specs.declared.expression.Expr.{Expr}
use Rattle.ctl_program.specs.declared.expression.Name.{Name}
use Rattle.ctl_program.specs.declared.statement.Stmt.{Stmt}
use Rattle.ctl_program.specs.declared.statement.Stmt.TheVariants as stmt
use Rattle.ctl_typing.specs.Judgement.{Judgement, known}
use Rattle.ctl_typing.specs.Typing.{sense}
use Rattle.ctl_statements.specs.Statements as spec
use Rattle.ctl_statements.proofs.Stages.{zipped_then}
use Rattle.ctl_statements.proofs.operation_calls.library_allocate.Goals as goal

abbrev made : (Name × Name) × (Expr × Expr) → Judgement Stmt
made r = known (stmt.LibraryAllocate r.0.0 r.0.1 r.1.0 r.1.1)

pub returns-in-Some : goal.returns-in-Some
returns-in-Some c =
    let tables = c.args.tables.now in
    let written = spec.pool_and_variable tables c.args.ty (sense c.args.pool.now) (sense c.args.address.now) in
    let measured = spec.measures tables (sense c.args.size.now) (sense c.args.alignment.now) in
    zipped_then written measured made c.args.notes.now c.pool_and_variable.new.notes c.measures.new.notes c.in_ok-written.written c.in_ok-measures.measures c.zip.result (Some (c.in-Some.written, c.in-Some.measures)) c.in_ok-written.ensures c.in_ok-measures.ensures c.zip.ensures c.in-Some.is

pub returns-in-None : goal.returns-in-None
returns-in-None c =
    let tables = c.args.tables.now in
    let written = spec.pool_and_variable tables c.args.ty (sense c.args.pool.now) (sense c.args.address.now) in
    let measured = spec.measures tables (sense c.args.size.now) (sense c.args.alignment.now) in
    zipped_then written measured made c.args.notes.now c.pool_and_variable.new.notes c.measures.new.notes c.in_ok-written.written c.in_ok-measures.measures c.zip.result None c.in_ok-written.ensures c.in_ok-measures.ensures c.zip.ensures c.in-None.is
