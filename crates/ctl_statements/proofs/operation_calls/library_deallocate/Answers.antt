use Rattle.std.proofs.Common.{Some, None}
use Rattle.ctl_program.specs.declared.expression.Expr.{Expr}
use Rattle.ctl_program.specs.declared.expression.Name.{Name}
use Rattle.ctl_program.specs.declared.statement.Stmt.{Stmt}
use Rattle.ctl_program.specs.declared.statement.Stmt.TheVariants as stmt
use Rattle.ctl_typing.specs.Judgement.{Judgement, known}
use Rattle.ctl_typing.specs.Typing.{sense}
use Rattle.ctl_statements.specs.Statements as spec
use Rattle.ctl_statements.proofs.Stages.{both_then}
use Rattle.ctl_statements.proofs.operation_calls.library_deallocate.Goals as goal

abbrev made : (Name × Expr) × (Expr × Expr) → Judgement Stmt
made r = known (stmt.LibraryDeallocate r.0.0 r.0.1 r.1.0 r.1.1)

pub returns-in-Some : goal.returns-in-Some
returns-in-Some c =
    let tables = c.args.tables.now in
    let read = spec.pool_and_address tables c.args.ty (sense c.args.pool.now) (sense c.args.address.now) in
    let measured = spec.measures tables (sense c.args.size.now) (sense c.args.alignment.now) in
    let middle = c.pool_and_address.new.notes in
    let ended = c.measures.new.notes in
    both_then read measured made c.args.notes.now middle ended c.in_ok-read.read c.in_ok-read-2.field-0 (Some (c.in-Some.read, c.in-Some.measures)) c.in_ok-read.ensures (c.in_ok-read-2.ensures measured middle ended c.measures.ensures) c.in-Some.is

pub returns-in-None : goal.returns-in-None
returns-in-None c =
    let tables = c.args.tables.now in
    let read = spec.pool_and_address tables c.args.ty (sense c.args.pool.now) (sense c.args.address.now) in
    let measured = spec.measures tables (sense c.args.size.now) (sense c.args.alignment.now) in
    let middle = c.pool_and_address.new.notes in
    let ended = c.measures.new.notes in
    both_then read measured made c.args.notes.now middle ended c.in_ok-read.read c.in_ok-read-2.field-0 None c.in_ok-read.ensures (c.in_ok-read-2.ensures measured middle ended c.measures.ensures) c.in-None.is
