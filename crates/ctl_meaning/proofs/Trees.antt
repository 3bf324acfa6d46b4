-- What a tree means, by its first layer: each step of a fold.
use Rattle.std.proofs.Common.{◌≡◌}
use Rattle.ctl_program.specs.declared.expression.Expr.{Expr, roll-Expr, map-Expr, fold-roll-Expr}
use Rattle.ctl_program.specs.declared.expression.Name.{Name, roll-Name, map-Name, fold-roll-Name}
use Rattle.ctl_program.specs.declared.expression.Actual.{Actual, roll-Actual, map-Actual, fold-roll-Actual}
use Rattle.ctl_program.specs.declared.expression.Operand.{Operand, Operand-F, roll-Operand, map-Operand, fold-roll-Operand}
use Rattle.ctl_program.specs.declared.expression.Actual.TheOpen.{Actual-F, Expr-F, Name-F}
use Rattle.ctl_program.specs.declared.statement.Stmt.{Stmt, roll-Stmt, map-Stmt, fold-roll-Stmt}
use Rattle.ctl_program.specs.declared.statement.Stmt.TheOpen.{Stmt-F}
use Rattle.ctl_program.specs.declared.statement.Arm.{Arm, Arm-F, roll-Arm, map-Arm, fold-roll-Arm}
use Rattle.ctl_program.specs.declared.statement.Handler.{Handler, Handler-F, roll-Handler, map-Handler, fold-roll-Handler}
use Rattle.ctl_program.specs.declared.statement.Master.{Master, Master-F, roll-Master, map-Master, fold-roll-Master}
use Rattle.ctl_meaning.specs.Expressions.{Supplied, Valued, Naming, Applied, actual_step, eval_step, name_step, operand_step, eval, eval_name, supply, apply}
use Rattle.ctl_meaning.specs.Statements.{Doing, Guarding, Body, exec_step, arm_step, handler_step, master_step, exec, arm_of, handler_of, body_of}

pub eval_roll : (y : Expr-F Actual Expr Name Operand) → eval (roll-Expr y) ≡ eval_step (map-Expr Actual Expr Name Operand Supplied Valued Naming Applied supply eval eval_name apply y)
unfolding eval eval_name supply apply
eval_roll y = fold-roll-Expr Supplied Valued Naming Applied actual_step eval_step name_step operand_step y

pub name_roll : (y : Name-F Actual Expr Name Operand) → eval_name (roll-Name y) ≡ name_step (map-Name Actual Expr Name Operand Supplied Valued Naming Applied supply eval eval_name apply y)
unfolding eval eval_name supply apply
name_roll y = fold-roll-Name Supplied Valued Naming Applied actual_step eval_step name_step operand_step y

pub actual_roll : (y : Actual-F Actual Expr Name Operand) → supply (roll-Actual y) ≡ actual_step (map-Actual Actual Expr Name Operand Supplied Valued Naming Applied supply eval eval_name apply y)
unfolding eval eval_name supply apply
actual_roll y = fold-roll-Actual Supplied Valued Naming Applied actual_step eval_step name_step operand_step y

pub operand_roll : (y : Operand-F Actual Expr Name Operand) → apply (roll-Operand y) ≡ operand_step (map-Operand Actual Expr Name Operand Supplied Valued Naming Applied supply eval eval_name apply y)
unfolding eval eval_name supply apply
operand_roll y = fold-roll-Operand Supplied Valued Naming Applied actual_step eval_step name_step operand_step y

pub exec_roll : (y : Stmt-F Stmt Arm Handler Master) → exec (roll-Stmt y) ≡ exec_step (map-Stmt Stmt Arm Handler Master Doing Guarding Guarding Body exec arm_of handler_of body_of y)
unfolding exec arm_of handler_of body_of
exec_roll y = fold-roll-Stmt Doing Guarding Guarding Body exec_step arm_step handler_step master_step y

pub arm_roll : (y : Arm-F Stmt Arm Handler Master) → arm_of (roll-Arm y) ≡ arm_step (map-Arm Stmt Arm Handler Master Doing Guarding Guarding Body exec arm_of handler_of body_of y)
unfolding exec arm_of handler_of body_of
arm_roll y = fold-roll-Arm Doing Guarding Guarding Body exec_step arm_step handler_step master_step y

pub handler_roll : (y : Handler-F Stmt Arm Handler Master) → handler_of (roll-Handler y) ≡ handler_step (map-Handler Stmt Arm Handler Master Doing Guarding Guarding Body exec arm_of handler_of body_of y)
unfolding exec arm_of handler_of body_of
handler_roll y = fold-roll-Handler Doing Guarding Guarding Body exec_step arm_step handler_step master_step y

pub master_roll : (y : Master-F Stmt Arm Handler Master) → body_of (roll-Master y) ≡ master_step (map-Master Stmt Arm Handler Master Doing Guarding Guarding Body exec arm_of handler_of body_of y)
unfolding exec arm_of handler_of body_of
master_roll y = fold-roll-Master Doing Guarding Guarding Body exec_step arm_step handler_step master_step y
