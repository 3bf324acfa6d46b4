-- What each layer of a tree has, by what its parts have.
use Rattle.std.proofs.Common.{◌≡◌, Option, ap, ◌∙◌}
use Rattle.ctl_layout.specs.Parts.{Reached}
use Rattle.ctl_program.specs.declared.expression.Expr.{Expr, roll-Expr, map-Expr, fold-roll-Expr}
use Rattle.ctl_program.specs.declared.expression.Name.{Name, roll-Name, map-Name, fold-roll-Name}
use Rattle.ctl_program.specs.declared.expression.Actual.{Actual, roll-Actual, map-Actual, fold-roll-Actual}
use Rattle.ctl_program.specs.declared.expression.Operand.{Operand, Operand-F, roll-Operand, map-Operand, fold-roll-Operand}
use Rattle.ctl_program.specs.declared.expression.Actual.TheOpen.{Actual-F, Expr-F, Name-F}
use Rattle.ctl_program.specs.declared.statement.Stmt.{Stmt, roll-Stmt, map-Stmt, fold-roll-Stmt}
use Rattle.ctl_program.specs.declared.statement.Stmt.TheOpen.{Stmt-F}
use Rattle.ctl_program.specs.declared.statement.Arm.{Arm, Arm-F, roll-Arm, map-Arm, fold-roll-Arm}
use Rattle.ctl_program.specs.declared.statement.Handler.{Handler, Handler-F, roll-Handler, map-Handler, fold-roll-Handler}
use Rattle.ctl_program.specs.declared.statement.Master.{Master, Master-F, roll-Master, map-Master, fold-roll-Master}
use Rattle.ctl_layout.specs.Values.{ActualCode, ValueCode, OperatorCode, value_code, reached_by, actual_code, operator_of, actual_step, value_step, name_step, operator_step}
use Rattle.ctl_layout.specs.Layout.{StatementCode, ArmCode, MasterCode, statement_code, arm_code, handler_code, master_code, statement_step, arm_step, handler_step, master_step}
use Rattle.ctl_layout.specs.Layout as L

pub value_roll : (y : Expr-F Actual Expr Name Operand) → value_code (roll-Expr y) ≡ value_step (map-Expr Actual Expr Name Operand ActualCode ValueCode (Option Reached) OperatorCode actual_code value_code reached_by operator_of y)
unfolding value_code reached_by actual_code operator_of
value_roll y = fold-roll-Expr ActualCode ValueCode (Option Reached) OperatorCode actual_step value_step name_step operator_step y

pub reached_roll : (y : Name-F Actual Expr Name Operand) → reached_by (roll-Name y) ≡ name_step (map-Name Actual Expr Name Operand ActualCode ValueCode (Option Reached) OperatorCode actual_code value_code reached_by operator_of y)
unfolding value_code reached_by actual_code operator_of
reached_roll y = fold-roll-Name ActualCode ValueCode (Option Reached) OperatorCode actual_step value_step name_step operator_step y

pub actual_roll : (y : Actual-F Actual Expr Name Operand) → actual_code (roll-Actual y) ≡ actual_step (map-Actual Actual Expr Name Operand ActualCode ValueCode (Option Reached) OperatorCode actual_code value_code reached_by operator_of y)
unfolding value_code reached_by actual_code operator_of
actual_roll y = fold-roll-Actual ActualCode ValueCode (Option Reached) OperatorCode actual_step value_step name_step operator_step y

pub operator_roll : (y : Operand-F Actual Expr Name Operand) → operator_of (roll-Operand y) ≡ operator_step (map-Operand Actual Expr Name Operand ActualCode ValueCode (Option Reached) OperatorCode actual_code value_code reached_by operator_of y)
unfolding value_code reached_by actual_code operator_of
operator_roll y = fold-roll-Operand ActualCode ValueCode (Option Reached) OperatorCode actual_step value_step name_step operator_step y

pub statement_roll : (y : Stmt-F Stmt Arm Handler Master) → statement_code (roll-Stmt y) ≡ statement_step (map-Stmt Stmt Arm Handler Master StatementCode ArmCode L.HandlerCode MasterCode statement_code arm_code handler_code master_code y)
unfolding statement_code arm_code handler_code master_code
statement_roll y = fold-roll-Stmt StatementCode ArmCode L.HandlerCode MasterCode statement_step arm_step handler_step master_step y

-- a statement has what its layer has
pub layer_of : {x : Stmt} (y : Stmt-F Stmt Arm Handler Master) → x ≡ roll-Stmt y → statement_code x ≡ statement_step (map-Stmt Stmt Arm Handler Master StatementCode ArmCode L.HandlerCode MasterCode statement_code arm_code handler_code master_code y)
layer_of {x} y is = ap statement_code is ∙ statement_roll y

pub arm_roll : (y : Arm-F Stmt Arm Handler Master) → arm_code (roll-Arm y) ≡ arm_step (map-Arm Stmt Arm Handler Master StatementCode ArmCode L.HandlerCode MasterCode statement_code arm_code handler_code master_code y)
unfolding statement_code arm_code handler_code master_code
arm_roll y = fold-roll-Arm StatementCode ArmCode L.HandlerCode MasterCode statement_step arm_step handler_step master_step y

pub handler_roll : (y : Handler-F Stmt Arm Handler Master) → handler_code (roll-Handler y) ≡ handler_step (map-Handler Stmt Arm Handler Master StatementCode ArmCode L.HandlerCode MasterCode statement_code arm_code handler_code master_code y)
unfolding statement_code arm_code handler_code master_code
handler_roll y = fold-roll-Handler StatementCode ArmCode L.HandlerCode MasterCode statement_step arm_step handler_step master_step y

pub master_roll : (y : Master-F Stmt Arm Handler Master) → master_code (roll-Master y) ≡ master_step (map-Master Stmt Arm Handler Master StatementCode ArmCode L.HandlerCode MasterCode statement_code arm_code handler_code master_code y)
unfolding statement_code arm_code handler_code master_code
master_roll y = fold-roll-Master StatementCode ArmCode L.HandlerCode MasterCode statement_step arm_step handler_step master_step y
