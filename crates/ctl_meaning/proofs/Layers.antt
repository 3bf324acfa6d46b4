-- What is said of the parts of a program, and that each construct keeps it: it holds of a construct where it holds of the parts.
use Rattle.std.proofs.Common.{ℕ, List, Option}
use Rattle.ctl_program.specs.declared.types.Ty.{Ty}
use Rattle.ctl_program.specs.declared.types.Var.{Var}
use Rattle.ctl_program.specs.declared.operators.CopyStart.{CopyStart}
use Rattle.ctl_program.specs.declared.operators.Shortcut.{Shortcut}
use Rattle.ctl_program.specs.declared.operators.SubpoolFunction.{SubpoolFunction}
use Rattle.ctl_program.specs.declared.operators.Operation.{Operation}
use Rattle.ctl_program.specs.declared.operators.Direction.{Direction}
use Rattle.ctl_program.specs.declared.operators.UnaryOp.{UnaryOp}
use Rattle.ctl_program.specs.declared.operators.BinaryOp.{BinaryOp}
use Rattle.ctl_program.specs.declared.expression.Actual.TheOpen.{Actual-F, Expr-F, Name-F}
use Rattle.ctl_program.specs.declared.expression.Step.{Step}
use Rattle.ctl_program.specs.declared.statement.Choices.{Choices}
use Rattle.ctl_meaning.specs.Expressions.{Valued, Naming, Applied, Supplied, eval_step, operand_step, name_step, actual_step}
use Rattle.ctl_meaning.specs.Masters.{Elaborating}
use Rattle.ctl_meaning.specs.Masters as M
use Rattle.ctl_meaning.specs.Statements.{Doing, Guarding, Body}
use Rattle.ctl_meaning.specs.Statements as S
use Rattle.ctl_meaning.proofs.Relation.{Each, IfSome}

-- what is said of expressions and of their parts
pub record OfExpressions : Type 1 where
  pub Value : Valued → Type 0
  pub Name : Naming → Type 0
  pub Operand : Applied → Type 0
  pub Actual : Supplied → Type 0

-- what is said of statements, of arms and handlers, and of masters and their items
pub record OfStatements : Type 1 where
  pub Item : Elaborating → Type 0
  pub Statement : Doing → Type 0
  pub Guard : Guarding → Type 0
  pub Master : Body → Type 0

-- what each layer of an expression keeps
pub record Expressions (P : OfExpressions) : Type 0 where
  -- expressions (4.1.3 to 4.8)
  pub constant : (n : ℕ) → P.Value (eval_step (Expr-F.Constant n))
  pub read : (n : Naming) (ty : Ty) → P.Name n → P.Value (eval_step (Expr-F.Read n ty))
  pub call : (f : ℕ) (xs : List Supplied) (ty : Ty) → Each P.Actual xs → P.Value (eval_step (Expr-F.Call f xs ty))
  pub unary : (op : UnaryOp) (ty : Ty) (e : Valued) → P.Value e → P.Value (eval_step (Expr-F.Unary op ty e))
  pub chain : (e : Valued) (o : Applied) (os : List Applied) → P.Value e → P.Operand o → Each P.Operand os → P.Value (eval_step (Expr-F.Chain e o os))
  pub short : (op : Shortcut) (e f : Valued) (es : List Valued) → P.Value e → P.Value f → Each P.Value es → P.Value (eval_step (Expr-F.Short op e f es))
  pub convert : (ty : Ty) (e : Valued) → P.Value e → P.Value (eval_step (Expr-F.Convert ty e))
  pub access : (v : Var) → P.Value (eval_step (Expr-F.Access v))
  pub new : (access : ℕ) (ty : Ty) (x y : Option Valued) → IfSome P.Value x → IfSome P.Value y → P.Value (eval_step (Expr-F.New access ty x y))
  pub subpool : (which : SubpoolFunction) (n : Naming) → P.Name n → P.Value (eval_step (Expr-F.Subpool which n))
  pub discriminant : (n : Naming) (i : ℕ) → P.Name n → P.Value (eval_step (Expr-F.Discriminant n i))
  -- the operators of a chain with their right operands (4.5)
  pub operand : (op : BinaryOp) (ty : Ty) (e : Valued) → P.Value e → P.Operand (operand_step (record { op = op; ty = ty; right = e }))
  -- names (4.1)
  pub variable : (v : Var) (ss : List Step) → P.Name (name_step (Name-F.Variable v ss))
  pub given : (e : Valued) (ss : List Step) → P.Value e → P.Name (name_step (Name-F.Given e ss))
  -- actual parameters (6.4.1)
  pub by_value : (e : Valued) (ty : Ty) → P.Value e → P.Actual (actual_step (Actual-F.ByValue e ty))
  pub part : (n : Naming) (ty : Ty) → P.Name n → P.Actual (actual_step (Actual-F.Part n ty))
  pub copied : (n : Naming) (ty : Ty) (b : CopyStart) → P.Name n → P.Actual (actual_step (Actual-F.Copied n ty b))

-- what each item of a declarative part keeps (3.11)
pub record Declarations (P : OfExpressions) (Item : Elaborating → Type 0) : Type 0 where
  pub collections : (accesses : List ℕ) → Item (M.collections accesses)
  pub object : (slot : ℕ) (ty : Ty) (v : Option Valued) → IfSome P.Value v → Item (M.object slot ty v)
  pub pool : (slot u : ℕ) (ds : List (ℕ × Valued)) → Each (λ x. P.Value x.1) ds → Item (M.pool slot u ds)
  pub silent : Item M.silent

-- what each layer of a statement keeps
pub record Statements (P : OfExpressions) (Q : OfStatements) : Type 0 where
  -- the pieces of a text that is printed
  pub literal : (v : List ℕ) → P.Value (S.literal v)
  pub integer_text : (e : Valued) → P.Value e → P.Value (S.integer_text e)
  pub boolean_text : (e : Valued) → P.Value e → P.Value (S.boolean_text e)
  -- simple statements (5.1)
  pub null : Q.Statement S.null
  pub assign : (n : Naming) (v : Valued) → P.Name n → P.Value v → Q.Statement (S.assign n v)
  pub assign_part : (n : Naming) (u : ℕ) (a : Supplied) → P.Name n → P.Actual a → Q.Statement (S.assign_part n u a)
  pub call_statement : (f : ℕ) (xs : List Supplied) → Each P.Actual xs → Q.Statement (S.call f xs)
  pub call_nothing : (n : Naming) → P.Name n → Q.Statement (S.call_nothing n)
  pub dispatching : (op : Operation) (n : Naming) → P.Name n → Q.Statement (S.call_dispatching op n)
  pub call_allocate : (p a : Naming) (size al : Valued) → P.Name p → P.Name a → P.Value size → P.Value al → Q.Statement (S.call_allocate p a size al)
  pub call_deallocate : (p : Naming) (a size al : Valued) → P.Name p → P.Value a → P.Value size → P.Value al → Q.Statement (S.call_deallocate p a size al)
  pub put : (ps : List Valued) → Each P.Value ps → Q.Statement (S.put ps)
  pub put_line : (ps : List Valued) → Each P.Value ps → Q.Statement (S.put_line ps)
  pub new_line : Q.Statement S.new_line
  pub exit : (o : Option Valued) → IfSome P.Value o → Q.Statement (S.exit o)
  pub return : (o : Option Valued) → IfSome P.Value o → Q.Statement (S.return o)
  pub raise : (x : ℕ) → Q.Statement (S.raise_new x)
  pub raise_again : Q.Statement S.raise_again
  pub free : (a : ℕ) (n : Naming) → P.Name n → Q.Statement (S.free_object_of a n)
  pub release : (n : Naming) → P.Name n → Q.Statement (S.release_subpool n)
  -- compound statements, arms and handlers (5.3 to 5.6, 11.2)
  pub choose_arm : (xs : List Guarding) (ss : List Doing) → Each Q.Guard xs → Each Q.Statement ss → Q.Statement (S.choose_arm xs ss)
  pub loop : (ss : List Doing) → Each Q.Statement ss → Q.Statement (S.loop_plainly ss)
  pub while : (v : Valued) (ss : List Doing) → P.Value v → Each Q.Statement ss → Q.Statement (S.loop_while v ss)
  pub for : (x : Var) (way : Direction) (low high : Valued) (ss : List Doing) → P.Value low → P.Value high → Each Q.Statement ss → Q.Statement (S.loop_for x way low high ss)
  pub block : (b : Body) → Q.Master b → Q.Statement (S.do_block b)
  pub guard : (v : Valued) (ss : List Doing) → P.Value v → Each Q.Statement ss → Q.Guard (S.guard v ss)
  pub handler : (choices : Choices) (ss : List Doing) → Each Q.Statement ss → Q.Guard (S.handler choices ss)
  -- masters: what is declared in them, and the whole (7.6.1)
  pub declarations : Declarations P Q.Item
  pub within : (slots : ℕ) (xs : List Elaborating) (ss : List Doing) (hs : List Guarding) → Each Q.Item xs → Each Q.Statement ss → Each Q.Guard hs → Q.Master (record { slots = slots; inside = S.within xs ss hs })
