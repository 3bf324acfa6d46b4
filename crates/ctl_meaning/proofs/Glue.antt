-- Whole trees: what each layer of a tree keeps holds of the tree.
use Rattle.std.proofs.Common.{◌≡◌, sym, subst, ℕ, zero, suc, ◌-◌, List, [], ◌∷◌, ◌++◌, map, Option, Some, None, option_map, slice_get}
use Rattle.ctl_program.specs.declared.expression.Expr.{Expr, roll-Expr, map-Expr, ind-Expr}
use Rattle.ctl_program.specs.declared.expression.Name.{Name, roll-Name, map-Name, ind-Name}
use Rattle.ctl_program.specs.declared.expression.Actual.{Actual, roll-Actual, map-Actual, ind-Actual}
use Rattle.ctl_program.specs.declared.expression.Operand.{Operand, Operand-F, roll-Operand, map-Operand}
use Rattle.ctl_program.specs.declared.expression.Actual.TheOpen.{Actual-F, Expr-F, Name-F}
use Rattle.ctl_program.specs.declared.types.Component.{Component}
use Rattle.ctl_program.specs.declared.types.RecordType.{RecordType}
use Rattle.ctl_program.specs.declared.statement.Piece.{Piece}
use Rattle.ctl_program.specs.declared.statement.Item.{Item}
use Rattle.ctl_program.specs.declared.statement.Stmt.{Stmt, roll-Stmt, map-Stmt, ind-Stmt}
use Rattle.ctl_program.specs.declared.statement.Stmt.TheOpen.{Stmt-F}
use Rattle.ctl_program.specs.declared.statement.Arm.{Arm, Arm-F, roll-Arm, map-Arm}
use Rattle.ctl_program.specs.declared.statement.Handler.{Handler, Handler-F, roll-Handler, map-Handler}
use Rattle.ctl_program.specs.declared.statement.Master.{Master, Master-F, roll-Master, map-Master, ind-Master}
use Rattle.ctl_program.specs.declared.program.Subprogram.{Subprogram}
use Rattle.ctl_meaning.specs.Lists.{item_or}
use Rattle.ctl_meaning.specs.Types.{of_parent}
use Rattle.ctl_meaning.specs.Expressions.{Valued, Naming, Applied, Supplied, actual_step, eval_step, name_step, eval, eval_name, supply, apply}
use Rattle.ctl_meaning.specs.Masters.{association, elaborate_item}
use Rattle.ctl_meaning.specs.Statements.{Doing, Guarding, Body, exec_step, eval_piece, exec, arm_of, handler_of, body_of}
use Rattle.ctl_meaning.specs.Run.{Routine, routine_of, own_defaults, row_of, defaults_from, default_at}
use Rattle.ctl_meaning.proofs.Trees.{eval_roll, name_roll, actual_roll, operand_roll, exec_roll, arm_roll, handler_roll, master_roll}
use Rattle.ctl_meaning.proofs.Relation.{Each, IfSome}
use Rattle.ctl_meaning.proofs.Layers.{OfExpressions, Expressions, OfStatements, Statements}

-- Lists of children, each with what is proved of it -------------------------------------

each_too : {T A : Type 0} (f : T → A) (P : A → Type 0) (xs : List ((x : T) × P (f x))) → Each P (map f (map (λ x. x.0) xs))
each_too f P [] = tt
each_too f P (x ∷ xs) = (x.1, each_too f P xs)

each_of_all : {T A : Type 0} (f : T → A) (P : A → Type 0) → ((x : T) → P (f x)) → (xs : List T) → Each P (map f xs)
each_of_all f P h [] = tt
each_of_all f P h (x ∷ xs) = (h x, each_of_all f P h xs)

if_some : {T A : Type 0} (f : T → A) (P : A → Type 0) → ((x : T) → P (f x)) → (o : Option T) → IfSome P (option_map f o)
if_some f P h None = tt
if_some f P h (Some x) = h x

each_behind : {A : Type 0} (P : A → Type 0) (xs : List A) (x : A) → Each P xs → P x → Each P (xs ++ x ∷ [])
each_behind P [] x h p = (p, tt)
each_behind P (y ∷ ys) x h p = (h.0, each_behind P ys x h.1 p)

each_joined : {A : Type 0} (P : A → Type 0) (xs ys : List A) → Each P xs → Each P ys → Each P (xs ++ ys)
each_joined P [] ys h i = i
each_joined P (x ∷ xs) ys h i = (h.0, each_joined P xs ys h.1 i)

-- what holds of each item holds of one that is found
found_good : {A : Type 0} (P : A → Type 0) (xs : List A) → Each P xs → (i : ℕ) → IfSome P (slice_get xs i)
found_good P [] h i = tt
found_good P (x ∷ xs) h zero = h.0
found_good P (x ∷ xs) h (suc i) = found_good P xs h.1 i

item_good : {A : Type 0} (P : A → Type 0) (d : A) → P d → (o : Option A) → IfSome P o → P (item_or d o)
unfolding item_or
item_good P d p None h = p
item_good P d p (Some x) h = h

module _ {P : OfExpressions} (e : Expressions P) where
  abbrev ActualToo : Type 0
  ActualToo = (a : Actual) × P.Actual (supply a)

  abbrev ExprToo : Type 0
  ExprToo = (e : Expr) × P.Value (eval e)

  abbrev NameToo : Type 0
  NameToo = (n : Name) × P.Name (eval_name n)

  abbrev OperandToo : Type 0
  OperandToo = (o : Operand) × P.Operand (apply o)

  abbrev bare_expr : Expr-F ActualToo ExprToo NameToo OperandToo → Expr-F Actual Expr Name Operand
  bare_expr = map-Expr ActualToo ExprToo NameToo OperandToo Actual Expr Name Operand (λ e. e.0) (λ e. e.0) (λ e. e.0) (λ e. e.0)

  abbrev bare_name : Name-F ActualToo ExprToo NameToo OperandToo → Name-F Actual Expr Name Operand
  bare_name = map-Name ActualToo ExprToo NameToo OperandToo Actual Expr Name Operand (λ e. e.0) (λ e. e.0) (λ e. e.0) (λ e. e.0)

  abbrev bare_actual : Actual-F ActualToo ExprToo NameToo OperandToo → Actual-F Actual Expr Name Operand
  bare_actual = map-Actual ActualToo ExprToo NameToo OperandToo Actual Expr Name Operand (λ e. e.0) (λ e. e.0) (λ e. e.0) (λ e. e.0)

  abbrev bare_operand : Operand-F ActualToo ExprToo NameToo OperandToo → Operand-F Actual Expr Name Operand
  bare_operand = map-Operand ActualToo ExprToo NameToo OperandToo Actual Expr Name Operand (λ e. e.0) (λ e. e.0) (λ e. e.0) (λ e. e.0)

  expr_layer : (y : Expr-F ActualToo ExprToo NameToo OperandToo) → P.Value (eval_step (map-Expr Actual Expr Name Operand Supplied Valued Naming Applied supply eval eval_name apply (bare_expr y)))
  expr_layer (Expr-F.Constant n) = e.constant n
  expr_layer (Expr-F.Read n ty) = e.read _ ty n.1
  expr_layer (Expr-F.Call f xs ty) = e.call f _ ty (each_too supply P.Actual xs)
  expr_layer (Expr-F.Unary op ty x) = e.unary op ty _ x.1
  expr_layer (Expr-F.Chain x o os) = e.chain _ _ _ x.1 o.1 (each_too apply P.Operand os)
  expr_layer (Expr-F.Short op x y more) = e.short op _ _ _ x.1 y.1 (each_too eval P.Value more)
  expr_layer (Expr-F.Convert ty x) = e.convert ty _ x.1
  expr_layer (Expr-F.Access v) = e.access v
  expr_layer (Expr-F.New access ty None None) = e.new access ty None None tt tt
  expr_layer (Expr-F.New access ty None (Some y)) = e.new access ty None (Some (eval y.0)) tt y.1
  expr_layer (Expr-F.New access ty (Some x) None) = e.new access ty (Some (eval x.0)) None x.1 tt
  expr_layer (Expr-F.New access ty (Some x) (Some y)) = e.new access ty (Some (eval x.0)) (Some (eval y.0)) x.1 y.1
  expr_layer (Expr-F.Subpool which n) = e.subpool which _ n.1
  expr_layer (Expr-F.Discriminant n i) = e.discriminant _ i n.1

  name_layer : (y : Name-F ActualToo ExprToo NameToo OperandToo) → P.Name (name_step (map-Name Actual Expr Name Operand Supplied Valued Naming Applied supply eval eval_name apply (bare_name y)))
  name_layer (Name-F.Variable v ss) = e.variable v ss
  name_layer (Name-F.Given x ss) = e.given _ ss x.1

  actual_layer : (y : Actual-F ActualToo ExprToo NameToo OperandToo) → P.Actual (actual_step (map-Actual Actual Expr Name Operand Supplied Valued Naming Applied supply eval eval_name apply (bare_actual y)))
  actual_layer (Actual-F.ByValue x ty) = e.by_value _ ty x.1
  actual_layer (Actual-F.Part n ty) = e.part _ ty n.1
  actual_layer (Actual-F.Copied n ty b) = e.copied _ ty b n.1

  of_actual : (x : Actual-F Actual Expr Name Operand) (y : Actual-F ActualToo ExprToo NameToo OperandToo) → bare_actual y ≡ x → P.Actual (supply (roll-Actual x))
  of_actual x y is = subst (λ z. P.Actual (supply (roll-Actual z))) is (subst P.Actual (sym (actual_roll (bare_actual y))) (actual_layer y))

  of_expr : (x : Expr-F Actual Expr Name Operand) (y : Expr-F ActualToo ExprToo NameToo OperandToo) → bare_expr y ≡ x → P.Value (eval (roll-Expr x))
  of_expr x y is = subst (λ z. P.Value (eval (roll-Expr z))) is (subst P.Value (sym (eval_roll (bare_expr y))) (expr_layer y))

  of_name : (x : Name-F Actual Expr Name Operand) (y : Name-F ActualToo ExprToo NameToo OperandToo) → bare_name y ≡ x → P.Name (eval_name (roll-Name x))
  of_name x y is = subst (λ z. P.Name (eval_name (roll-Name z))) is (subst P.Name (sym (name_roll (bare_name y))) (name_layer y))

  of_operand : (x : Operand-F Actual Expr Name Operand) (y : Operand-F ActualToo ExprToo NameToo OperandToo) → bare_operand y ≡ x → P.Operand (apply (roll-Operand x))
  of_operand x y is = subst (λ z. P.Operand (apply (roll-Operand z))) is (subst P.Operand (sym (operand_roll (bare_operand y))) (e.operand y.op y.ty _ y.right.1))

  good_value : (e : Expr) → P.Value (eval e)
  good_value = ind-Expr (λ a. P.Actual (supply a)) (λ e. P.Value (eval e)) (λ n. P.Name (eval_name n)) (λ o. P.Operand (apply o)) of_actual of_expr of_name of_operand

  good_name : (n : Name) → P.Name (eval_name n)
  good_name = ind-Name (λ a. P.Actual (supply a)) (λ e. P.Value (eval e)) (λ n. P.Name (eval_name n)) (λ o. P.Operand (apply o)) of_actual of_expr of_name of_operand

  good_actual : (a : Actual) → P.Actual (supply a)
  good_actual = ind-Actual (λ a. P.Actual (supply a)) (λ e. P.Value (eval e)) (λ n. P.Name (eval_name n)) (λ o. P.Operand (apply o)) of_actual of_expr of_name of_operand

  -- Default expressions ---------------------------------------------------------------

  abbrev GoodDefault : Option Valued → Type 0
  GoodDefault = IfSome P.Value

  own_good : (xs : List Component) → Each GoodDefault (map (λ c. option_map eval c.default) xs)
  own_good [] = tt
  own_good (c ∷ cs) = (if_some eval P.Value good_value c.default, own_good cs)

  row_good : (rows : List (List (Option Valued))) → Each (Each GoodDefault) rows → (u : ℕ) → Each GoodDefault (row_of rows u)
  unfolding row_of
  row_good rows h u = item_good (Each GoodDefault) [] tt (slice_get rows u) (found_good (Each GoodDefault) rows h u)

  parent_good : (rows : List (List (Option Valued))) → Each (Each GoodDefault) rows → (p : Option ℕ) → Each GoodDefault (of_parent [] (row_of rows) p)
  unfolding of_parent
  parent_good rows h None = tt
  parent_good rows h (Some u) = row_good rows h u

  rows_good : (rows : List (List (Option Valued))) → Each (Each GoodDefault) rows → (rs : List RecordType) → Each (Each GoodDefault) (defaults_from rows rs)
  unfolding defaults_from
  rows_good rows h [] = h
  rows_good rows h (r ∷ rs) = rows_good (rows ++ (of_parent [] (row_of rows) r.parent ++ own_defaults r) ∷ []) (each_behind (Each GoodDefault) rows _ h (each_joined GoodDefault _ _ (parent_good rows h r.parent) (own_good r.own))) rs

  pub good_default : (rs : List RecordType) (u position : ℕ) → IfSome P.Value (default_at (defaults_from [] rs) u position)
  unfolding default_at
  good_default rs u position = item_good GoodDefault None tt (slice_get (row_of (defaults_from [] rs) u) (position - 1)) (found_good GoodDefault _ (row_good _ (rows_good [] tt rs) u) (position - 1))

  -- Statements ------------------------------------------------------------------------

  module _ {Q : OfStatements} (s : Statements P Q) where
    item_is_good : (x : Item) → Q.Item (elaborate_item x)
    item_is_good (Item.Collections accesses) = s.declarations.collections accesses
    item_is_good (Item.Object slot ty o) = s.declarations.object slot ty _ (if_some eval P.Value good_value o)
    item_is_good (Item.Pool slot u ds) = s.declarations.pool slot u _ (each_of_all association (λ x. P.Value x.1) (λ x. good_value x.value) ds)
    item_is_good Item.Silent = s.declarations.silent

    piece_good : (x : Piece) → P.Value (eval_piece x)
    piece_good (Piece.Text v) = s.literal v
    piece_good (Piece.IntegerImage x) = s.integer_text _ (good_value x)
    piece_good (Piece.BooleanImage x) = s.boolean_text _ (good_value x)

    abbrev StmtToo : Type 0
    StmtToo = (s : Stmt) × Q.Statement (exec s)

    abbrev ArmToo : Type 0
    ArmToo = (a : Arm) × Q.Guard (arm_of a)

    abbrev HandlerToo : Type 0
    HandlerToo = (h : Handler) × Q.Guard (handler_of h)

    abbrev MasterToo : Type 0
    MasterToo = (m : Master) × Q.Master (body_of m)

    abbrev bare_stmt : Stmt-F StmtToo ArmToo HandlerToo MasterToo → Stmt-F Stmt Arm Handler Master
    bare_stmt = map-Stmt StmtToo ArmToo HandlerToo MasterToo Stmt Arm Handler Master (λ e. e.0) (λ e. e.0) (λ e. e.0) (λ e. e.0)

    abbrev bare_arm : Arm-F StmtToo ArmToo HandlerToo MasterToo → Arm-F Stmt Arm Handler Master
    bare_arm = map-Arm StmtToo ArmToo HandlerToo MasterToo Stmt Arm Handler Master (λ e. e.0) (λ e. e.0) (λ e. e.0) (λ e. e.0)

    abbrev bare_handler : Handler-F StmtToo ArmToo HandlerToo MasterToo → Handler-F Stmt Arm Handler Master
    bare_handler = map-Handler StmtToo ArmToo HandlerToo MasterToo Stmt Arm Handler Master (λ e. e.0) (λ e. e.0) (λ e. e.0) (λ e. e.0)

    abbrev bare_master : Master-F StmtToo ArmToo HandlerToo MasterToo → Master-F Stmt Arm Handler Master
    bare_master = map-Master StmtToo ArmToo HandlerToo MasterToo Stmt Arm Handler Master (λ e. e.0) (λ e. e.0) (λ e. e.0) (λ e. e.0)

    statement_layer : (y : Stmt-F StmtToo ArmToo HandlerToo MasterToo) → Q.Statement (exec_step (map-Stmt Stmt Arm Handler Master Doing Guarding Guarding Body exec arm_of handler_of body_of (bare_stmt y)))
    statement_layer Stmt-F.Null = s.null
    statement_layer (Stmt-F.Assign n x) = s.assign _ _ (good_name n) (good_value x)
    statement_layer (Stmt-F.AssignRecord n u a) = s.assign_part _ u _ (good_name n) (good_actual a)
    statement_layer (Stmt-F.Call f xs) = s.call_statement f _ (each_of_all supply P.Actual good_actual xs)
    statement_layer (Stmt-F.Nothing n) = s.call_nothing _ (good_name n)
    statement_layer (Stmt-F.Dispatch op n) = s.dispatching op _ (good_name n)
    statement_layer (Stmt-F.LibraryAllocate p a size al) = s.call_allocate _ _ _ _ (good_name p) (good_name a) (good_value size) (good_value al)
    statement_layer (Stmt-F.LibraryDeallocate p a size al) = s.call_deallocate _ _ _ _ (good_name p) (good_value a) (good_value size) (good_value al)
    statement_layer (Stmt-F.Put xs) = s.put _ (each_of_all eval_piece P.Value piece_good xs)
    statement_layer (Stmt-F.PutLine xs) = s.put_line _ (each_of_all eval_piece P.Value piece_good xs)
    statement_layer Stmt-F.NewLine = s.new_line
    statement_layer (Stmt-F.Exit o) = s.exit _ (if_some eval P.Value good_value o)
    statement_layer (Stmt-F.Return o) = s.return _ (if_some eval P.Value good_value o)
    statement_layer (Stmt-F.Raise x) = s.raise x
    statement_layer Stmt-F.RaiseAgain = s.raise_again
    statement_layer (Stmt-F.If xs ss) = s.choose_arm _ _ (each_too arm_of Q.Guard xs) (each_too exec Q.Statement ss)
    statement_layer (Stmt-F.Loop ss) = s.loop _ (each_too exec Q.Statement ss)
    statement_layer (Stmt-F.While x ss) = s.while _ _ (good_value x) (each_too exec Q.Statement ss)
    statement_layer (Stmt-F.For v way low high ss) = s.for v way _ _ _ (good_value low) (good_value high) (each_too exec Q.Statement ss)
    statement_layer (Stmt-F.Block b) = s.block _ b.1
    statement_layer (Stmt-F.Free a n) = s.free a _ (good_name n)
    statement_layer (Stmt-F.Release n) = s.release _ (good_name n)

    of_statement : (x : Stmt-F Stmt Arm Handler Master) (y : Stmt-F StmtToo ArmToo HandlerToo MasterToo) → bare_stmt y ≡ x → Q.Statement (exec (roll-Stmt x))
    of_statement x y is = subst (λ z. Q.Statement (exec (roll-Stmt z))) is (subst Q.Statement (sym (exec_roll (bare_stmt y))) (statement_layer y))

    of_arm : (x : Arm-F Stmt Arm Handler Master) (y : Arm-F StmtToo ArmToo HandlerToo MasterToo) → bare_arm y ≡ x → Q.Guard (arm_of (roll-Arm x))
    of_arm x y is = subst (λ z. Q.Guard (arm_of (roll-Arm z))) is (subst Q.Guard (sym (arm_roll (bare_arm y))) (s.guard _ _ (good_value y.test) (each_too exec Q.Statement y.body)))

    of_handler : (x : Handler-F Stmt Arm Handler Master) (y : Handler-F StmtToo ArmToo HandlerToo MasterToo) → bare_handler y ≡ x → Q.Guard (handler_of (roll-Handler x))
    of_handler x y is = subst (λ z. Q.Guard (handler_of (roll-Handler z))) is (subst Q.Guard (sym (handler_roll (bare_handler y))) (s.handler y.choices _ (each_too exec Q.Statement y.body)))

    of_master : (x : Master-F Stmt Arm Handler Master) (y : Master-F StmtToo ArmToo HandlerToo MasterToo) → bare_master y ≡ x → Q.Master (body_of (roll-Master x))
    of_master x y is = subst (λ z. Q.Master (body_of (roll-Master z))) is (subst Q.Master (sym (master_roll (bare_master y))) (s.within y.slots _ _ _ (each_of_all elaborate_item Q.Item item_is_good y.items) (each_too exec Q.Statement y.body) (each_too handler_of Q.Guard y.handlers)))

    pub good_statement : (s : Stmt) → Q.Statement (exec s)
    good_statement = ind-Stmt (λ s. Q.Statement (exec s)) (λ a. Q.Guard (arm_of a)) (λ h. Q.Guard (handler_of h)) (λ m. Q.Master (body_of m)) of_statement of_arm of_handler of_master

    good_master : (m : Master) → Q.Master (body_of m)
    good_master = ind-Master (λ s. Q.Statement (exec s)) (λ a. Q.Guard (arm_of a)) (λ h. Q.Guard (handler_of h)) (λ m. Q.Master (body_of m)) of_statement of_arm of_handler of_master

    -- the body of a subprogram that is found
    pub good_routine : (ss : List Subprogram) (f : ℕ) → IfSome (λ (r : Routine). Q.Master r.body) (slice_get (map routine_of ss) f)
    good_routine ss f = found_good (λ (r : Routine). Q.Master r.body) (map routine_of ss) (each_of_all routine_of (λ (r : Routine). Q.Master r.body) (λ s. good_master s.body) ss) f
