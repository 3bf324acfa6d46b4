-- Small functions that build checked programs as terms, each with what it means, and events and picks.
use Rattle.std.proofs.Common.{◌≡◌, refl, ap, ◌∙◌, ℕ, Option, Some, None, option_map, List, [], ◌∷◌, ◌++◌, map, codes, decimal}
use Rattle.ctl_program.specs.declared.types.Var.{Var}
use Rattle.ctl_program.specs.declared.types.Ty.{Ty}
use Rattle.ctl_program.specs.declared.types.Ty.TheVariants.{Integer}
use Rattle.ctl_program.specs.declared.types.Root.{Root}
use Rattle.ctl_program.specs.declared.types.Root.TheVariants.{Controlled, BlockPool, MarkPool}
use Rattle.ctl_program.specs.declared.types.Operations.{Operations}
use Rattle.ctl_program.specs.declared.types.Component as ComponentOf
use Rattle.ctl_program.specs.declared.types.AccessType.{AccessType}
use Rattle.ctl_program.specs.declared.operators.UnaryOp.{UnaryOp}
use Rattle.ctl_program.specs.declared.operators.BinaryOp.{BinaryOp}
use Rattle.ctl_program.specs.declared.operators.Shortcut.{Shortcut}
use Rattle.ctl_program.specs.declared.operators.SubpoolFunction.{SubpoolFunction}
use Rattle.ctl_program.specs.declared.operators.CopyStart.{CopyStart}
use Rattle.ctl_program.specs.declared.operators.Direction.{Direction}
use Rattle.ctl_program.specs.declared.operators.Operation.{Operation}
use Rattle.ctl_program.specs.declared.operators.SubprogramKind.{SubprogramKind}
use Rattle.ctl_program.specs.declared.operators.SubprogramKind.TheVariants.{Procedure, Function}
use Rattle.ctl_program.specs.declared.expression.Expr.{Expr, roll-Expr, map-Expr}
use Rattle.ctl_program.specs.declared.expression.Name.{Name, roll-Name, map-Name}
use Rattle.ctl_program.specs.declared.expression.Actual.{Actual, roll-Actual, map-Actual}
use Rattle.ctl_program.specs.declared.expression.Operand.{Operand, roll-Operand}
use Rattle.ctl_program.specs.declared.expression.Actual.TheOpen.{Actual-F, Expr-F, Name-F}
use Rattle.ctl_program.specs.declared.expression.Step.{Step}
use Rattle.ctl_program.specs.declared.expression.Step.TheVariants.{Component}
use Rattle.ctl_program.specs.declared.statement.Piece.{Piece}
use Rattle.ctl_program.specs.declared.statement.Item.{Item}
use Rattle.ctl_program.specs.declared.statement.Choices.{Choices}
use Rattle.ctl_program.specs.declared.statement.Choices.TheVariants.{Others, Exceptions}
use Rattle.ctl_program.specs.declared.statement.Stmt.{Stmt, roll-Stmt, map-Stmt}
use Rattle.ctl_program.specs.declared.statement.Stmt.TheOpen.{Stmt-F}
use Rattle.ctl_program.specs.declared.statement.Arm.{Arm, roll-Arm}
use Rattle.ctl_program.specs.declared.statement.Handler.{Handler, roll-Handler}
use Rattle.ctl_program.specs.declared.statement.Master.{Master, roll-Master}
use Rattle.ctl_program.specs.declared.program.Checked.{Checked}
use Rattle.ctl_tree.specs.declared.ending.End.{End}
use Rattle.ctl_tree.specs.declared.event.Event.{Event}
use Rattle.ctl_tree.specs.declared.event.Event.TheVariants.{Print, Newline, Initialize, Adjust, Finalize, Allocate, Deallocate, Live}
use Rattle.ctl_tree.specs.declared.event.Owner.{Owner}
use Rattle.ctl_tree.specs.declared.event.Owner.TheVariants as OwnerOf
use Rattle.ctl_tree.specs.declared.event.Cause.{Cause}
use Rattle.ctl_tree.specs.declared.event.Cause.TheVariants as CauseOf
use Rattle.ctl_tree.specs.declared.event.Part.{Part}
use Rattle.ctl_meaning.specs.World.{Pick}
use Rattle.ctl_meaning.specs.Choice.{Ask}
use Rattle.ctl_meaning.specs.Types.{of_parent, tables_of}
use Rattle.ctl_meaning.specs.Expressions.{Supplied, Valued, Naming, Applied, actual_step, eval_step, name_step, operand_step, eval, eval_name, supply, apply}
use Rattle.ctl_meaning.specs.Masters as M
use Rattle.ctl_meaning.specs.Masters.{Elaborating, association, elaborate_item}
use Rattle.ctl_meaning.specs.Statements as S
use Rattle.ctl_meaning.specs.Statements.{Doing, Guarding, Body, eval_piece, exec_step, master_step, exec, arm_of, handler_of, body_of}
use Rattle.ctl_meaning.specs.Run.{Routine, Meaning, routine_of, own_defaults, row_of, defaults_from, meaning_of, run_meaning, run, Outcome, outcome_of, outcome}
use Rattle.ctl_meaning.proofs.Trees.{eval_roll, name_roll, actual_roll, operand_roll, exec_roll, arm_roll, handler_roll, master_roll}

-- Trees with what they mean ------------------------------------------------------

-- a tree, and what it means
pub record Written {T A : Type 0} (f : T → A) : Type 0 where
  pub tree : T
  pub act : A
  pub same : f tree ≡ act

abbrev pub trees : {T A : Type 0} {f : T → A} → List (Written f) → List T
trees [] = []
trees (x ∷ xs) = x.tree ∷ trees xs

abbrev pub acts : {T A : Type 0} {f : T → A} → List (Written f) → List A
acts [] = []
acts (x ∷ xs) = x.act ∷ acts xs

pub all_same : {T A : Type 0} {f : T → A} (xs : List (Written f)) → map f (trees xs) ≡ acts xs
all_same [] = refl
all_same {f = f} (x ∷ xs) = ap (λ a. a ∷ map f (trees xs)) x.same ∙ ap (λ as'. x.act ∷ as') (all_same xs)

abbrev pub tree_in : {T A : Type 0} {f : T → A} → Option (Written f) → Option T
tree_in None = None
tree_in (Some x) = Some x.tree

abbrev pub act_in : {T A : Type 0} {f : T → A} → Option (Written f) → Option A
act_in None = None
act_in (Some x) = Some x.act

pub one_same : {T A : Type 0} {f : T → A} (o : Option (Written f)) → option_map f (tree_in o) ≡ act_in o
one_same None = refl
one_same (Some x) = ap Some x.same

pub both : {A B C : Type 0} (g : A → B → C) {a x : A} {b y : B} → a ≡ x → b ≡ y → g a b ≡ g x y
both g {a = a} {x = x} {b = b} p q = ap (λ z. g z b) p ∙ ap (g x) q

-- Expressions ----------------------------------------------------------------------

abbrev pub Expression : Type 0
Expression = Written eval

abbrev pub NameOf : Type 0
NameOf = Written eval_name

abbrev pub ActualOf : Type 0
ActualOf = Written supply

abbrev pub OperandOf : Type 0
OperandOf = Written apply

abbrev expr : (y : Expr-F Actual Expr Name Operand) (a : Expr-F Supplied Valued Naming Applied) → map-Expr Actual Expr Name Operand Supplied Valued Naming Applied supply eval eval_name apply y ≡ a → Expression
expr y a e = record { tree = roll-Expr y; act = eval_step a; same = eval_roll y ∙ ap eval_step e }

abbrev a_name : (y : Name-F Actual Expr Name Operand) (a : Name-F Supplied Valued Naming Applied) → map-Name Actual Expr Name Operand Supplied Valued Naming Applied supply eval eval_name apply y ≡ a → NameOf
a_name y a e = record { tree = roll-Name y; act = name_step a; same = name_roll y ∙ ap name_step e }

abbrev an_actual : (y : Actual-F Actual Expr Name Operand) (a : Actual-F Supplied Valued Naming Applied) → map-Actual Actual Expr Name Operand Supplied Valued Naming Applied supply eval eval_name apply y ≡ a → ActualOf
an_actual y a e = record { tree = roll-Actual y; act = actual_step a; same = actual_roll y ∙ ap actual_step e }

abbrev pub at : ℕ → ℕ → Var
at level slot = record { level = level; slot = slot }

-- what begins with the variable of a level and a slot
abbrev pub name : ℕ → ℕ → List Step → NameOf
name level slot steps = a_name (Name-F.Variable (at level slot) steps) (Name-F.Variable (at level slot) steps) refl

abbrev pub variable : ℕ → ℕ → NameOf
variable level slot = name level slot []

abbrev pub given : Expression → List Step → NameOf
given e steps = a_name (Name-F.Given e.tree steps) (Name-F.Given e.act steps) (ap (λ x. Name-F.Given x steps) e.same)

abbrev pub constant : ℕ → Expression
constant n = expr (Expr-F.Constant n) (Expr-F.Constant n) refl

abbrev pub read : NameOf → Ty → Expression
read n ty = expr (Expr-F.Read n.tree ty) (Expr-F.Read n.act ty) (ap (λ x. Expr-F.Read x ty) n.same)

abbrev pub value : ℕ → ℕ → Ty → Expression
value level slot ty = read (variable level slot) ty

abbrev pub call_of : ℕ → List ActualOf → Ty → Expression
call_of f actuals ty = expr (Expr-F.Call f (trees actuals) ty) (Expr-F.Call f (acts actuals) ty) (ap (λ xs. Expr-F.Call f xs ty) (all_same actuals))

abbrev pub unary : UnaryOp → Ty → Expression → Expression
unary op ty e = expr (Expr-F.Unary op ty e.tree) (Expr-F.Unary op ty e.act) (ap (Expr-F.Unary op ty) e.same)

abbrev pub operand : BinaryOp → Ty → Expression → OperandOf
operand op ty e = record {
  tree = roll-Operand (record { op = op; ty = ty; right = e.tree });
  act = operand_step (record { op = op; ty = ty; right = e.act });
  same = operand_roll (record { op = op; ty = ty; right = e.tree }) ∙ ap (λ x. operand_step (record { op = op; ty = ty; right = x })) e.same;
}

abbrev pub chain : Expression → OperandOf → List OperandOf → Expression
chain e o os = expr (Expr-F.Chain e.tree o.tree (trees os)) (Expr-F.Chain e.act o.act (acts os)) (both (λ x y. Expr-F.Chain x y (map apply (trees os))) e.same o.same ∙ ap (Expr-F.Chain e.act o.act) (all_same os))

abbrev pub short : Shortcut → Expression → Expression → List Expression → Expression
short op a b es = expr (Expr-F.Short op a.tree b.tree (trees es)) (Expr-F.Short op a.act b.act (acts es)) (both (λ x y. Expr-F.Short op x y (map eval (trees es))) a.same b.same ∙ ap (Expr-F.Short op a.act b.act) (all_same es))

abbrev pub convert : Ty → Expression → Expression
convert ty e = expr (Expr-F.Convert ty e.tree) (Expr-F.Convert ty e.act) (ap (Expr-F.Convert ty) e.same)

abbrev pub access_to : Var → Expression
access_to v = expr (Expr-F.Access v) (Expr-F.Access v) refl

pub new_same : (access : ℕ) (ty : Ty) (h v : Option Expression) → map-Expr Actual Expr Name Operand Supplied Valued Naming Applied supply eval eval_name apply (Expr-F.New access ty (tree_in h) (tree_in v)) ≡ Expr-F.New access ty (act_in h) (act_in v)
new_same access ty None None = refl
new_same access ty None (Some v) = ap (λ x. Expr-F.New access ty None (Some x)) v.same
new_same access ty (Some h) None = ap (λ x. Expr-F.New access ty (Some x) None) h.same
new_same access ty (Some h) (Some v) = both (λ x y. Expr-F.New access ty (Some x) (Some y)) h.same v.same

abbrev pub new : ℕ → Ty → Option Expression → Option Expression → Expression
new access ty h v = expr (Expr-F.New access ty (tree_in h) (tree_in v)) (Expr-F.New access ty (act_in h) (act_in v)) (new_same access ty h v)

abbrev pub subpool : SubpoolFunction → NameOf → Expression
subpool which n = expr (Expr-F.Subpool which n.tree) (Expr-F.Subpool which n.act) (ap (Expr-F.Subpool which) n.same)

abbrev pub discriminant_of : NameOf → ℕ → Expression
discriminant_of n i = expr (Expr-F.Discriminant n.tree i) (Expr-F.Discriminant n.act i) (ap (λ x. Expr-F.Discriminant x i) n.same)

abbrev pub by_value : Expression → Ty → ActualOf
by_value e ty = an_actual (Actual-F.ByValue e.tree ty) (Actual-F.ByValue e.act ty) (ap (λ x. Actual-F.ByValue x ty) e.same)

abbrev pub by_name : NameOf → Ty → ActualOf
by_name n ty = an_actual (Actual-F.Part n.tree ty) (Actual-F.Part n.act ty) (ap (λ x. Actual-F.Part x ty) n.same)

abbrev pub by_copy : NameOf → Ty → CopyStart → ActualOf
by_copy n ty begins = an_actual (Actual-F.Copied n.tree ty begins) (Actual-F.Copied n.act ty begins) (ap (λ x. Actual-F.Copied x ty begins) n.same)

-- Items and texts --------------------------------------------------------------------

abbrev pub ItemOf : Type 0
ItemOf = Written elaborate_item

abbrev pub PieceOf : Type 0
PieceOf = Written eval_piece

abbrev pub collections : List ℕ → ItemOf
collections accesses = record { tree = Item.Collections accesses; act = M.collections accesses; same = refl }

abbrev pub object : ℕ → Ty → Option Expression → ItemOf
object slot ty e = record { tree = Item.Object slot ty (tree_in e); act = M.object slot ty (act_in e); same = ap (M.object slot ty) (one_same e) }

abbrev pub silent : ItemOf
silent = record { tree = Item.Silent; act = M.silent; same = refl }

-- the value of a discriminant, by its position
abbrev pub discriminant : ℕ → Expression → Written association
discriminant position e = record { tree = record { position = position; value = e.tree }; act = (position, e.act); same = ap (λ x. (position, x)) e.same }

abbrev pub pool : ℕ → ℕ → List (Written association) → ItemOf
pool slot t ds = record { tree = Item.Pool slot t (trees ds); act = M.pool slot t (acts ds); same = ap (M.pool slot t) (all_same ds) }

abbrev pub text : List ℕ → PieceOf
text v = record { tree = Piece.Text v; act = S.literal v; same = refl }

abbrev pub integer_image : Expression → PieceOf
integer_image e = record { tree = Piece.IntegerImage e.tree; act = S.integer_text e.act; same = ap S.integer_text e.same }

abbrev pub boolean_image : Expression → PieceOf
boolean_image e = record { tree = Piece.BooleanImage e.tree; act = S.boolean_text e.act; same = ap S.boolean_text e.same }

-- Statements -------------------------------------------------------------------------

abbrev pub Statement : Type 0
Statement = Written exec

abbrev stmt : (y : Stmt-F Stmt Arm Handler Master) (a : Doing) → exec_step (map-Stmt Stmt Arm Handler Master Doing Guarding Guarding Body exec arm_of handler_of body_of y) ≡ a → Statement
stmt y a e = record { tree = roll-Stmt y; act = a; same = exec_roll y ∙ e }

abbrev pub null : Statement
null = stmt Stmt-F.Null S.null refl

abbrev pub assign : NameOf → Expression → Statement
assign n e = stmt (Stmt-F.Assign n.tree e.tree) (S.assign n.act e.act) (both S.assign n.same e.same)

abbrev pub assign_record : NameOf → ℕ → ActualOf → Statement
assign_record n t a = stmt (Stmt-F.AssignRecord n.tree t a.tree) (S.assign_part n.act t a.act) (both (λ x y. S.assign_part x t y) n.same a.same)

abbrev pub call : ℕ → List ActualOf → Statement
call f actuals = stmt (Stmt-F.Call f (trees actuals)) (S.call f (acts actuals)) (ap (S.call f) (all_same actuals))

abbrev pub nothing : NameOf → Statement
nothing n = stmt (Stmt-F.Nothing n.tree) (S.call_nothing n.act) (ap S.call_nothing n.same)

abbrev pub dispatch : Operation → NameOf → Statement
dispatch op n = stmt (Stmt-F.Dispatch op n.tree) (S.call_dispatching op n.act) (ap (S.call_dispatching op) n.same)

abbrev pub library_allocate : NameOf → NameOf → Expression → Expression → Statement
library_allocate p a size al = stmt (Stmt-F.LibraryAllocate p.tree a.tree size.tree al.tree) (S.call_allocate p.act a.act size.act al.act) (both (λ x y. S.call_allocate x y (eval size.tree) (eval al.tree)) p.same a.same ∙ both (S.call_allocate p.act a.act) size.same al.same)

abbrev pub library_deallocate : NameOf → Expression → Expression → Expression → Statement
library_deallocate p a size al = stmt (Stmt-F.LibraryDeallocate p.tree a.tree size.tree al.tree) (S.call_deallocate p.act a.act size.act al.act) (both (λ x y. S.call_deallocate x y (eval size.tree) (eval al.tree)) p.same a.same ∙ both (S.call_deallocate p.act a.act) size.same al.same)

abbrev pub put : List PieceOf → Statement
put ps = stmt (Stmt-F.Put (trees ps)) (S.put (acts ps)) (ap S.put (all_same ps))

abbrev pub put_line : List PieceOf → Statement
put_line ps = stmt (Stmt-F.PutLine (trees ps)) (S.put_line (acts ps)) (ap S.put_line (all_same ps))

abbrev pub put_text : List ℕ → Statement
put_text v = put_line (text v ∷ [])

abbrev pub new_line : Statement
new_line = stmt Stmt-F.NewLine S.new_line refl

abbrev pub exit : Option Expression → Statement
exit e = stmt (Stmt-F.Exit (tree_in e)) (S.exit (act_in e)) (ap S.exit (one_same e))

abbrev pub return : Option Expression → Statement
return e = stmt (Stmt-F.Return (tree_in e)) (S.return (act_in e)) (ap S.return (one_same e))

abbrev pub raise : ℕ → Statement
raise e = stmt (Stmt-F.Raise e) (S.raise_new e) refl

abbrev pub raise_again : Statement
raise_again = stmt Stmt-F.RaiseAgain S.raise_again refl

abbrev pub arm : Expression → List Statement → Written arm_of
arm test body = record {
  tree = roll-Arm (record { test = test.tree; body = trees body });
  act = S.guard test.act (acts body);
  same = arm_roll (record { test = test.tree; body = trees body }) ∙ both S.guard test.same (all_same body);
}

abbrev pub choose : List (Written arm_of) → List Statement → Statement
choose arms others = stmt (Stmt-F.If (trees arms) (trees others)) (S.choose_arm (acts arms) (acts others)) (both S.choose_arm (all_same arms) (all_same others))

abbrev pub loop : List Statement → Statement
loop body = stmt (Stmt-F.Loop (trees body)) (S.loop_plainly (acts body)) (ap S.loop_plainly (all_same body))

abbrev pub while : Expression → List Statement → Statement
while test body = stmt (Stmt-F.While test.tree (trees body)) (S.loop_while test.act (acts body)) (both S.loop_while test.same (all_same body))

abbrev pub for : Var → Direction → Expression → Expression → List Statement → Statement
for v way low high body = stmt (Stmt-F.For v way low.tree high.tree (trees body)) (S.loop_for v way low.act high.act (acts body)) (both (λ x y. S.loop_for v way x y (map exec (trees body))) low.same high.same ∙ ap (S.loop_for v way low.act high.act) (all_same body))

abbrev handler_for : Choices → List Statement → Written handler_of
handler_for choices body = record {
  tree = roll-Handler (record { choices = choices; body = trees body });
  act = S.handler choices (acts body);
  same = handler_roll (record { choices = choices; body = trees body }) ∙ ap (S.handler choices) (all_same body);
}

-- of one exception, of some, and of all others
abbrev pub when : ℕ → List Statement → Written handler_of
when e body = handler_for (Exceptions (e ∷ [])) body

abbrev pub when_any : List ℕ → List Statement → Written handler_of
when_any es body = handler_for (Exceptions es) body

abbrev pub when_others : List Statement → Written handler_of
when_others body = handler_for Others body

abbrev pub master : ℕ → List ItemOf → List Statement → List (Written handler_of) → Written body_of
master slots items body handlers = record {
  tree = roll-Master (record { slots = slots; items = trees items; body = trees body; handlers = trees handlers });
  act = record { slots = slots; inside = S.within (acts items) (acts body) (acts handlers) };
  same = master_roll (record { slots = slots; items = trees items; body = trees body; handlers = trees handlers })
      ∙ ap (λ x. record { slots = slots; inside = x }) (both (λ x y. S.within x y (map handler_of (trees handlers))) (all_same items) (all_same body) ∙ ap (S.within (acts items) (acts body)) (all_same handlers));
}

abbrev pub block : ℕ → List ItemOf → List Statement → List (Written handler_of) → Statement
block slots items body handlers = let m = master slots items body handlers in stmt (Stmt-F.Block m.tree) (S.do_block m.act) (ap S.do_block m.same)

abbrev pub free : ℕ → NameOf → Statement
free access n = stmt (Stmt-F.Free access n.tree) (S.free_object_of access n.act) (ap (S.free_object_of access) n.same)

abbrev pub release : NameOf → Statement
release n = stmt (Stmt-F.Release n.tree) (S.release_subpool n.act) (ap S.release_subpool n.same)

-- Tables -----------------------------------------------------------------------------

abbrev default_of : ComponentOf.Component → Option Valued
default_of c = option_map eval c.default

abbrev pub component : Ty → Option Expression → Written default_of
component ty e = record { tree = record { ty = ty; default = tree_in e }; act = act_in e; same = one_same e }

abbrev pub operations : Option ℕ → Option ℕ → Option ℕ → Operations
operations initialize adjust finalize = record { initialize = initialize; adjust = adjust; finalize = finalize; allocate = None; deallocate = None }

abbrev pub pool_operations : Option ℕ → Option ℕ → Option ℕ → Option ℕ → Option ℕ → Operations
pool_operations initialize adjust finalize allocate deallocate = record { initialize = initialize; adjust = adjust; finalize = finalize; allocate = allocate; deallocate = deallocate }

abbrev pub no_operations : Operations
no_operations = operations None None None

abbrev pub record_type : ℕ → Root → Option ℕ → List (Written default_of) → Operations → Written own_defaults
record_type level root parent own operations = record {
  tree = record { level = level; root = root; parent = parent; own = trees own; operations = operations };
  act = acts own;
  same = all_same own;
}

abbrev pub access_type : ℕ → ℕ → Ty → Option Var → AccessType
access_type level slot designated pool = record { collection = at level slot; designated = designated; pool = pool }

abbrev subprogram : SubprogramKind → ℕ → Written body_of → Written routine_of
subprogram kind level m = record {
  tree = record { level = level; kind = kind; body = m.tree };
  act = record { level = level; kind = kind; body = m.act };
  same = ap (λ b. let r : Routine = record { level = level; kind = kind; body = b } in r) m.same;
}

abbrev pub procedure : ℕ → Written body_of → Written routine_of
procedure level m = subprogram Procedure level m

abbrev pub function : ℕ → Written body_of → Written routine_of
function level m = subprogram Function level m

abbrev root_type : Root → Written own_defaults
root_type root = record_type 0 root None [] no_operations

-- the types of the library: Controlled, Limited_Controlled, Block_Pool and Mark_Release_Pool
abbrev library : List (Written own_defaults)
library = root_type Controlled ∷ root_type Controlled ∷ root_type BlockPool ∷ root_type MarkPool ∷ []

-- a controlled type with a component N that begins with 0, whose Adjust prints `A` and N, and whose Finalize prints `F` and N
abbrev pub counted_type : Written own_defaults
counted_type = record_type 1 Controlled (Some 0) (component Integer (Some (constant 0)) ∷ []) (operations None (Some 0) (Some 1))

abbrev pub prints_n : List ℕ → Written routine_of
prints_n v = procedure 1 (master 1 [] (put_line (text v ∷ integer_image (read (name 2 0 (Component 4 1 ∷ [])) Integer) ∷ []) ∷ []) [])

abbrev pub prints_a : Written routine_of
prints_a = prints_n (codes "A")

abbrev pub prints_f : Written routine_of
prints_f = prints_n (codes "F")

-- Programs ---------------------------------------------------------------------------

abbrev defaults_written : List (List (Option Valued)) → List (Written own_defaults) → List (List (Option Valued))
defaults_written rows [] = rows
defaults_written rows (r ∷ rs) = defaults_written (rows ++ (of_parent [] (row_of rows) r.tree.parent ++ r.act) ∷ []) rs

all_defaults : (rows : List (List (Option Valued))) (rs : List (Written own_defaults)) → defaults_from rows (trees rs) ≡ defaults_written rows rs
unfolding defaults_from
all_defaults rows [] = refl
all_defaults rows (r ∷ rs) = ap (λ x. defaults_from (rows ++ (of_parent [] (row_of rows) r.tree.parent ++ x) ∷ []) (trees rs)) r.same ∙ all_defaults (rows ++ (of_parent [] (row_of rows) r.tree.parent ++ r.act) ∷ []) rs

-- a program over the library, with an exception Mine: its own record types, its access types, its subprograms and the number of the main
-- procedure
pub record Program : Type 0 where
  pub records : List (Written own_defaults)
  pub accesses : List AccessType
  pub subprograms : List (Written routine_of)
  pub main : ℕ

abbrev pub program : List (Written own_defaults) → List AccessType → List (Written routine_of) → ℕ → Program
program records accesses subprograms main = record { records = records; accesses = accesses; subprograms = subprograms; main = main }

abbrev exceptions : List (List ℕ)
exceptions = codes "Constraint_Error" ∷ codes "Program_Error" ∷ codes "Storage_Error" ∷ codes "Mine" ∷ []

abbrev pub checked : Program → Checked
checked p = record { exceptions = exceptions; records = trees (library ++ p.records); accesses = p.accesses; subprograms = trees p.subprograms; main = p.main }

abbrev meant : Program → Meaning
meant p = record { tables = record { records = trees (library ++ p.records); accesses = p.accesses }; defaults = defaults_written [] (library ++ p.records); routines = acts p.subprograms }

meaning_is : (p : Program) → meaning_of (checked p) ≡ meant p
unfolding meaning_of tables_of
meaning_is p = both (λ x y. let m : Meaning = record { tables = record { records = trees (library ++ p.records); accesses = p.accesses }; defaults = x; routines = y } in m) (all_defaults [] (library ++ p.records)) (all_same p.subprograms)

-- Runs -------------------------------------------------------------------------------

-- a run whole, computed from what the program means
unfoldable pub computed : Program → Ask → ℕ → Outcome
computed p ask clock = outcome_of exceptions (run_meaning (meant p) p.main ask clock)

pub is_computed : (p : Program) (ask : Ask) (clock : ℕ) (x : Outcome) → computed p ask clock ≡ x → outcome (checked p) ask clock ≡ x
unfolding computed outcome run
is_computed p ask clock x h = ap (λ m. outcome_of exceptions (run_meaning m p.main ask clock)) (meaning_is p) ∙ h

abbrev pub part : ℕ → List ℕ → Part
part object path = record { object = object; path = path }

abbrev pub pick : ℕ → ℕ → Pick
pick width chosen = record { width = width; chosen = chosen }

abbrev pub of_master : ℕ → Owner
of_master n = OwnerOf.Master n

abbrev pub of_collection : ℕ → Owner
of_collection n = OwnerOf.Collection n

abbrev pub scope : Cause
scope = CauseOf.Scope

abbrev pub collected : Cause
collected = CauseOf.Collection

abbrev pub freed : Cause
freed = CauseOf.Free

abbrev pub subpooled : Cause
subpooled = CauseOf.Subpool

abbrev pub assigned : Cause
assigned = CauseOf.Assign

abbrev pub failed : Cause
failed = CauseOf.Failed

abbrev pub live : Part → Owner → Event
live p o = Live p o

abbrev pub initialized : Part → Event
initialized p = Initialize p

abbrev pub adjusted : Part → Event
adjusted p = Adjust p

abbrev pub finalized : Part → Cause → Event
finalized p c = Finalize p c

abbrev pub print : List ℕ → Event
print v = Print v

abbrev pub newline : Event
newline = Newline

abbrev pub allocated : ℕ → ℕ → Event
allocated p size = Allocate p size

abbrev pub deallocated : ℕ → ℕ → Event
deallocated p size = Deallocate p size

-- the text of a number that is not negative, and that of a negative one
abbrev pub image : ℕ → List ℕ
image n = codes " " ++ decimal n

abbrev pub negative_image : ℕ → List ℕ
negative_image n = codes "-" ++ decimal n
