-- The code of each statement and of each master that this version runs does what it means.
use Rattle.std.proofs.Common.{◌≡◌, ℕ, ◌+◌, List, [], ◌∷◌, map, Option, Some, None, true, false, inl, inr, refl, sym, ap, ◌∙◌, subst, arith, option_map}
use Rattle.ctl_program.specs.declared.types.Ty.{Ty}
use Rattle.ctl_program.specs.declared.types.Ty.TheVariants.{Integer, Count, Boolean, Address, Handle, Access, Record}
use Rattle.ctl_program.specs.declared.expression.Actual.{Actual}
use Rattle.ctl_program.specs.declared.expression.Expr.{Expr}
use Rattle.ctl_program.specs.declared.expression.Name.{Name}
use Rattle.ctl_program.specs.declared.statement.Stmt.{Stmt, roll-Stmt, map-Stmt}
use Rattle.ctl_program.specs.declared.statement.Stmt.TheOpen.{Stmt-F}
use Rattle.ctl_program.specs.declared.statement.Arm.{Arm, Arm-F, roll-Arm, map-Arm}
use Rattle.ctl_program.specs.declared.statement.Handler.{Handler, Handler-F, roll-Handler, map-Handler}
use Rattle.ctl_program.specs.declared.statement.Master.{Master, Master-F, roll-Master, map-Master, ind-Master}
use Rattle.ctl_tree.specs.declared.event.Event.TheVariants.{Newline}
use Rattle.ctl_meaning.specs.World.{World}
use Rattle.ctl_meaning.specs.Choice.{Ask}
use Rattle.ctl_meaning.specs.Outcome.{Act, ◌>>=◌, ◌>>◌, nothing, ticked, Goes, tell, opened_outcome, ByExit, ByReturn, ByRaise, leave_by, Leaves}
use Rattle.ctl_meaning.specs.Types.{Tables, Elementary}
use Rattle.ctl_meaning.specs.Names.{Default, Found, Tools}
use Rattle.ctl_meaning.specs.Names as Names
use Rattle.ctl_meaning.specs.Expressions.{Naming, Supplied, eval, eval_name, supply}
use Rattle.ctl_meaning.specs.Statements.{Doing, arm_of, assign as assign_doing, assign_part, assign_record as assign_found, body_of, call as call_doing, call_nothing as nothing_doing, call_allocate, call_deallocate, do_each, exec, exit as exit_doing, free_object_of, handler_of, loop_for, loop_plainly, loop_while, new_line, null as null_doing, put, put_line, raise_again, raise_new, return as return_doing, within}
use Rattle.ctl_meaning.proofs.Trees.{exec_roll, arm_roll as guarding_roll, handler_roll as handling_roll, master_roll as body_roll}
use Rattle.ctl_code.specs.declared.code.Code.{Code}
use Rattle.ctl_code.specs.declared.code.Instr.TheVariants as InstrOf
use Rattle.ctl_code.specs.declared.code.Way.TheVariants as WayOf
use Rattle.ctl_code.specs.Table.{caught_in}
use Rattle.ctl_layout.specs.Parts.{Reached, Variable, Part, Object, Result, any_type, first_position, is_begun}
use Rattle.ctl_layout.specs.Records.{is_run_type}
use Rattle.ctl_layout.specs.Values.{copied, value_code, value_type, reached_by, sourced}
use Rattle.ctl_layout.specs.Layout.{StatementCode, all, all_items, arm_code, assign, assign_record, call as call_code, call_nothing, dropped_code, record_code, exit, free as free_code, handled, handler_code, return, return_of, return_record, inside, item_code, library_allocate, library_deallocate, master_code, missing_statement, statement_code, leaves_code}
use Rattle.ctl_layout.specs.Values.{actual_code}
use Rattle.ctl_gen.proofs.Known.{both_true, plain_if}
use Rattle.ctl_layout.proofs.TreeLayers.{handler_roll, arm_roll, master_roll, statement_roll}
use Rattle.ctl_gen.proofs.Setting.{Setting, Calls, tools_with}
use Rattle.ctl_gen.proofs.Given.{GivesEach}
use Rattle.ctl_gen.proofs.Worlds.{Kept}
use Rattle.ctl_gen.proofs.Cells.{by_code}
use Rattle.ctl_gen.proofs.Expressions.{Value}
use Rattle.ctl_gen.proofs.Evaluated.{actuals_mean, copied_means, name_starts, start_means, value_means}
use Rattle.ctl_gen.proofs.Reached.{Reaches, name_finds}
use Rattle.ctl_gen.proofs.Components.{part_does}
use Rattle.ctl_gen.proofs.Parts.{Leads, agree_part, agree_run, composite_leads, given_by, name_leads}
use Rattle.ctl_gen.proofs.LastSteps.{itself, itself_ends, selected, selector_ends}
use Rattle.ctl_gen.proofs.Begun.{Starts}
use Rattle.ctl_emitter.proofs.Walked.{part_begun, start_of}
use Rattle.ctl_gen.proofs.Sources.{IsGivenBy, IsSource, source_means}
use Rattle.ctl_gen.proofs.RecordAssign.{record_does}
use Rattle.ctl_gen.proofs.ExplicitCalls.{nothing_does}
use Rattle.ctl_gen.proofs.Freeing.{part_freed_does, variable_freed_does}
use Rattle.ctl_gen.proofs.LibraryCalls.{library_allocate_does, library_deallocate_does, part_allocated_does}
use Rattle.ctl_gen.proofs.Calls.{call_does}
use Rattle.ctl_gen.proofs.Returns.{record_returns, return_runs}
use Rattle.ctl_gen.proofs.Assign.{assign_runs}
use Rattle.ctl_gen.proofs.Texts.{print_runs}
use Rattle.ctl_gen.proofs.Branches.{only_if_runs, paid}
use Rattle.ctl_gen.proofs.Loops.{leave_step, loop_runs, while_runs}
use Rattle.ctl_gen.proofs.Ranges.{for_runs}
use Rattle.ctl_layout.specs.Around.{among}
use Rattle.ctl_gen.proofs.Does.{DoesIn}
use Rattle.ctl_gen.proofs.Follow.{arrives, last_step, lands}
use Rattle.ctl_gen.proofs.Statements as S
use Rattle.ctl_gen.proofs.Handlers as H

module _ (ask : Ask) (k : Tables) (code : Code) (setting : Setting k code) (call : Names.Call) (default : Default) (defaults : GivesEach ask k code setting call default) (bound : ℕ) (calls : Calls ask k code setting bound call) where
  abbrev K : Tools
  K = tools_with ask k call default

  abbrev Performs : StatementCode → Doing → Type 0
  Performs = S.Performs ask k code setting call default defaults bound calls

  abbrev pub Does : Stmt → Type 0
  Does s = Performs (statement_code s) (exec s)

  abbrev Guards : Arm → Type 0
  Guards a = S.Guards ask k code setting call default defaults bound calls (arm_code a) (arm_of a)

  abbrev Handles : Handler → Type 0
  Handles h = H.Handles ask k code setting call default defaults bound calls (handler_code h) (handler_of h)

  -- a master of this version, whose code does what it means
  abbrev pub IsMaster : Master → Type 0
  IsMaster m = S.Mastered ask k code setting call default defaults bound calls (master_code m) (body_of m)

  abbrev StmtToo : Type 0
  StmtToo = (s : Stmt) × Does s

  abbrev ArmToo : Type 0
  ArmToo = (a : Arm) × Guards a

  abbrev HandlerToo : Type 0
  HandlerToo = (h : Handler) × Handles h

  abbrev MasterToo : Type 0
  MasterToo = (m : Master) × IsMaster m

  abbrev bare_stmt : Stmt-F StmtToo ArmToo HandlerToo MasterToo → Stmt-F Stmt Arm Handler Master
  bare_stmt = map-Stmt StmtToo ArmToo HandlerToo MasterToo Stmt Arm Handler Master (λ e. e.0) (λ e. e.0) (λ e. e.0) (λ e. e.0)

  abbrev bare_arm : Arm-F StmtToo ArmToo HandlerToo MasterToo → Arm-F Stmt Arm Handler Master
  bare_arm = map-Arm StmtToo ArmToo HandlerToo MasterToo Stmt Arm Handler Master (λ e. e.0) (λ e. e.0) (λ e. e.0) (λ e. e.0)

  abbrev bare_handler : Handler-F StmtToo ArmToo HandlerToo MasterToo → Handler-F Stmt Arm Handler Master
  bare_handler = map-Handler StmtToo ArmToo HandlerToo MasterToo Stmt Arm Handler Master (λ e. e.0) (λ e. e.0) (λ e. e.0) (λ e. e.0)

  abbrev bare_master : Master-F StmtToo ArmToo HandlerToo MasterToo → Master-F Stmt Arm Handler Master
  bare_master = map-Master StmtToo ArmToo HandlerToo MasterToo Stmt Arm Handler Master (λ e. e.0) (λ e. e.0) (λ e. e.0) (λ e. e.0)

  statements_too : (xs : List StmtToo) → S.EachPerforms ask k code setting call default defaults bound calls (map statement_code (map (λ x. x.0) xs)) (map exec (map (λ x. x.0) xs))
  statements_too [] = tt
  statements_too (x ∷ xs) = (x.1, statements_too xs)

  arms_too : (xs : List ArmToo) → S.EachGuards ask k code setting call default defaults bound calls (map arm_code (map (λ x. x.0) xs)) (map arm_of (map (λ x. x.0) xs))
  arms_too [] = tt
  arms_too (x ∷ xs) = (x.1, arms_too xs)

  -- statements in turn
  each_does : (xs : List StmtToo) → Performs (all (map statement_code (map (λ x. x.0) xs))) (λ j env caught. do_each j env caught (map exec (map (λ x. x.0) xs)))
  each_does xs = S.all_run ask k code setting call default defaults bound calls (map statement_code (map (λ x. x.0) xs)) (map exec (map (λ x. x.0) xs)) (statements_too xs)

  -- a value, in the worlds since any
  means : (e : Expr) → (value_code e).runs k.records ≡ true → (w0 : World) → Value ask k code bound w0 (value_code e) (eval e K)
  means e runs w0 = value_means ask k code setting call default bound calls w0 e runs

  -- One layer ---------------------------------------------------------------------------------------

  does : (y : Stmt-F Stmt Arm Handler Master) (x : StatementCode) (m : Doing) → statement_code (roll-Stmt y) ≡ x → exec (roll-Stmt y) ≡ m → Performs x m → Does (roll-Stmt y)
  does y x m same means h = subst (λ z. Performs z (exec (roll-Stmt y))) (sym same) (subst (λ z. Performs x z) (sym means) h)

  -- a statement that no instruction exists for is not run
  missing_does : (y : Stmt-F Stmt Arm Handler Master) → statement_code (roll-Stmt y) ≡ missing_statement → Does (roll-Stmt y)
  missing_does y same runs = absurd (let e = sym (ap (λ (x : StatementCode). x.runs (among k.records runs.0)) same) ∙ runs.1 in cc)

  -- what a name begins with, whose value is given by this act, if it begins with one
  abbrev Begins : Option Reached → (List ℕ → Act (List ℕ)) → Type 0
  Begins o act = (x : Reached) → o ≡ Some x → is_begun (start_of x) k.records ≡ true → (w0 : World) → Starts ask k code bound w0 (start_of x) act

  begins : (n : Name) → Begins (reached_by n) (given_by n K)
  begins n x is begun w0 = name_starts ask k code setting call default bound calls w0 n x is begun

  assign_does : (o : Option Reached) (act : List ℕ → Act (List ℕ)) (find : Naming) (e : Expr) → ((x : Reached) → o ≡ Some x → Reaches K x act (find Elementary K)) → Begins o act → Performs (assign o (value_code e)) (assign_doing find (eval e))
  unfolding assign_doing
  assign_does (Some (Result b)) act find e reaches begun runs n texts = absurd (cc)
  assign_does None act find e reaches begun runs n texts = absurd (cc)
  assign_does (Some (Variable v)) act find e reaches begun runs n texts = assign_runs ask k code setting.valid bound v (find Elementary K) (reaches (Variable v) refl) (value_code e) (eval e K) (means e runs.1)
  assign_does (Some (Object b steps)) act find e reaches begun runs n texts =
      let h = both_true _ _ runs.1 in
      let x = Object b steps in
      let g = reaches x refl in
      let lies = setting.places.first any_type in
      part_does ask k code call default b act steps any_type first_position (agree_part k code setting.places x h.0) (itself code lies) g.0 bound (value_code e) (eval e K) (means e h.1) (begun x refl (both_true _ _ h.0).0) (find Elementary K) (itself_ends K code lies act steps b (find Elementary K) g.1)
  assign_does (Some (Part b steps t position)) act find e reaches begun runs n texts =
      let h = both_true _ _ runs.1 in
      let x = Part b steps t position in
      let g = reaches x refl in
      let agree = agree_run k code setting.places b steps t h.0 in
      part_does ask k code call default b act steps t position agree.0 (selected k code t position (agree.1 position)) g.0 bound (value_code e) (eval e K) (means e h.1) (begun x refl (both_true _ _ h.0).0) (find Elementary K) (selector_ends K code t position (agree.1 position) act steps b (find Elementary K) g.1)

  -- what is copied begins with a name, or is the value of a function
  source_begins : (y : Reached) (act : List ℕ → Act (List ℕ)) → IsGivenBy K y act → is_begun (start_of y) k.records ≡ true → (w0 : World) → Starts ask k code bound w0 (start_of y) act
  source_begins y act (inl (n, is, same)) begun w0 = subst (Starts ask k code bound w0 (start_of y)) (sym same) (begins n y is begun w0)
  source_begins y act (inr (e, start, same)) begun w0 =
      subst (Starts ask k code bound w0 (start_of y)) (sym same)
      (subst (λ b. Starts ask k code bound w0 b (eval e K)) (sym start) (start_means ask k code setting call default bound calls w0 e (subst (λ b. is_begun b k.records ≡ true) start begun)))

  record_assign_does : (o : Option Reached) (t : ℕ) (q : Option Reached) (act : List ℕ → Act (List ℕ)) (find : Naming) (m : Supplied) → ((x : Reached) → o ≡ Some x → Leads K x act find) → Begins o act → ((y : Reached) → q ≡ Some y → IsSource K y m) → Performs (assign_record o t q) (assign_part find t m)
  unfolding assign_part
  record_assign_does None t q act find m target begun source runs n texts = absurd (cc)
  record_assign_does (Some x) t None act find m target begun source runs n texts = absurd (cc)
  record_assign_does (Some x) t (Some y) act find m target begun source runs n texts =
      let h = both_true _ _ runs.1 in
      let g = both_true _ _ h.1 in
      let known = plain_if k t (both_true _ _ g.1).0 in
      let to = target x refl in
      let from = source y refl in
      let first = begun x refl (part_begun k.records x h.0) in
      let second = source_begins y from.given from.by (part_begun k.records y g.0) in
      subst (λ (find1 : List ℕ → Act Found). DoesIn 0 ask k code bound (λ a. record_code x t y a.stack) (λ d caught. ticked (find1 d >>= (λ f. m.source K d >>= assign_found K d t f)))) (sym (composite_leads K x act find to))
      (record_does ask k code setting call default defaults.constants t known bound calls x act y from.given first second to.walked from.walked h.0 g.0 (m.source K) from.ticks from.finds)

  free_does : (access : ℕ) (o : Option Reached) (act : List ℕ → Act (List ℕ)) (find : Naming) → ((x : Reached) → o ≡ Some x → Reaches K x act (find Elementary K)) → Begins o act → Performs (free_code access o) (free_object_of access find)
  unfolding free_object_of
  free_does access (Some (Result b)) act find reaches begun runs n texts = absurd (cc)
  free_does access None act find reaches begun runs n texts = absurd (cc)
  free_does access (Some (Variable v)) act find reaches begun runs n texts = variable_freed_does ask k code setting call default defaults.constants bound calls access v (find Elementary K) (reaches (Variable v) refl)
  free_does access (Some (Object b steps)) act find reaches begun runs n texts =
      let x = Object b steps in
      let g = reaches x refl in
      let lies = setting.places.first any_type in
      part_freed_does ask k code setting call default defaults.constants bound calls access b act (begun x refl (both_true _ _ runs.1).0) steps any_type first_position (agree_part k code setting.places x runs.1) (itself code lies) g.0 (find Elementary K) (itself_ends K code lies act steps b (find Elementary K) g.1)
  free_does access (Some (Part b steps t position)) act find reaches begun runs n texts =
      let x = Part b steps t position in
      let g = reaches x refl in
      let agree = agree_run k code setting.places b steps t runs.1 in
      part_freed_does ask k code setting call default defaults.constants bound calls access b act (begun x refl (both_true _ _ runs.1).0) steps t position agree.0 (selected k code t position (agree.1 position)) g.0 (find Elementary K) (selector_ends K code t position (agree.1 position) act steps b (find Elementary K) g.1)

  -- the library's Allocate of a pool that a variable is, whose address a variable takes, or a component or a whole object (13.11)
  block_taken : (o q : Option Reached) (act held : List ℕ → Act (List ℕ)) (pool address : Naming) (size alignment : Expr) → ((x : Reached) → o ≡ Some x → Leads K x act pool) → ((x : Reached) → q ≡ Some x → Reaches K x held (address Elementary K)) → Begins q held → Performs (library_allocate o q (value_code size) (value_code alignment)) (call_allocate pool address (eval size) (eval alignment))
  block_taken None q act held pool address size alignment leads reaches begun runs n texts = absurd (cc)
  block_taken (Some (Part b steps t position)) q act held pool address size alignment leads reaches begun runs n texts = absurd (cc)
  block_taken (Some (Object b steps)) q act held pool address size alignment leads reaches begun runs n texts = absurd (cc)
  block_taken (Some (Result b)) q act held pool address size alignment leads reaches begun runs n texts = absurd (cc)
  block_taken (Some (Variable p)) None act held pool address size alignment leads reaches begun runs n texts = absurd (cc)
  block_taken (Some (Variable p)) (Some (Part b steps t position)) act held pool address size alignment leads reaches begun runs n texts =
      let x = Part b steps t position in
      let g = reaches x refl in
      let h = both_true _ _ runs.1 in
      let f = both_true _ _ h.1 in
      let agree = agree_run k code setting.places b steps t h.0 in
      part_allocated_does ask k code call default bound p act pool (leads (Variable p) refl) b held (begun x refl (both_true _ _ h.0).0) steps t position agree.0 (selected k code t position (agree.1 position)) g.0 address (selector_ends K code t position (agree.1 position) held steps b (address Elementary K) g.1) (value_code size) (value_code alignment) (eval size) (eval alignment) (means size f.0) (means alignment (both_true _ _ f.1).0)
  block_taken (Some (Variable p)) (Some (Result b)) act held pool address size alignment leads reaches begun runs n texts = absurd (cc)
  block_taken (Some (Variable p)) (Some (Object b steps)) act held pool address size alignment leads reaches begun runs n texts =
      let x = Object b steps in
      let g = reaches x refl in
      let h = both_true _ _ runs.1 in
      let f = both_true _ _ h.1 in
      let lies = setting.places.first any_type in
      part_allocated_does ask k code call default bound p act pool (leads (Variable p) refl) b held (begun x refl (both_true _ _ h.0).0) steps any_type first_position (agree_part k code setting.places x h.0) (itself code lies) g.0 address (itself_ends K code lies held steps b (address Elementary K) g.1) (value_code size) (value_code alignment) (eval size) (eval alignment) (means size f.0) (means alignment (both_true _ _ f.1).0)
  block_taken (Some (Variable p)) (Some (Variable v)) act held pool address size alignment leads reaches begun runs n texts =
      let h = both_true _ _ runs.1 in
      library_allocate_does ask k code call default bound p act pool (leads (Variable p) refl) v address (reaches (Variable v) refl) (value_code size) (value_code alignment) (eval size) (eval alignment) (means size h.0) (means alignment (both_true _ _ h.1).0)

  -- and its Deallocate
  block_given : (o : Option Reached) (act : List ℕ → Act (List ℕ)) (pool : Naming) (address size alignment : Expr) → ((x : Reached) → o ≡ Some x → Leads K x act pool) → Performs (library_deallocate o (value_code address) (value_code size) (value_code alignment)) (call_deallocate pool (eval address) (eval size) (eval alignment))
  block_given None act pool address size alignment leads runs n texts = absurd (cc)
  block_given (Some (Part b steps t position)) act pool address size alignment leads runs n texts = absurd (cc)
  block_given (Some (Object b steps)) act pool address size alignment leads runs n texts = absurd (cc)
  block_given (Some (Result b)) act pool address size alignment leads runs n texts = absurd (cc)
  block_given (Some (Variable p)) act pool address size alignment leads runs n texts =
      let h = both_true _ _ runs.1 in
      let g = both_true _ _ h.1 in
      library_deallocate_does ask k code call default bound p act pool (leads (Variable p) refl) (value_code address) (value_code size) (value_code alignment) (eval address) (eval size) (eval alignment) (means address h.0) (means size g.0) (means alignment (both_true _ _ g.1).0)

  -- the library's Initialize, Adjust and Finalize (7.6)
  nothing_called : (o : Option Reached) (act : List ℕ → Act (List ℕ)) (find : Naming) → ((x : Reached) → o ≡ Some x → Leads K x act find) → Begins o act → Performs (call_nothing o) (nothing_doing find)
  unfolding nothing_doing
  nothing_called None act find leads begun runs n texts = absurd (cc)
  nothing_called (Some x) act find leads begun runs n texts =
      let h = leads x refl in
      subst (λ (found : List ℕ → Act Found). DoesIn 0 ask k code bound (λ a. dropped_code x a.stack) (λ d caught. ticked (found d >> nothing))) (sym (composite_leads K x act find h))
      (nothing_does ask k code setting call default bound x act (begun x refl (part_begun k.records x runs.1)) h.walked runs.1)

  called_does : (f : ℕ) (actuals : List Actual) → Performs (call_code f (map actual_code actuals)) (call_doing f (map supply actuals))
  called_does f actuals runs n texts = call_does ask k code setting call default bound calls f (map actual_code actuals) (map supply actuals) (λ w0. actuals_mean ask k code setting call default bound calls w0 actuals runs.1)

  -- one step to where control lands
  exits : DoesIn 1 ask k code bound leaves_code (λ d caught. leave_by ByExit)
  unfolding opened_outcome
  exits a w0 d place ks ops c l w le fits sees has = last_step ask code (Kept k code w0) 1 1 _ c 0 (arrives (lands a place) d (place + 1) ks ops) (Leaves ByExit) l w (omega arith) fits (leave_step ask k code bound a.landing ByExit refl d place ks ops l w has.0)

  exit_does : (o : Option Expr) → Performs (exit (option_map value_code o)) (exit_doing (option_map eval o))
  unfolding exit_doing
  exit_does None runs n texts = paid ask k code bound leaves_code (λ d caught. leave_by ByExit) exits
  exit_does (Some e) runs n texts = only_if_runs ask k code bound (value_code e) (eval e K) (means e runs.1) leaves_code (λ d caught. leave_by ByExit) exits

  -- with the value of a record, of a part or of a function
  record_return : (e : Expr) (t : ℕ) (o : Option Reached) → copied t (value_code e) ≡ o → Performs (return_record t o) (return_doing (Some (eval e)))
  unfolding return_doing
  record_return e t None is runs n texts = absurd (cc)
  record_return e t (Some x) is runs n texts =
      let h = both_true _ _ runs.1 in
      record_returns ask k code setting call default t (plain_if k t h.0) bound x e h.1 (λ w0. copied_means ask k code setting call default bound calls w0 e t x is (part_begun k.records x h.1))

  -- with a value of this type
  return_with : (e : Expr) (ty : Ty) → Performs (return_of ty (value_code e)) (return_doing (Some (eval e)))
  unfolding return_doing
  return_with e (Record t) runs n texts = record_return e t (copied t (value_code e)) refl runs n texts
  return_with e Integer runs n texts = return_runs ask k code bound Integer (value_code e) (eval e K) (means e (both_true (is_run_type Integer) ((value_code e).runs k.records) runs.1).1)
  return_with e Count runs n texts = return_runs ask k code bound Count (value_code e) (eval e K) (means e (both_true (is_run_type Count) ((value_code e).runs k.records) runs.1).1)
  return_with e Boolean runs n texts = return_runs ask k code bound Boolean (value_code e) (eval e K) (means e (both_true (is_run_type Boolean) ((value_code e).runs k.records) runs.1).1)
  return_with e Address runs n texts = return_runs ask k code bound Address (value_code e) (eval e K) (means e (both_true (is_run_type Address) ((value_code e).runs k.records) runs.1).1)
  return_with e Handle runs n texts = return_runs ask k code bound Handle (value_code e) (eval e K) (means e (both_true (is_run_type Handle) ((value_code e).runs k.records) runs.1).1)
  return_with e (Access a) runs n texts = return_runs ask k code bound (Access a) (value_code e) (eval e K) (means e (both_true (is_run_type (Access a)) ((value_code e).runs k.records) runs.1).1)

  return_does : (o : Option Expr) → Performs (return (option_map value_code o)) (return_doing (option_map eval o))
  unfolding return_doing opened_outcome
  return_does None runs n texts = λ a w0 d place ks ops c l w le fits sees has. last_step ask code (Kept k code w0) 0 0 _ c 1 (arrives (lands a place) d (place + 1) ks ops) (Leaves (ByReturn [])) l w (omega arith) fits (by_code ask code d place ks ops l w (InstrOf.Transfer WayOf.Return) has.0)
  return_does (Some e) runs n texts = return_with e (value_type (value_code e)) runs n texts

  stmt_rolled : (y : Stmt-F StmtToo ArmToo HandlerToo MasterToo) → Does (roll-Stmt (bare_stmt y))
  unfolding null_doing put put_line new_line raise_new raise_again loop_plainly loop_while loop_for opened_outcome
  stmt_rolled Stmt-F.Null = does Stmt-F.Null _ _ (statement_roll Stmt-F.Null) (exec_roll Stmt-F.Null) (λ runs n texts a w0 d place ks ops c l w le fits sees has. S.still_there ask k code setting call default defaults bound calls 1 (lands a place) w0 d place ks ops c l w fits)
  stmt_rolled (Stmt-F.Assign x e) = does (Stmt-F.Assign x e) _ _ (statement_roll (Stmt-F.Assign x e)) (exec_roll (Stmt-F.Assign x e)) (assign_does (reached_by x) (given_by x K) (eval_name x) e (name_finds K x) (begins x))
  stmt_rolled (Stmt-F.Put ps) = does (Stmt-F.Put ps) _ _ (statement_roll (Stmt-F.Put ps)) (exec_roll (Stmt-F.Put ps)) (λ runs n texts. print_runs ask k code setting call default bound calls false ps runs.1 n texts)
  stmt_rolled (Stmt-F.PutLine ps) = does (Stmt-F.PutLine ps) _ _ (statement_roll (Stmt-F.PutLine ps)) (exec_roll (Stmt-F.PutLine ps)) (λ runs n texts. print_runs ask k code setting call default bound calls true ps runs.1 n texts)
  stmt_rolled Stmt-F.NewLine = does Stmt-F.NewLine _ _ (statement_roll Stmt-F.NewLine) (exec_roll Stmt-F.NewLine) (λ runs n texts a w0 d place ks ops c l w le fits sees has. last_step ask code (Kept k code w0) 0 0 _ c 1 (arrives (lands a place) d (place + 1) ks ops) (Goes tt) (tell Newline l) w (omega arith) fits (by_code ask code d place ks ops l w InstrOf.NewLine has.0))
  stmt_rolled (Stmt-F.Exit o) = does (Stmt-F.Exit o) _ _ (statement_roll (Stmt-F.Exit o)) (exec_roll (Stmt-F.Exit o)) (exit_does o)
  stmt_rolled (Stmt-F.Raise e) = does (Stmt-F.Raise e) _ _ (statement_roll (Stmt-F.Raise e)) (exec_roll (Stmt-F.Raise e)) (λ runs n texts a w0 d place ks ops c l w le fits sees has. last_step ask code (Kept k code w0) 0 0 _ c 1 (arrives (lands a place) d (place + 1) ks ops) (Leaves (ByRaise e)) l w (omega arith) fits (by_code ask code d place ks ops l w (InstrOf.Transfer (WayOf.Raise e)) has.0))
  stmt_rolled Stmt-F.RaiseAgain = does Stmt-F.RaiseAgain _ _ (statement_roll Stmt-F.RaiseAgain) (exec_roll Stmt-F.RaiseAgain) (λ runs n texts a w0 d place ks ops c l w le fits sees has. last_step ask code (Kept k code w0) 0 0 _ c 1 (arrives (lands a place) d (place + 1) ks ops) (Leaves (ByRaise (caught_in ks))) l w (omega arith) fits (by_code ask code d place ks ops l w InstrOf.RaiseAgain has.0))
  stmt_rolled (Stmt-F.Return o) = does (Stmt-F.Return o) _ _ (statement_roll (Stmt-F.Return o)) (exec_roll (Stmt-F.Return o)) (return_does o)
  stmt_rolled (Stmt-F.If arms others) =
      let y = Stmt-F.If (map (λ e. e.0) arms) (map (λ e. e.0) others) in
      does y _ _ (statement_roll y) (exec_roll y) (S.branches_run ask k code setting call default defaults bound calls _ _ _ _ (arms_too arms) (statements_too others))
  stmt_rolled (Stmt-F.Loop body) =
      let y = Stmt-F.Loop (map (λ e. e.0) body) in
      does y _ _ (statement_roll y) (exec_roll y) (λ runs n texts. loop_runs ask k code bound (λ a. (all (map statement_code (map (λ e. e.0) body))).code a n) (λ v caught. do_each K v caught (map exec (map (λ e. e.0) body))) (each_does body runs n texts))
  stmt_rolled (Stmt-F.While e body) =
      let y = Stmt-F.While e (map (λ x. x.0) body) in
      does y _ _ (statement_roll y) (exec_roll y)
      (λ runs n texts.
      let h = both_true _ _ runs.1 in
      while_runs ask k code bound (value_code e) (eval e K) (means e h.0) (λ a. (all (map statement_code (map (λ x. x.0) body))).code a n) (λ v caught. do_each K v caught (map exec (map (λ x. x.0) body))) (each_does body (runs.0, h.1) n texts))
  stmt_rolled (Stmt-F.For x way low high body) =
      let y = Stmt-F.For x way low high (map (λ z. z.0) body) in
      does y _ _ (statement_roll y) (exec_roll y)
      (λ runs n texts.
      let h = both_true _ _ runs.1 in
      let g = both_true _ _ h.1 in
      for_runs ask k code setting.valid bound x way (value_code low) (value_code high) (eval low K) (eval high K) (means low h.0) (means high g.0) (λ a. (all (map statement_code (map (λ z. z.0) body))).code a n) (λ v caught. do_each K v caught (map exec (map (λ z. z.0) body))) (each_does body (runs.0, g.1) n texts))
  stmt_rolled (Stmt-F.Block m) = does (Stmt-F.Block m.0) _ _ (statement_roll (Stmt-F.Block m.0)) (exec_roll (Stmt-F.Block m.0)) (S.block_runs ask k code setting call default defaults bound calls (master_code m.0) (body_of m.0) m.1)
  stmt_rolled (Stmt-F.AssignRecord x t a) = does (Stmt-F.AssignRecord x t a) _ _ (statement_roll (Stmt-F.AssignRecord x t a)) (exec_roll (Stmt-F.AssignRecord x t a)) (record_assign_does (reached_by x) t (sourced a) (given_by x K) (eval_name x) (supply a) (name_leads K x) (begins x) (source_means K a))
  stmt_rolled (Stmt-F.Call f xs) = does (Stmt-F.Call f xs) _ _ (statement_roll (Stmt-F.Call f xs)) (exec_roll (Stmt-F.Call f xs)) (called_does f xs)
  stmt_rolled (Stmt-F.Nothing x) = does (Stmt-F.Nothing x) _ _ (statement_roll (Stmt-F.Nothing x)) (exec_roll (Stmt-F.Nothing x)) (nothing_called (reached_by x) (given_by x K) (eval_name x) (name_leads K x) (begins x))
  stmt_rolled (Stmt-F.Dispatch op x) = missing_does (Stmt-F.Dispatch op x) (statement_roll (Stmt-F.Dispatch op x))
  stmt_rolled (Stmt-F.LibraryAllocate p x size al) = does (Stmt-F.LibraryAllocate p x size al) _ _ (statement_roll (Stmt-F.LibraryAllocate p x size al)) (exec_roll (Stmt-F.LibraryAllocate p x size al)) (block_taken (reached_by p) (reached_by x) (given_by p K) (given_by x K) (eval_name p) (eval_name x) size al (name_leads K p) (name_finds K x) (begins x))
  stmt_rolled (Stmt-F.LibraryDeallocate p x size al) = does (Stmt-F.LibraryDeallocate p x size al) _ _ (statement_roll (Stmt-F.LibraryDeallocate p x size al)) (exec_roll (Stmt-F.LibraryDeallocate p x size al)) (block_given (reached_by p) (given_by p K) (eval_name p) x size al (name_leads K p))
  stmt_rolled (Stmt-F.Free a x) = does (Stmt-F.Free a x) _ _ (statement_roll (Stmt-F.Free a x)) (exec_roll (Stmt-F.Free a x)) (free_does a (reached_by x) (given_by x K) (eval_name x) (name_finds K x) (begins x))
  stmt_rolled (Stmt-F.Release x) = missing_does (Stmt-F.Release x) (statement_roll (Stmt-F.Release x))

  arm_rolled : (y : Arm-F StmtToo ArmToo HandlerToo MasterToo) → Guards (roll-Arm (bare_arm y))
  arm_rolled y =
      subst (λ z. S.Guards ask k code setting call default defaults bound calls z (arm_of (roll-Arm (bare_arm y)))) (sym (arm_roll (bare_arm y)))
      (subst (λ m. S.Guards ask k code setting call default defaults bound calls (record { test = value_code y.test; body = all (map statement_code (map (λ x. x.0) y.body)) }) m) (sym (guarding_roll (bare_arm y)))
      (S.guard_runs ask k code setting call default defaults bound calls (value_code y.test) (eval y.test) (map statement_code (map (λ x. x.0) y.body)) (map exec (map (λ x. x.0) y.body)) (means y.test) (statements_too y.body)))

  handlers_too : (hs : List HandlerToo) → H.EachHandles ask k code setting call default defaults bound calls (map handler_code (map (λ x. x.0) hs)) (map handler_of (map (λ x. x.0) hs))
  handlers_too [] = tt
  handlers_too (h ∷ hs) = (h.1, handlers_too hs)

  handler_rolled : (y : Handler-F StmtToo ArmToo HandlerToo MasterToo) → Handles (roll-Handler (bare_handler y))
  handler_rolled y =
      subst (λ z. H.Handles ask k code setting call default defaults bound calls z (handler_of (roll-Handler (bare_handler y)))) (sym (handler_roll (bare_handler y)))
      (subst (λ m. H.Handles ask k code setting call default defaults bound calls (record { choices = y.choices; body = all (map statement_code (map (λ x. x.0) y.body)) }) m) (sym (handling_roll (bare_handler y)))
      (H.handler_does ask k code setting call default defaults bound calls y.choices (map statement_code (map (λ x. x.0) y.body)) (map exec (map (λ x. x.0) y.body)) (statements_too y.body)))

  -- statements, and their handlers if there are any
  closes : (body : List StmtToo) (handlers : List HandlerToo) → S.Closes ask k code setting call default defaults bound calls (handled (all (map statement_code (map (λ x. x.0) body))) (map handler_code (map (λ x. x.0) handlers))) (S.with_handlers (map exec (map (λ x. x.0) body)) (map handler_of (map (λ x. x.0) handlers)))
  closes body [] = S.plain_closes ask k code setting call default defaults bound calls (map statement_code (map (λ x. x.0) body)) (map exec (map (λ x. x.0) body)) (statements_too body)
  closes body (h ∷ hs) = H.handled_closes ask k code setting call default defaults bound calls (map statement_code (map (λ x. x.0) body)) (map exec (map (λ x. x.0) body)) (statements_too body) (handler_code h.0) (map handler_code (map (λ x. x.0) hs)) (handler_of h.0) (map handler_of (map (λ x. x.0) hs)) (handlers_too (h ∷ hs))

  master_rolled : (y : Master-F StmtToo ArmToo HandlerToo MasterToo) → IsMaster (roll-Master (bare_master y))
  unfolding within
  master_rolled y =
      let same = master_roll (bare_master y) in
      let means = body_roll (bare_master y) in
      let statements = handled (all (map statement_code (map (λ x. x.0) y.body))) (map handler_code (map (λ x. x.0) y.handlers)) in
      subst (λ z. S.Mastered ask k code setting call default defaults bound calls z (body_of (roll-Master (bare_master y)))) (sym same)
      (subst (λ b. S.Mastered ask k code setting call default defaults bound calls (record { slots = y.slots; inside = inside (all_items (map item_code y.items)) statements }) b) (sym means)
      (record { slots = refl; inside = S.master_runs ask k code setting call default defaults bound calls y.items statements (S.with_handlers (map exec (map (λ x. x.0) y.body)) (map handler_of (map (λ x. x.0) y.handlers))) (closes y.body y.handlers) }))

  -- Whole trees ---------------------------------------------------------------------------------------

  pub master_does : (m : Master) → IsMaster m
  master_does = ind-Master Does Guards Handles IsMaster
      (λ x y is. subst (λ z. Does (roll-Stmt z)) is (stmt_rolled y))
      (λ x y is. subst (λ z. Guards (roll-Arm z)) is (arm_rolled y))
      (λ x y is. subst (λ z. Handles (roll-Handler z)) is (handler_rolled y))
      (λ x y is. subst (λ z. IsMaster (roll-Master z)) is (master_rolled y))
