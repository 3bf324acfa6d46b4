-- What names and expressions do keeps the invariant, where executions and allocators do (4.1, 4.4, 4.5, 6.4.1).
use Rattle.std.proofs.Common.{ℕ, List, [], ◌∷◌, Option, Some, None}
use Rattle.ctl_program.specs.declared.types.Ty.{Ty}
use Rattle.ctl_program.specs.declared.types.Var.{Var}
use Rattle.ctl_program.specs.declared.operators.Shortcut.{Shortcut}
use Rattle.ctl_meaning.specs.World.{Slot}
use Rattle.ctl_meaning.specs.Choice.{Ask}
use Rattle.ctl_meaning.specs.Outcome.{Act, ◌>>=◌, spend}
use Rattle.ctl_meaning.specs.Types.{Tables, Category, Elementary, Composite, category_of}
use Rattle.ctl_meaning.specs.Names.{Alone, OfSubprogram, OfAllocator, Call as Caller, Default, Tools, Found, begins_as}
use Rattle.ctl_meaning.specs.Expressions.{Passed, no_actuals, with_formal, call_with, Valued, Naming, Applied, Supplied, pass_each, apply_each, join_each, var_part, if_given, operands, allocator, eval_step, operand_step, name_step, actual_step, by_value}
use Rattle.ctl_meaning.proofs.Relation.{Each, IfSome}
use Rattle.ctl_meaning.proofs.Layers.{OfExpressions, Expressions}
use Rattle.ctl_orderly.proofs.Rules.{Good}
use Rattle.ctl_orderly.proofs.Plain.{keeps_by_copy, keeps_by_reference, keeps_copy_back, keeps_discriminant, keeps_done, keeps_either, keeps_find_var, keeps_or_constraint_error, keeps_read_found, keeps_seq, keeps_subpool_function, keeps_then, keeps_ticked, keeps_walk}

module _ (t : Tables) (ask : Ask) (call : Caller) (default : Default) where
  abbrev k : Tools
  k = record { ask = ask; tables = t; call = call; default = default }

  -- What holds of the parts of a program ----------------------------------------------

  abbrev pub GoodValue : Valued → Type 0
  GoodValue e = (env : List ℕ) → Good t (e k env)

  abbrev pub GoodName : Naming → Type 0
  GoodName n = (c : Category) (env : List ℕ) → Good t (n c k env)

  abbrev pub GoodOperand : Applied → Type 0
  GoodOperand o = (env v : List ℕ) → Good t (o k env v)

  abbrev pub GoodActual : Supplied → Type 0
  GoodActual a = ((env : List ℕ) → Good t (a.source k env)) × ((f : Found) → Good t (a.taken k f))

  -- what is said of expressions
  abbrev pub of_expressions : OfExpressions
  of_expressions = record { Value = GoodValue; Name = GoodName; Operand = GoodOperand; Actual = GoodActual }

  -- a subprogram's body, and an allocator with what it takes from the clock
  abbrev pub Calls : Type 0
  Calls = (f : ℕ) (ss : List Slot) (env : List ℕ) → Good t (call (OfSubprogram f ss) env)

  abbrev pub Allocates : Type 0
  Allocates = (env : List ℕ) (access : ℕ) (ty : Ty) (m : Act (Option (List ℕ) × Option (List ℕ))) → Good t m → Good t (spend (m >>= (λ p. call (OfAllocator access ty p.0 p.1) env)))

  abbrev pub Starts : Type 0
  Starts = (u position : ℕ) (env : List ℕ) → Good t (default u position env)

  pub keeps_if_given : (env : List ℕ) (o : Option Valued) → IfSome GoodValue o → Good t (if_given (λ e. e k env) o)
  unfolding if_given
  keeps_if_given env None h = keeps_done _
  keeps_if_given env (Some e) h = keeps_seq (h env) (λ v. keeps_done _)

  module _ (calls : Calls) (allocates : Allocates) where
    -- Expressions ---------------------------------------------------------------

    pub keeps_call_with : (env : List ℕ) (f : ℕ) (p : Passed) → Good t (call_with k env f p)
    unfolding call_with
    keeps_call_with env f p = keeps_seq (calls f p.slots env) (λ r. keeps_then (keeps_copy_back r.slots p.back) (keeps_done r))

    pub keeps_var_part : (c : Category) (env : List ℕ) (v : Var) → Good t (var_part c env v)
    unfolding var_part
    keeps_var_part c env v = keeps_ticked (keeps_find_var c env v)

    pub keeps_pass_each : (env : List ℕ) (xs : List Supplied) → Each GoodActual xs → (p : Passed) → Good t (pass_each k env xs p)
    unfolding pass_each
    keeps_pass_each env [] h p = keeps_done p
    keeps_pass_each env (a ∷ rest) h p = keeps_seq (keeps_ticked (keeps_seq (h.0.0 env) (λ f. h.0.1 f))) (λ x. keeps_pass_each env rest h.1 (with_formal x p))

    pub keeps_apply_each : (env : List ℕ) (os : List Applied) → Each GoodOperand os → (v : List ℕ) → Good t (apply_each k env os v)
    unfolding apply_each
    keeps_apply_each env [] h v = keeps_done v
    keeps_apply_each env (o ∷ rest) h v = keeps_seq (h.0 env v) (λ u. keeps_apply_each env rest h.1 u)

    pub keeps_join_each : (env : List ℕ) (op : Shortcut) (es : List Valued) → Each GoodValue es → (v : List ℕ) → Good t (join_each k env op es v)
    unfolding join_each
    keeps_join_each env op [] h v = keeps_done v
    keeps_join_each env op (e ∷ rest) h v = keeps_seq (keeps_ticked (keeps_either _ (keeps_done v) (h.0 env))) (λ u. keeps_join_each env op rest h.1 u)

    pub keeps_operands : (env : List ℕ) (x y : Option Valued) → IfSome GoodValue x → IfSome GoodValue y → Good t (operands k env x y)
    unfolding operands
    keeps_operands env x y h i = keeps_seq (keeps_if_given env x h) (λ a. keeps_seq (keeps_if_given env y i) (λ b. keeps_done _))

    pub keeps_by_value : (c : Category) (f : Found) → Good t (by_value c f)
    unfolding by_value
    keeps_by_value Elementary f = keeps_seq (keeps_read_found 1 f) (λ v. keeps_done _)
    keeps_by_value Composite f = keeps_by_reference f

    -- each layer of an expression keeps the invariant where its parts do
    pub expressions : Expressions of_expressions
    unfolding eval_step allocator operand_step name_step actual_step
    expressions = record {
      constant = λ n env. keeps_ticked (keeps_done _);
      read = λ n ty h env. keeps_ticked (keeps_seq (h (category_of ty) env) (λ f. keeps_read_found _ f));
      call = λ f xs ty h env. keeps_ticked (keeps_seq (keeps_seq (keeps_pass_each env xs h no_actuals) (λ p. keeps_call_with env f p)) (λ r. keeps_read_found _ (Alone r.cells)));
      unary = λ op ty e h env. keeps_ticked (keeps_seq (h env) (λ v. keeps_or_constraint_error _));
      chain = λ e o os h i l env. keeps_seq (h env) (λ v. keeps_apply_each env (o ∷ os) (i, l) v);
      short = λ op e f es h i l env. keeps_seq (h env) (λ v. keeps_join_each env op (f ∷ es) (i, l) v);
      convert = λ ty e h env. keeps_ticked (keeps_seq (h env) (λ v. keeps_or_constraint_error _));
      access = λ v env. keeps_ticked (keeps_seq (keeps_var_part Composite env v) (λ f. keeps_done _));
      new = λ access ty x y h i env. keeps_ticked (keeps_seq (allocates env access ty _ (keeps_operands env x y h i)) (λ r. keeps_done _));
      subpool = λ which n h env. keeps_ticked (keeps_seq (h Composite env) (λ f. keeps_subpool_function which _));
      discriminant = λ n i h env. keeps_ticked (keeps_seq (h Composite env) (λ f. keeps_discriminant _ i));
      operand = λ op ty e h env v. keeps_ticked (keeps_seq (h env) (λ u. keeps_or_constraint_error _));
      variable = λ v ss c env. keeps_seq (keeps_var_part (begins_as ss c) env v) (keeps_walk k ss);
      given = λ e ss h c env. keeps_seq (keeps_seq (h env) (λ v. keeps_done _)) (keeps_walk k ss);
      by_value = λ e ty h. (λ env. keeps_seq (h env) (λ v. keeps_done _), keeps_by_value (category_of ty));
      part = λ n ty h. (λ env. keeps_ticked (h Composite env), keeps_by_reference);
      copied = λ n ty b h. (λ env. keeps_ticked (h (category_of ty) env), λ f. keeps_by_copy _ b f);
    }
