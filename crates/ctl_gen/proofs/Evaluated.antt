-- The code of each expression and of each actual that this version runs does what it means.
use Rattle.std.proofs.Common.{◌≡◌, ℕ, List, [], ◌∷◌, map, Option, Some, None, Bool, true, false, refl, sym, ap, ◌∙◌, subst}
use Rattle.std.proofs.lemmas.Bool.{eqb-true, not-true}
use Rattle.ctl_program.specs.declared.types.Ty.{Ty}
use Rattle.ctl_program.specs.declared.types.Ty.TheVariants.{Integer, Count, Boolean, Address, Handle, Access, Record}
use Rattle.ctl_program.specs.declared.expression.Expr.{Expr, roll-Expr, map-Expr, ind-Expr}
use Rattle.ctl_program.specs.declared.expression.Name.{Name, out-Name, roll-Name, roll-out-Name, map-Name}
use Rattle.ctl_program.specs.declared.expression.Name.TheVariants.{rolls-Variable, rolls-Given, outs-Variable, outs-Given}
use Rattle.ctl_program.specs.declared.expression.Step.{Step}
use Rattle.ctl_program.specs.declared.expression.Actual.{Actual, map-Actual, out-Actual, roll-Actual, roll-out-Actual}
use Rattle.ctl_program.specs.declared.expression.Operand.{Operand, Operand-F, roll-Operand, map-Operand}
use Rattle.ctl_program.specs.declared.expression.Actual.TheOpen.{Actual-F, Expr-F, Name-F}
use Rattle.ctl_meaning.specs.World.{World}
use Rattle.ctl_meaning.specs.Choice.{Ask}
use Rattle.ctl_meaning.specs.Outcome.{Act, ◌>>=◌, ticked}
use Rattle.ctl_meaning.specs.Types.{Tables, Category, Elementary, cells_of}
use Rattle.ctl_meaning.specs.Names.{Call, Default, Tools, read_found}
use Rattle.ctl_meaning.specs.Expressions.{Applied, Naming, Supplied, Valued, actual_step, apply, eval, eval_name, eval_step, operand_step, supply}
use Rattle.ctl_meaning.proofs.Trees.{actual_roll as supply_roll, eval_roll, operand_roll}
use Rattle.ctl_code.specs.declared.code.Code.{Code}
use Rattle.ctl_layout.specs.Parts.{Start, OfVariable, OfRecord, Reached, Variable, Part, Object, Result, any_type, behind_steps, first_position, is_begun}
use Rattle.ctl_layout.specs.Values.{ActualCode, ValueCode, OperatorCode, actual_code, actuals_run, by_value, call_reached, copied, discriminant, given, is_of, is_result, missing_value, new, new_copy, new_given, operator_of, operators_run, reached_if, read, record_call_code, record_runs, value_code, values_run, reached_by}
use Rattle.ctl_gen.proofs.Known.{IsScalar, both_true, plain_if, scalar_elementary, scalar_if}
use Rattle.ctl_gen.proofs.Worlds.{Since}
use Rattle.ctl_emitter.proofs.Walked.{behind_is, part_begun, start_of}
use Rattle.ctl_gen.proofs.Parts.{Leads, agree_part, agree_run, given_by, given_layer, name_leads}
use Rattle.ctl_gen.proofs.LastSteps.{itself, itself_ends, selected, selector_ends}
use Rattle.ctl_gen.proofs.Begun.{Starts, value_starts}
use Rattle.ctl_gen.proofs.Components.{component_value}
use Rattle.ctl_gen.proofs.Reached.{Reaches, name_finds}
use Rattle.ctl_layout.proofs.TreeLayers.{value_roll, operator_roll, actual_roll, reached_roll}
use Rattle.ctl_layout.proofs.Layers.{access_given, copied_layer, copied_rolled, result_rolled}
use Rattle.ctl_gen.proofs.Setting.{Setting, Calls, tools_with}
use Rattle.ctl_gen.proofs.Actuals as A
use Rattle.ctl_gen.proofs.FunctionCalls.{function_record, function_value}
use Rattle.ctl_gen.proofs.Sources.{Reads, name_reads}
use Rattle.ctl_gen.proofs.AllocatedValues.{copied_value, given_value, new_value}
use Rattle.ctl_gen.proofs.Designated.{designating_value}
use Rattle.ctl_gen.proofs.Discriminants.{discriminant_value}
use Rattle.ctl_gen.proofs.Expressions as X

-- Names -------------------------------------------------------------------------------------------

-- the layer that a name is made of
layer_is : (y : Name-F Actual Expr Name Operand) → out-Name (roll-Name y) ≡ y
layer_is (Name-F.Variable v ss) = ap out-Name (rolls-Variable v ss) ∙ outs-Variable v ss
layer_is (Name-F.Given e ss) = ap out-Name (rolls-Given e ss) ∙ outs-Given e ss

-- Expressions and actuals -------------------------------------------------------------------------

-- in the worlds since an earlier one, while no more than the bound is on the clock
module _ (ask : Ask) (k : Tables) (code : Code) (setting : Setting k code) (call : Call) (default : Default) (bound : ℕ) (calls : Calls ask k code setting bound call) (w0 : World) where
  abbrev K : Tools
  K = tools_with ask k call default

  abbrev Fits : World → Type 0
  Fits w = Since k code w0 w

  abbrev pub IsValue : Expr → Type 0
  IsValue e = (value_code e).runs k.records ≡ true → X.Value ask k code bound w0 (value_code e) (eval e K)

  -- what is copied of it is read from a part, or given by a function, if the code of what it begins with is run
  abbrev IsCopied : Expr → Type 0
  IsCopied e = (t : ℕ) (x : Reached) → copied t (value_code e) ≡ Some x → is_begun (start_of x) k.records ≡ true → Reads ask k code call default bound w0 t x (eval e)

  abbrev IsOperator : Operand → Type 0
  IsOperator o = (operator_of o).right.runs k.records ≡ true → X.Further ask k code bound w0 (operator_of o) (apply o K)

  abbrev IsActual : Actual → Type 0
  IsActual a = (actual_code a).runs k.records ≡ true → A.Passes ask k code setting call default bound w0 (actual_code a) (supply a)

  -- the code of what a name begins with, if it is run
  abbrev IsName : Name → Type 0
  IsName n = (x : Reached) → reached_by n ≡ Some x → is_begun (start_of x) k.records ≡ true → Starts ask k code bound w0 (start_of x) (given_by n K)

  abbrev ActualToo : Type 0
  ActualToo = (a : Actual) × IsActual a

  -- the code of the value that a name begins with, if it is run
  abbrev IsStart : Expr → Type 0
  IsStart e = is_begun (given (value_code e)) k.records ≡ true → Starts ask k code bound w0 (given (value_code e)) (eval e K)

  -- an expression, whose value may be copied, and which a name may begin with
  abbrev IsExpr : Expr → Type 0
  IsExpr e = IsValue e × IsCopied e × IsStart e

  abbrev ExprToo : Type 0
  ExprToo = (e : Expr) × IsExpr e

  abbrev NameToo : Type 0
  NameToo = (n : Name) × IsName n

  abbrev OperandToo : Type 0
  OperandToo = (o : Operand) × IsOperator o

  abbrev bare_expr : Expr-F ActualToo ExprToo NameToo OperandToo → Expr-F Actual Expr Name Operand
  bare_expr = map-Expr ActualToo ExprToo NameToo OperandToo Actual Expr Name Operand (λ e. e.0) (λ e. e.0) (λ e. e.0) (λ e. e.0)

  abbrev bare_actual : Actual-F ActualToo ExprToo NameToo OperandToo → Actual-F Actual Expr Name Operand
  bare_actual = map-Actual ActualToo ExprToo NameToo OperandToo Actual Expr Name Operand (λ e. e.0) (λ e. e.0) (λ e. e.0) (λ e. e.0)

  abbrev bare_name : Name-F ActualToo ExprToo NameToo OperandToo → Name-F Actual Expr Name Operand
  bare_name = map-Name ActualToo ExprToo NameToo OperandToo Actual Expr Name Operand (λ e. e.0) (λ e. e.0) (λ e. e.0) (λ e. e.0)

  abbrev bare_operand : Operand-F ActualToo ExprToo NameToo OperandToo → Operand-F Actual Expr Name Operand
  bare_operand = map-Operand ActualToo ExprToo NameToo OperandToo Actual Expr Name Operand (λ e. e.0) (λ e. e.0) (λ e. e.0) (λ e. e.0)

  -- Lists of children -------------------------------------------------------------------------------

  operators_too : (os : List OperandToo) → operators_run k.records (map operator_of (map (λ o. o.0) os)) ≡ true → X.Operators ask k code bound w0 K (map operator_of (map (λ o. o.0) os)) (map apply (map (λ o. o.0) os))
  operators_too [] h = tt
  operators_too (o ∷ os) h = let g = both_true _ _ h in (o.1 g.0, operators_too os g.1)

  values_too : (xs : List ExprToo) → values_run k.records (map value_code (map (λ x. x.0) xs)) ≡ true → X.EachValue ask k code bound w0 K (map value_code (map (λ x. x.0) xs)) (map eval (map (λ x. x.0) xs))
  values_too [] h = tt
  values_too (x ∷ xs) h = let g = both_true _ _ h in (x.1.0 g.0, values_too xs g.1)

  actuals_too : (xs : List ActualToo) → actuals_run (map actual_code (map (λ x. x.0) xs)) k.records ≡ true → A.EachPasses ask k code setting call default bound w0 (map actual_code (map (λ x. x.0) xs)) (map supply (map (λ x. x.0) xs))
  actuals_too [] h = tt
  actuals_too (x ∷ xs) h = let g = both_true _ _ h in (x.1 g.0, actuals_too xs g.1)

  -- One layer ---------------------------------------------------------------------------------------

  -- what a construct has, and what it means
  abbrev Meets : ValueCode → Valued → Type 0
  Meets x m = x.runs k.records ≡ true → X.Value ask k code bound w0 x (m K)

  meets : (y : Expr-F Actual Expr Name Operand) (x : ValueCode) (m : Valued) → value_code (roll-Expr y) ≡ x → eval (roll-Expr y) ≡ m → Meets x m → IsValue (roll-Expr y)
  meets y x m same means h = subst (λ z. Meets z (eval (roll-Expr y))) (sym same) (subst (Meets x) (sym means) h)

  -- a construct that no instruction exists for is not run
  missing_rolled : (y : Expr-F Actual Expr Name Operand) → value_code (roll-Expr y) ≡ missing_value None → IsValue (roll-Expr y)
  missing_rolled y same h = absurd (let e = sym (ap (λ (x : ValueCode). x.runs k.records) same) ∙ h in cc)

  -- an allocator without a handle or a value
  allocates : (access : ℕ) (ty : Ty) → Meets (new access ty None None) (eval_step (Expr-F.New access ty None None))
  allocates access (Record t) runs = new_value ask k code setting call default bound calls w0 access (Record t) (plain_if k t runs)
  allocates access Integer runs = new_value ask k code setting call default bound calls w0 access Integer tt
  allocates access Boolean runs = new_value ask k code setting call default bound calls w0 access Boolean tt
  allocates access Count runs = new_value ask k code setting call default bound calls w0 access Count tt
  allocates access Address runs = new_value ask k code setting call default bound calls w0 access Address tt
  allocates access Handle runs = absurd (cc runs)
  allocates access (Access a) runs = new_value ask k code setting call default bound calls w0 access (Access a) tt

  -- with the value of a part, or of a function
  copies : (access t : ℕ) (v : ExprToo) (o : Option Reached) → copied t (value_code v.0) ≡ o → Meets (new_copy access t o) (eval_step (Expr-F.New access (Record t) None (Some (eval v.0))))
  copies access t v None is runs = absurd (cc)
  copies access t v (Some x) is runs =
      let e = both_true _ _ runs in
      copied_value ask k code setting call default bound calls w0 access t (plain_if k t e.0) (eval v.0) x (v.1.1 t x is (part_begun k.records x e.1)) e.1

  -- with the value of an elementary type
  gives : (access : ℕ) (of : Ty) (v : ExprToo) → Meets (new_given access of (value_code v.0)) (eval_step (Expr-F.New access of None (Some (eval v.0))))
  gives access of v runs =
      let e = both_true _ _ runs in
      given_value ask k code setting call default bound calls w0 access of (scalar_if of e.0) (eval v.0) (value_code v.0) (v.1.0 e.1)

  allocates_with : (access : ℕ) (ty : Ty) (v : ExprToo) → Meets (new access ty None (Some (value_code v.0))) (eval_step (Expr-F.New access ty None (Some (eval v.0))))
  allocates_with access (Record t) v runs = copies access t v (copied t (value_code v.0)) refl runs
  allocates_with access Integer v runs = gives access Integer v runs
  allocates_with access Boolean v runs = gives access Boolean v runs
  allocates_with access Count v runs = gives access Count v runs
  allocates_with access Address v runs = gives access Address v runs
  allocates_with access Handle v runs = gives access Handle v runs
  allocates_with access (Access a) v runs = gives access (Access a) v runs

  -- with a handle it is not run
  not_new : (access : ℕ) (ty : Ty) (handle : ValueCode) (value : Option ValueCode) → (new access ty (Some handle) value).runs k.records ≡ true → ⊥
  not_new access (Record t) handle value runs = absurd (cc)
  not_new access Integer handle value runs = absurd (cc)
  not_new access Boolean handle value runs = absurd (cc)
  not_new access Count handle value runs = absurd (cc)
  not_new access Address handle value runs = absurd (cc)
  not_new access Handle handle value runs = absurd (cc)
  not_new access (Access a) handle value runs = absurd (cc)

  new_rolled : (y : Expr-F Actual Expr Name Operand) (access : ℕ) (ty : Ty) (handle : ValueCode) (value : Option ValueCode) → value_code (roll-Expr y) ≡ new access ty (Some handle) value → IsValue (roll-Expr y)
  new_rolled y access ty handle value same h = absurd (not_new access ty handle value (subst (λ (x : ValueCode). x.runs k.records ≡ true) same h))

  -- a value of an elementary type
  elementary : (o : Option Reached) (ty : Ty) (find : Naming) → IsScalar ty → X.Value ask k code bound w0 (read o ty) (λ v. ticked (find Elementary K v >>= read_found (cells_of k ty))) → X.Value ask k code bound w0 (read o ty) (eval_step (Expr-F.Read find ty) K)
  unfolding eval_step
  elementary o ty find scalar h = subst (λ (c : Category). X.Value ask k code bound w0 (read o ty) (λ v. ticked (find c K v >>= read_found (cells_of k ty)))) (sym (scalar_elementary ty scalar)) h

  reads : (o : Option Reached) (ty : Ty) (act : List ℕ → Act (List ℕ)) (find : Naming) → ((x : Reached) → o ≡ Some x → Reaches K x act (find Elementary K)) → ((x : Reached) → o ≡ Some x → is_begun (start_of x) k.records ≡ true → Starts ask k code bound w0 (start_of x) act) → Meets (read o ty) (eval_step (Expr-F.Read find ty))
  reads None ty act find h begun runs = absurd (cc)
  reads (Some (Result b)) ty act find h begun runs = absurd (cc)
  reads (Some (Variable v)) ty act find h begun runs = elementary (Some (Variable v)) ty find (scalar_if ty runs) (X.read_value ask k code bound w0 v (find Elementary K) (h (Variable v) refl) ty (scalar_if ty runs))
  reads (Some (Object b steps)) ty act find h begun runs =
      let e = both_true _ _ runs in
      let f = both_true _ _ e.1 in
      let x = Object b steps in
      let g = h x refl in
      let lies = setting.places.first any_type in
      elementary (Some x) ty find (scalar_if ty e.0)
      (component_value ask k code call default b act steps any_type first_position (agree_part k code setting.places x e.1) (itself code lies) g.0 bound w0 (begun x refl f.0) (find Elementary K) (itself_ends K code lies act steps b (find Elementary K) g.1) ty (scalar_if ty e.0) (read (Some x) ty).runs (Some x))
  reads (Some (Part b steps t position)) ty act find h begun runs =
      let e = both_true _ _ runs in
      let x = Part b steps t position in
      let g = h x refl in
      let agree = agree_run k code setting.places b steps t e.1 in
      let last = selected k code t position (agree.1 position) in
      elementary (Some x) ty find (scalar_if ty e.0)
      (component_value ask k code call default b act steps t position agree.0 last g.0 bound w0 (begun x refl (both_true _ _ e.1).0) (find Elementary K) (selector_ends K code t position (agree.1 position) act steps b (find Elementary K) g.1) ty (scalar_if ty e.0) (read (Some x) ty).runs (Some x))

  -- a discriminant of a block pool
  discriminates : (o : Option Reached) (position : ℕ) (act : List ℕ → Act (List ℕ)) (find : Naming) → ((x : Reached) → o ≡ Some x → Leads K x act find) → ((x : Reached) → o ≡ Some x → is_begun (start_of x) k.records ≡ true → Starts ask k code bound w0 (start_of x) act) → Meets (discriminant o position) (eval_step (Expr-F.Discriminant find position))
  discriminates None position act find leads begun runs = absurd (cc)
  discriminates (Some x) position act find leads begun runs = discriminant_value ask k code setting call default bound w0 x position find act (leads x refl) (begun x refl (part_begun k.records x runs)) runs

  expr_rolled : (y : Expr-F ActualToo ExprToo NameToo OperandToo) → IsValue (roll-Expr (bare_expr y))
  unfolding eval_step
  expr_rolled (Expr-F.Constant n) = meets (Expr-F.Constant n) _ _ (value_roll (Expr-F.Constant n)) (eval_roll (Expr-F.Constant n)) (λ h. X.constant_value ask k code bound w0 n)
  expr_rolled (Expr-F.Read n ty) = meets (Expr-F.Read n.0 ty) _ _ (value_roll (Expr-F.Read n.0 ty)) (eval_roll (Expr-F.Read n.0 ty)) (reads (reached_by n.0) ty (given_by n.0 K) (eval_name n.0) (name_finds K n.0) n.1)
  expr_rolled (Expr-F.Unary op ty e) = meets (Expr-F.Unary op ty e.0) _ _ (value_roll (Expr-F.Unary op ty e.0)) (eval_roll (Expr-F.Unary op ty e.0)) (λ h. X.applied_value ask k code bound w0 (value_code e.0).runs op ty ty (value_code e.0) (eval e.0 K) (e.1.0 h))
  expr_rolled (Expr-F.Chain e o os) =
      let y = Expr-F.Chain e.0 o.0 (map (λ z. z.0) os) in
      meets y _ _ (value_roll y) (eval_roll y)
      (λ h.
      let g = both_true _ _ h in
      let i = operators_too (o ∷ os) g.1 in
      X.chain_value ask k code bound w0 K (value_code e.0) (eval e.0 K) (e.1.0 g.0) (operator_of o.0) (map operator_of (map (λ z. z.0) os)) (apply o.0) (map apply (map (λ z. z.0) os)) i)
  expr_rolled (Expr-F.Short form e f es) =
      let y = Expr-F.Short form e.0 f.0 (map (λ z. z.0) es) in
      meets y _ _ (value_roll y) (eval_roll y)
      (λ h.
      let g = both_true _ _ h in
      let i = values_too (f ∷ es) g.1 in
      X.short_value ask k code bound w0 K form (value_code e.0) (eval e.0 K) (e.1.0 g.0) (value_code f.0) (map value_code (map (λ z. z.0) es)) (eval f.0) (map eval (map (λ z. z.0) es)) i)
  expr_rolled (Expr-F.Call f xs ty) =
      let y = Expr-F.Call f (map (λ z. z.0) xs) ty in
      meets y _ _ (value_roll y) (eval_roll y)
      (λ h.
      let g = both_true _ _ h in
      let i = both_true _ _ g.1 in
      function_value ask k code setting call default bound calls w0 f (map actual_code (map (λ z. z.0) xs)) (map supply (map (λ z. z.0) xs)) ty (scalar_if ty g.0) (not-true _ i.0) (actuals_too xs i.1))
  expr_rolled (Expr-F.Convert ty e) = meets (Expr-F.Convert ty e.0) _ _ (value_roll (Expr-F.Convert ty e.0)) (eval_roll (Expr-F.Convert ty e.0)) (λ h. let g = both_true _ _ h in X.convert_value ask k code bound w0 ty (value_code e.0) (eval e.0 K) g.0 (e.1.0 g.1))
  expr_rolled (Expr-F.Access v) = meets (Expr-F.Access v) _ _ (value_roll (Expr-F.Access v)) (eval_roll (Expr-F.Access v)) (λ h. designating_value ask k code call default bound w0 v)
  expr_rolled (Expr-F.New access ty None None) = let y = Expr-F.New access ty None None in meets y _ _ (value_roll y) (eval_roll y) (allocates access ty)
  expr_rolled (Expr-F.New access ty None (Some v)) = let y = Expr-F.New access ty None (Some v.0) in meets y _ _ (value_roll y) (eval_roll y) (allocates_with access ty v)
  expr_rolled (Expr-F.New access ty (Some h) None) = let y = Expr-F.New access ty (Some h.0) None in new_rolled y access ty (value_code h.0) None (value_roll y)
  expr_rolled (Expr-F.New access ty (Some h) (Some v)) = let y = Expr-F.New access ty (Some h.0) (Some v.0) in new_rolled y access ty (value_code h.0) (Some (value_code v.0)) (value_roll y)
  expr_rolled (Expr-F.Subpool which n) = missing_rolled (Expr-F.Subpool which n.0) (value_roll (Expr-F.Subpool which n.0))
  expr_rolled (Expr-F.Discriminant n i) = meets (Expr-F.Discriminant n.0 i) _ _ (value_roll (Expr-F.Discriminant n.0 i)) (eval_roll (Expr-F.Discriminant n.0 i)) (discriminates (reached_by n.0) i (given_by n.0 K) (eval_name n.0) (name_leads K n.0) n.1)

  -- the call of a function that gives a record
  call_starts : (f : ℕ) (xs : List ActualToo) (u : ℕ) → record_runs (map actual_code (map (λ z. z.0) xs)) u k.records ≡ true → Starts ask k code bound w0 (OfRecord u (record_runs (map actual_code (map (λ z. z.0) xs)) u) (record_call_code f (map actual_code (map (λ z. z.0) xs)) u)) (eval (roll-Expr (Expr-F.Call f (map (λ z. z.0) xs) (Record u))) K)
  unfolding eval_step
  call_starts f xs u runs =
      let ys = map actual_code (map (λ z. z.0) xs) in
      let g = both_true _ _ runs in
      let i = both_true _ _ g.1 in
      let size = setting.sizes u (plain_if k u g.0).2.laid.is in
      subst (λ (m : Valued). Starts ask k code bound w0 (OfRecord u (record_runs ys u) (record_call_code f ys u)) (m K)) (sym (eval_roll (Expr-F.Call f (map (λ z. z.0) xs) (Record u))))
      (function_record ask k code setting call default bound calls w0 f ys (map supply (map (λ z. z.0) xs)) u (record_runs ys u) size (not-true _ i.0) (actuals_too xs i.1))

  called_copied : (f : ℕ) (xs : List ActualToo) (u t : ℕ) (x : Reached) (b : Bool) → is_of t (Some (Record u)) ≡ b → reached_if (call_reached f (map actual_code (map (λ z. z.0) xs)) (Record u)) b ≡ Some x → is_begun (start_of x) k.records ≡ true → Reads ask k code call default bound w0 t x (eval (roll-Expr (Expr-F.Call f (map (λ z. z.0) xs) (Record u))))
  called_copied f xs u t x false of is begun = absurd (cc is)
  called_copied f xs u t x true of is begun =
      let ys = map actual_code (map (λ z. z.0) xs) in
      let e = roll-Expr (Expr-F.Call f (map (λ z. z.0) xs) (Record u)) in
      let value = OfRecord u (record_runs ys u) (record_call_code f ys u) in
      let same : Result value ≡ x = cc is in
      let runs = subst (λ y. is_begun (start_of y) k.records ≡ true) (sym same) begun in
      subst (λ y. Reads ask k code call default bound w0 t y (eval e)) same
      (record { given = eval e K; begun = call_starts f xs u runs; walked = refl; reads = (eqb-true u t of, refl) })

  -- no other value is copied
  no_copy : {x : Reached} (b : Bool) → reached_if None b ≡ Some x → ⊥
  no_copy true is = absurd (cc is)
  no_copy false is = absurd (cc is)

  -- the part of the name that it reads, or that value
  copy_rolled : (y : Expr-F ActualToo ExprToo NameToo OperandToo) (t : ℕ) (x : Reached) → copied_layer t (bare_expr y) ≡ Some x → is_begun (start_of x) k.records ≡ true → Reads ask k code call default bound w0 t x (eval (roll-Expr (bare_expr y)))
  copy_rolled (Expr-F.Read n ty) t x is begun = subst (Reads ask k code call default bound w0 t x) (sym (eval_roll (Expr-F.Read n.0 ty))) (name_reads ask k code call default bound w0 n.0 ty t x is (λ reaches. n.1 x reaches begun))
  copy_rolled (Expr-F.Constant n) t x is begun = absurd (cc is)
  copy_rolled (Expr-F.Call f xs (Record u)) t x is begun = called_copied f xs u t x (is_of t (Some (Record u))) refl is begun
  copy_rolled (Expr-F.Call f xs Integer) t x is begun = absurd (no_copy (is_of t (Some Integer)) is)
  copy_rolled (Expr-F.Call f xs Count) t x is begun = absurd (no_copy (is_of t (Some Count)) is)
  copy_rolled (Expr-F.Call f xs Boolean) t x is begun = absurd (no_copy (is_of t (Some Boolean)) is)
  copy_rolled (Expr-F.Call f xs Address) t x is begun = absurd (no_copy (is_of t (Some Address)) is)
  copy_rolled (Expr-F.Call f xs Handle) t x is begun = absurd (no_copy (is_of t (Some Handle)) is)
  copy_rolled (Expr-F.Call f xs (Access a)) t x is begun = absurd (no_copy (is_of t (Some (Access a))) is)
  copy_rolled (Expr-F.Unary op ty e) t x is begun = absurd (cc is)
  copy_rolled (Expr-F.Chain e o os) t x is begun = absurd (cc is)
  copy_rolled (Expr-F.Short form e f es) t x is begun = absurd (cc is)
  copy_rolled (Expr-F.Convert ty e) t x is begun = absurd (cc is)
  copy_rolled (Expr-F.Access v) t x is begun = absurd (cc is)
  copy_rolled (Expr-F.New access ty handle v) t x is begun = absurd (cc is)
  copy_rolled (Expr-F.Subpool which n) t x is begun = absurd (cc is)
  copy_rolled (Expr-F.Discriminant n i) t x is begun = absurd (cc is)

  -- any other value is put as one cell
  access_starts : (e : Expr) → is_result (value_code e).reached ≡ false → IsValue e → IsStart e
  access_starts e none value h =
      let is = access_given (value_code e) none in
      let runs = subst (λ b. is_begun b k.records ≡ true) is h in
      subst (λ b. Starts ask k code bound w0 b (eval e K)) (sym is) (value_starts ask k code bound w0 (value_code e).runs (value_code e) (eval e K) (value runs))

  start_rolled : (y : Expr-F ActualToo ExprToo NameToo OperandToo) → IsValue (roll-Expr (bare_expr y)) → IsStart (roll-Expr (bare_expr y))
  start_rolled (Expr-F.Call f xs (Record u)) value =
      let y = Expr-F.Call f (map (λ z. z.0) xs) (Record u) in
      subst (λ (x : ValueCode). is_begun (given x) k.records ≡ true → Starts ask k code bound w0 (given x) (eval (roll-Expr y) K)) (sym (value_roll y)) (call_starts f xs u)
  start_rolled (Expr-F.Call f xs Integer) value = access_starts _ (result_rolled (Expr-F.Call f (map (λ z. z.0) xs) Integer)) value
  start_rolled (Expr-F.Call f xs Count) value = access_starts _ (result_rolled (Expr-F.Call f (map (λ z. z.0) xs) Count)) value
  start_rolled (Expr-F.Call f xs Boolean) value = access_starts _ (result_rolled (Expr-F.Call f (map (λ z. z.0) xs) Boolean)) value
  start_rolled (Expr-F.Call f xs Address) value = access_starts _ (result_rolled (Expr-F.Call f (map (λ z. z.0) xs) Address)) value
  start_rolled (Expr-F.Call f xs Handle) value = access_starts _ (result_rolled (Expr-F.Call f (map (λ z. z.0) xs) Handle)) value
  start_rolled (Expr-F.Call f xs (Access a)) value = access_starts _ (result_rolled (Expr-F.Call f (map (λ z. z.0) xs) (Access a))) value
  start_rolled (Expr-F.Read n ty) value = access_starts _ (result_rolled (Expr-F.Read n.0 ty)) value
  start_rolled (Expr-F.Constant n) value = access_starts _ (result_rolled (Expr-F.Constant n)) value
  start_rolled (Expr-F.Unary op ty e) value = access_starts _ (result_rolled (Expr-F.Unary op ty e.0)) value
  start_rolled (Expr-F.Chain e o os) value = access_starts _ (result_rolled (Expr-F.Chain e.0 o.0 (map (λ z. z.0) os))) value
  start_rolled (Expr-F.Short form e f es) value = access_starts _ (result_rolled (Expr-F.Short form e.0 f.0 (map (λ z. z.0) es))) value
  start_rolled (Expr-F.Convert ty e) value = access_starts _ (result_rolled (Expr-F.Convert ty e.0)) value
  start_rolled (Expr-F.Access v) value = access_starts _ (result_rolled (Expr-F.Access v)) value
  start_rolled (Expr-F.New access ty None None) value = access_starts _ (result_rolled (Expr-F.New access ty None None)) value
  start_rolled (Expr-F.New access ty None (Some v)) value = access_starts _ (result_rolled (Expr-F.New access ty None (Some v.0))) value
  start_rolled (Expr-F.New access ty (Some h) None) value = access_starts _ (result_rolled (Expr-F.New access ty (Some h.0) None)) value
  start_rolled (Expr-F.New access ty (Some h) (Some v)) value = access_starts _ (result_rolled (Expr-F.New access ty (Some h.0) (Some v.0))) value
  start_rolled (Expr-F.Subpool which n) value = access_starts _ (result_rolled (Expr-F.Subpool which n.0)) value
  start_rolled (Expr-F.Discriminant n i) value = access_starts _ (result_rolled (Expr-F.Discriminant n.0 i)) value

  expr_too : (y : Expr-F ActualToo ExprToo NameToo OperandToo) → IsExpr (roll-Expr (bare_expr y))
  expr_too y = (expr_rolled y, λ t x is. copy_rolled y t x (sym (copied_rolled t (bare_expr y)) ∙ is), start_rolled y (expr_rolled y))

  operand_rolled : (y : Operand-F ActualToo ExprToo NameToo OperandToo) → IsOperator (roll-Operand (bare_operand y))
  unfolding operand_step
  operand_rolled y h =
      let is = operator_roll (bare_operand y) in
      let means = operand_roll (bare_operand y) in
      subst (λ (o : OperatorCode). X.Further ask k code bound w0 o (apply (roll-Operand (bare_operand y)) K)) (sym is)
      (subst (λ (m : Applied). X.Further ask k code bound w0 (record { op = y.op; ty = y.ty; right = value_code y.right.0 }) (m K)) (sym means)
      (X.operator_further ask k code bound w0 (record { op = y.op; ty = y.ty; right = value_code y.right.0 }) (eval y.right.0 K) (y.right.1.0 (sym (ap (λ (o : OperatorCode). o.right.runs k.records) is) ∙ h))))

  -- what an actual has, and what it means
  abbrev Passing : ActualCode → Supplied → Type 0
  Passing x m = x.runs k.records ≡ true → A.Passes ask k code setting call default bound w0 x m

  passing : (y : Actual-F Actual Expr Name Operand) (x : ActualCode) (m : Supplied) → actual_code (roll-Actual y) ≡ x → supply (roll-Actual y) ≡ m → Passing x m → IsActual (roll-Actual y)
  passing y x m same means h = subst (λ z. Passing z (supply (roll-Actual y))) (sym same) (subst (Passing x) (sym means) h)

  -- a value
  value_passes : (e : ExprToo) (ty : Ty) → Passing (by_value (value_code e.0) ty) (actual_step (Actual-F.ByValue (eval e.0) ty))
  unfolding actual_step
  value_passes e (Record t) runs = A.record_passes ask k code setting call default bound w0 (value_code e.0) (eval e.0 K) t e.1.2 runs
  value_passes e Integer runs = let g = both_true _ _ runs in A.value_passes ask k code setting call default bound w0 (value_code e.0) (eval e.0 K) Integer (scalar_if Integer g.0) (e.1.0 g.1)
  value_passes e Count runs = let g = both_true _ _ runs in A.value_passes ask k code setting call default bound w0 (value_code e.0) (eval e.0 K) Count (scalar_if Count g.0) (e.1.0 g.1)
  value_passes e Boolean runs = let g = both_true _ _ runs in A.value_passes ask k code setting call default bound w0 (value_code e.0) (eval e.0 K) Boolean (scalar_if Boolean g.0) (e.1.0 g.1)
  value_passes e Address runs = let g = both_true _ _ runs in A.value_passes ask k code setting call default bound w0 (value_code e.0) (eval e.0 K) Address (scalar_if Address g.0) (e.1.0 g.1)
  value_passes e Handle runs = let g = both_true _ _ runs in A.value_passes ask k code setting call default bound w0 (value_code e.0) (eval e.0 K) Handle (scalar_if Handle g.0) (e.1.0 g.1)
  value_passes e (Access a) runs = let g = both_true _ _ runs in A.value_passes ask k code setting call default bound w0 (value_code e.0) (eval e.0 K) (Access a) (scalar_if (Access a) g.0) (e.1.0 g.1)

  actual_rolled : (y : Actual-F ActualToo ExprToo NameToo OperandToo) → IsActual (roll-Actual (bare_actual y))
  unfolding actual_step
  actual_rolled (Actual-F.ByValue e ty) = passing (Actual-F.ByValue e.0 ty) _ _ (actual_roll (Actual-F.ByValue e.0 ty)) (supply_roll (Actual-F.ByValue e.0 ty)) (value_passes e ty)
  actual_rolled (Actual-F.Part n ty) = passing (Actual-F.Part n.0 ty) _ _ (actual_roll (Actual-F.Part n.0 ty)) (supply_roll (Actual-F.Part n.0 ty)) (A.reference_passes ask k code setting call default bound w0 (reached_by n.0) ty (given_by n.0 K) (eval_name n.0) (name_leads K n.0) n.1)
  actual_rolled (Actual-F.Copied n ty begins) = passing (Actual-F.Copied n.0 ty begins) _ _ (actual_roll (Actual-F.Copied n.0 ty begins)) (supply_roll (Actual-F.Copied n.0 ty begins)) (A.copy_passes ask k code setting call default bound w0 (reached_by n.0) ty begins (given_by n.0 K) (eval_name n.0) (name_finds K n.0) n.1)

  -- what a name begins with: a variable, or the value of an expression
  starts_with : (b : Start) (ss : List Step) (x : Reached) (act : List ℕ → Act (List ℕ)) → behind_steps b ss ≡ Some x → (is_begun b k.records ≡ true → Starts ask k code bound w0 b act) → is_begun (start_of x) k.records ≡ true → Starts ask k code bound w0 (start_of x) act
  starts_with b ss x act is h = subst (λ z. is_begun z k.records ≡ true → Starts ask k code bound w0 z act) (behind_is b ss x is).start h

  name_rolled : (y : Name-F ActualToo ExprToo NameToo OperandToo) (x : Reached) → reached_by (roll-Name (bare_name y)) ≡ Some x → is_begun (start_of x) k.records ≡ true → Starts ask k code bound w0 (start_of x) (given_layer (bare_name y) K)
  name_rolled (Name-F.Variable v ss) x is = starts_with (OfVariable v) ss x _ (sym (reached_roll (Name-F.Variable v ss)) ∙ is) (λ h. tt)
  name_rolled (Name-F.Given e ss) x is = starts_with (given (value_code e.0)) ss x _ (sym (reached_roll (Name-F.Given e.0 ss)) ∙ is) e.1.2

  name_too : (y : Name-F ActualToo ExprToo NameToo OperandToo) → IsName (roll-Name (bare_name y))
  name_too y x is h = subst (λ z. Starts ask k code bound w0 (start_of x) (given_layer z K)) (sym (layer_is (bare_name y))) (name_rolled y x is h)

  -- Whole trees ---------------------------------------------------------------------------------------

  expr_means : (e : Expr) → IsExpr e
  expr_means = ind-Expr IsActual IsExpr IsName IsOperator
      (λ x y is. subst (λ z. IsActual (roll-Actual z)) is (actual_rolled y))
      (λ x y is. subst (λ z. IsExpr (roll-Expr z)) is (expr_too y))
      (λ x y is. subst (λ z. IsName (roll-Name z)) is (name_too y))
      (λ x y is. subst (λ z. IsOperator (roll-Operand z)) is (operand_rolled y))

  pub value_means : (e : Expr) → IsValue e
  value_means e = (expr_means e).0

  pub copied_means : (e : Expr) → IsCopied e
  copied_means e = (expr_means e).1

  pub start_means : (e : Expr) → IsStart e
  start_means e = (expr_means e).2

  -- a name, whose part is a whole tree
  name_means : (y : Name-F Actual Expr Name Operand) (x : Reached) → reached_by (roll-Name y) ≡ Some x → is_begun (start_of x) k.records ≡ true → Starts ask k code bound w0 (start_of x) (given_layer y K)
  name_means (Name-F.Variable v ss) = name_rolled (Name-F.Variable v ss)
  name_means (Name-F.Given e ss) = name_rolled (Name-F.Given (e, expr_means e) ss)

  pub name_starts : (n : Name) → IsName n
  name_starts n x = subst (λ m. reached_by m ≡ Some x → is_begun (start_of x) k.records ≡ true → Starts ask k code bound w0 (start_of x) (given_by n K)) (roll-out-Name n) (name_means (out-Name n) x)

  -- an actual, whose parts are whole trees
  actual_means : (y : Actual-F Actual Expr Name Operand) → IsActual (roll-Actual y)
  actual_means (Actual-F.ByValue e ty) = actual_rolled (Actual-F.ByValue (e, expr_means e) ty)
  actual_means (Actual-F.Part n ty) = actual_rolled (Actual-F.Part (n, name_starts n) ty)
  actual_means (Actual-F.Copied n ty begins) = actual_rolled (Actual-F.Copied (n, name_starts n) ty begins)

  pub actuals_mean : (xs : List Actual) → actuals_run (map actual_code xs) k.records ≡ true → A.EachPasses ask k code setting call default bound w0 (map actual_code xs) (map supply xs)
  actuals_mean [] h = tt
  actuals_mean (x ∷ xs) h = let g = both_true _ _ h in (subst IsActual (roll-out-Actual x) (actual_means (out-Actual x)) g.0, actuals_mean xs g.1)
