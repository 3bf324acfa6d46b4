-- The first line of a value's code stands over what stands there, where a default is evaluated: so it says how many masters are around the type
-- that the default belongs to (3.8).
use Rattle.std.proofs.Common.{◌≡◌, ℕ, List, [], ◌∷◌, ◌++◌, length, map, Option, Some, None, Bool, true, false, refl, sym, ap, subst}
use Rattle.ctl_program.specs.declared.types.RecordType.{RecordType}
use Rattle.ctl_program.specs.declared.types.Ty.{Ty}
use Rattle.ctl_program.specs.declared.types.Ty.TheVariants.{Integer, Count, Boolean, Address, Handle, Access, Record}
use Rattle.ctl_program.specs.declared.types.Var.{Var}
use Rattle.ctl_program.specs.declared.operators.UnaryOp.{UnaryOp}
use Rattle.ctl_program.specs.declared.operators.UnaryOp.TheVariants.{Plus}
use Rattle.ctl_program.specs.declared.operators.Shortcut.{Shortcut}
use Rattle.ctl_program.specs.declared.operators.CopyStart.{CopyStart}
use Rattle.ctl_program.specs.declared.operators.CopyStart.TheVariants as CopyStartOf
use Rattle.ctl_program.specs.declared.expression.Expr.{Expr, roll-Expr, map-Expr, ind-Expr}
use Rattle.ctl_program.specs.declared.expression.Name.{Name, roll-Name, map-Name}
use Rattle.ctl_program.specs.declared.expression.Actual.{Actual, roll-Actual, map-Actual}
use Rattle.ctl_program.specs.declared.expression.Actual.TheOpen.{Actual-F, Expr-F, Name-F}
use Rattle.ctl_program.specs.declared.expression.Operand.{Operand}
use Rattle.ctl_program.specs.declared.expression.Step.{Step}
use Rattle.ctl_code.specs.declared.code.Cell.{Cell}
use Rattle.ctl_code.specs.declared.code.Code.{Code}
use Rattle.ctl_code.specs.declared.code.Instr.{Instr}
use Rattle.ctl_code.specs.declared.code.Instr.TheVariants as InstrOf
use Rattle.ctl_code.specs.declared.kinds.Kind.{Kind}
use Rattle.ctl_code.specs.declared.kinds.Kind.TheVariants as KindOf
use Rattle.ctl_code.specs.Valid.{kinds_at}
use Rattle.ctl_code.specs.Windows.{depth, height}
use Rattle.ctl_layout.specs.Around.{Line, local_at, new_operand, out_to, read_from}
use Rattle.ctl_layout.specs.declared.right.Right.{Right}
use Rattle.ctl_layout.specs.declared.right.Right.TheVariants as RightOf
use Rattle.ctl_layout.specs.Parts.{Start, OfRecord, OfValue, OfVariable, Reached, Object, Part, Result, Variable, access_value, any_type, behind_steps, component_code, first_position, found, located_code, part_code, selects_code}
use Rattle.ctl_program.specs.Library.{block_pool}
use Rattle.ctl_layout.specs.Values.{ActualCode, OperatorCode, ValueCode, actual_code, actual_step, actuals_code, applied, by_copy, by_reference, by_value, call_reached, chain, convert, copied, discriminant, discriminant_at, evaluates_code, first_type, function_call, given, given_by, held, held_by, in_cell, is_of, keeping_code, left_held, missing_value, moved_to, name_step, new, new_copy, new_given, operator_of, operators_code, others_code, reached_by, reached_if, read, record_call_code, record_runs, result_of, short, value_code, value_step, value_type, with_actuals}
use Rattle.ctl_layout.specs.Layout.{evaluation}
use Rattle.ctl_layout.proofs.TreeLayers.{actual_roll, reached_roll, value_roll}
use Rattle.ctl_gen.proofs.Entered.{IsEntered, entered_there}
use Rattle.ctl_gen.proofs.Place.{Laid}
use Rattle.ctl_emitter.proofs.Walked.{behind_is, start_of}

-- so many masters stand around there, of which the body has entered none
abbrev pub IsOver : ℕ → List Kind → Type 0
IsOver level s = (depth s ≡ level) × (IsEntered s → ⊥)

-- no variable has a cell there
pub no_cell : (level : ℕ) (s : List Kind) (v : Var) (at : ℕ) → IsOver level s → local_at s v ≡ Some at → ⊥
no_cell level s v at over is = over.1 (entered_there s (out_to s v) v.slot at is)

-- the first of these lines stands over this
abbrev pub Begins : List Kind → List Line → Type 0
Begins s lines = (i : Instr) × (rest : List Line) × (lines ≡ (i, s) ∷ rest)

first_of : (i : Instr) (s : List Kind) (rest : List Line) → Begins s ((i, s) ∷ rest)
first_of i s rest = (i, rest, refl)

before : (s : List Kind) (xs ys : List Line) → Begins s xs → Begins s (xs ++ ys)
before s xs ys h = (h.0, h.1 ++ ys, ap (λ zs. zs ++ ys) h.2)

pub kinds_there : (code : Code) (s : List Kind) (lines : List Line) (place : ℕ) → Begins s lines → Laid code place lines → kinds_at code place ≡ Some s
kinds_there code s lines place h laid = (subst (Laid code place) h.2 laid).1

-- what is copied of a value is what that is read from, or is
pub copied_reached : (t : ℕ) (x : ValueCode) (y : Reached) → copied t x ≡ Some y → x.reached ≡ Some y
copied_reached t x y = by (is_of t x.own)
  where
    by : (b : Bool) → reached_if x.reached b ≡ Some y → x.reached ≡ Some y
    by true h = h
    by false h = absurd (cc h)

pub result_is : (o : Option Reached) (y : Reached) → result_of o ≡ Some y → o ≡ Some y
result_is (Some (Result (OfRecord t runs lines))) y is = is
result_is (Some (Result (OfVariable v))) y is = absurd (cc is)
result_is (Some (Result (OfValue runs lines))) y is = absurd (cc is)
result_is (Some (Variable v)) y is = absurd (cc is)
result_is (Some (Part b steps t position)) y is = absurd (cc is)
result_is (Some (Object b steps)) y is = absurd (cc is)
result_is None y is = absurd (cc is)

module _ (level : ℕ) where
  -- Names ----------------------------------------------------------------------------------------------

  -- so it is with the value that a name begins with, if it begins with one
  abbrev StartFirst : Start → Type 0
  StartFirst (OfVariable v) = Unit {0}
  StartFirst (OfValue runs lines) = (s : List Kind) → IsOver level s → Begins s (lines s)
  StartFirst (OfRecord t runs lines) = (s : List Kind) → IsOver level s → Begins s (lines s)

  abbrev NameFirst : Option Reached → Type 0
  NameFirst o = (x : Reached) → o ≡ Some x → StartFirst (start_of x)

  located_first : (b : Start) (steps : List Step) (t : ℕ) (s : List Kind) → StartFirst b → IsOver level s → Begins s (located_code b steps t s)
  located_first (OfVariable v) steps t s h over = first_of (found v steps t s) s (selects_code steps t s)
  located_first (OfValue runs lines) steps t s h over = before s (lines s) (selects_code steps t s) (h s over)
  located_first (OfRecord u runs lines) steps t s h over = before s (lines s) (selects_code steps t s) (h s over)

  part_first : (x : Reached) (t : ℕ) (s : List Kind) → StartFirst (start_of x) → IsOver level s → Begins s (part_code x t s)
  part_first (Variable v) t s h over = located_first (OfVariable v) [] t s h over
  part_first (Part b steps u position) t s h over = before s (located_code b steps u s) ((InstrOf.Select u position t, KindOf.Operand (Record u) ∷ s) ∷ []) (located_first b steps u s h over)
  part_first (Object b steps) t s h over = located_first b steps t s h over
  part_first (Result b) t s h over = located_first b [] t s h over

  component_first : (b : Start) (steps : List Step) (t position : ℕ) (ty : Ty) (to : Cell) (s : List Kind) → StartFirst b → IsOver level s → Begins s (component_code b steps t position ty to s)
  component_first (OfVariable v) [] t position ty to s h over = first_of (InstrOf.FetchPart v t position ty to) s []
  component_first (OfVariable v) (x ∷ steps) t position ty to s h over = before s (located_code (OfVariable v) (x ∷ steps) t s) ((InstrOf.TakePart t position ty to, KindOf.Operand (Record t) ∷ s) ∷ []) (located_first (OfVariable v) (x ∷ steps) t s h over)
  component_first (OfValue runs lines) steps t position ty to s h over = before s (located_code (OfValue runs lines) steps t s) ((InstrOf.TakePart t position ty to, KindOf.Operand (Record t) ∷ s) ∷ []) (located_first (OfValue runs lines) steps t s h over)
  component_first (OfRecord u runs lines) steps t position ty to s h over = before s (located_code (OfRecord u runs lines) steps t s) ((InstrOf.TakePart t position ty to, KindOf.Operand (Record t) ∷ s) ∷ []) (located_first (OfRecord u runs lines) steps t s h over)

  -- Values and actuals -------------------------------------------------------------------------------------

  record HasFirst (x : ValueCode) : Type 0 where
    value : (to : Cell) (ty : Ty) (s : List Kind) → IsOver level s → Begins s (x.code to ty s)
    begun : NameFirst x.reached

  abbrev ActualFirst : ActualCode → Type 0
  ActualFirst x = (n : ℕ) (s : List Kind) → IsOver level s → Begins s (x.code n s)

  missing_first : (own : Option Ty) → HasFirst (missing_value own)
  missing_first own = record { value = λ to ty s over. first_of InstrOf.Missing s []; begun = λ y is. absurd (cc is) }

  held_first : (r : Right) (x : ValueCode) → HasFirst x → (ty : Ty) (s : List Kind) → IsOver level s → Begins s (held_by r x ty s).code
  held_first (RightOf.Constant n) x h ty s over = h.value (new_operand s) ty s over
  held_first RightOf.Evaluated x h ty s over = h.value (new_operand s) ty s over
  held_first (RightOf.Variable v) x h ty s over = by (local_at s v) refl
    where
      by : (o : Option ℕ) → local_at s v ≡ o → Begins s (in_cell o v x ty s).code
      by (Some at) is = absurd (no_cell level s v at over is)
      by None is = h.value (new_operand s) ty s over

  left_first : (r : Right) (x : ValueCode) → HasFirst x → (ty : Ty) (s : List Kind) → IsOver level s → Begins s (left_held r x ty s).code
  left_first (RightOf.Constant n) x h ty s over = held_first x.right x h ty s over
  left_first (RightOf.Variable v) x h ty s over = held_first x.right x h ty s over
  left_first RightOf.Evaluated x h ty s over = h.value (new_operand s) ty s over

  abbrev AllFirst : List ActualCode → Type 0
  AllFirst [] = Unit {0}
  AllFirst (x ∷ xs) = ActualFirst x × AllFirst xs

  -- the first line of the actuals, or of the call
  call_first : (xs : List ActualCode) → AllFirst xs → (i : Instr) (s : List Kind) → IsOver level s → Begins s (actuals_code 0 xs s ++ (i, with_actuals xs s) ∷ [])
  call_first [] h i s over = first_of i s []
  call_first (x ∷ xs) h i s over =
      let back = actuals_code _ xs (KindOf.Operand x.ty ∷ s) in
      before s (x.code 0 s ++ back) ((i, with_actuals (x ∷ xs) s) ∷ []) (before s (x.code 0 s) back (h.0 0 s over))

  result_first : (f : ℕ) (xs : List ActualCode) (ty : Ty) → AllFirst xs → NameFirst (call_reached f xs ty)
  result_first f xs (Record t) h y is =
      let same : Result (OfRecord t (record_runs xs t) (record_call_code f xs t)) ≡ y = cc is in
      subst (λ z. StartFirst (start_of z)) same (λ s over. call_first xs h (InstrOf.EvaluateRecord f (length xs) t (height s)) s over)
  result_first f xs Integer h y is = absurd (cc is)
  result_first f xs Count h y is = absurd (cc is)
  result_first f xs Boolean h y is = absurd (cc is)
  result_first f xs Address h y is = absurd (cc is)
  result_first f xs Handle h y is = absurd (cc is)
  result_first f xs (Access a) h y is = absurd (cc is)

  call_has : (f : ℕ) (xs : List ActualCode) (ty : Ty) → AllFirst xs → HasFirst (function_call f xs ty)
  call_has f xs ty h = record {
    value = λ to u s over. before s (evaluates_code f xs u s) (moved_to to u s) (call_first xs h (InstrOf.Evaluate f (length xs) u (height s)) s over);
    begun = result_first f xs ty h;
  }

  read_has : (o : Option Reached) (ty : Ty) → NameFirst o → HasFirst (read o ty)
  read_has None ty h = missing_first (Some ty)
  read_has (Some (Result b)) ty h = missing_first (Some ty)
  read_has (Some (Variable v)) ty h = record { value = λ to u s over. first_of (read_from (local_at s v) v u to s) s []; begun = h }
  read_has (Some (Part b steps t position)) ty h = record { value = λ to u s over. component_first b steps t position u to s (h (Part b steps t position) refl) over; begun = h }
  read_has (Some (Object b steps)) ty h = record { value = λ to u s over. component_first b steps any_type first_position u to s (h (Object b steps) refl) over; begun = h }

  discriminant_has : (o : Option Reached) (n : ℕ) → NameFirst o → HasFirst (discriminant o n)
  discriminant_has None n h = record { value = λ to u s over. first_of InstrOf.Missing s []; begun = λ y is. absurd (cc is) }
  discriminant_has (Some x) n h = record {
    value = λ to u s over. before s (part_code x block_pool s) ((InstrOf.TakeDiscriminant block_pool (discriminant_at n) to, KindOf.Operand (Record block_pool) ∷ s) ∷ []) (part_first x block_pool s (h x refl) over);
    begun = λ y is. absurd (cc is);
  }

  applied_has : (runs : List RecordType → Bool) (op : UnaryOp) (operand ty : Ty) (x : ValueCode) → HasFirst x → HasFirst (applied runs op operand ty x)
  applied_has runs op operand ty x h = record {
    value = λ to u s over.
        let y = held x operand s in
        before s y.code ((InstrOf.Unary op operand ty y.cell to, y.after) ∷ []) (held_first x.right x h operand s over);
    begun = λ y is. absurd (cc is);
  }

  chain_has : (x : ValueCode) → HasFirst x → (o : OperatorCode) (os : List OperatorCode) → HasFirst (chain x o os)
  chain_has x h o os = record {
    value = λ to u s over.
        let ty = first_type x o in
        let y = left_held o.right.right x ty s in
        before s y.code (operators_code s y.cell y.after ty (o ∷ os) to) (left_first o.right.right x h ty s over);
    begun = λ y is. absurd (cc is);
  }

  short_has : (form : Shortcut) (x y : ValueCode) (more : List ValueCode) → HasFirst x → HasFirst (short form x y more)
  short_has form x y more h = record {
    value = λ to u s over.
        let front = x.code (new_operand s) Boolean s in
        let back = others_code form (y ∷ more) s in
        before s (front ++ back) (moved_to to Boolean s) (before s front back (h.value (new_operand s) Boolean s over));
    begun = λ z is. absurd (cc is);
  }

  copy_has : (access t : ℕ) (o : Option Reached) → HasFirst (new_copy access t o)
  copy_has access t None = missing_first (Some (Access access))
  copy_has access t (Some o) = record { value = λ to u s over. (InstrOf.Skip 0, _, refl); begun = λ y is. absurd (cc is) }

  given_has : (access : ℕ) (of : Ty) (x : ValueCode) → HasFirst (new_given access of x)
  given_has access of x = record { value = λ to u s over. (InstrOf.Skip 0, _, refl); begun = λ y is. absurd (cc is) }

  new_has : (access : ℕ) (of : Ty) (handle value : Option ValueCode) → HasFirst (new access of handle value)
  new_has access of None None = record { value = λ to u s over. (InstrOf.Skip 0, _, refl); begun = λ y is. absurd (cc is) }
  new_has access (Record t) None (Some x) = copy_has access t (copied t x)
  new_has access Integer None (Some x) = given_has access Integer x
  new_has access Count None (Some x) = given_has access Count x
  new_has access Boolean None (Some x) = given_has access Boolean x
  new_has access Address None (Some x) = given_has access Address x
  new_has access Handle None (Some x) = given_has access Handle x
  new_has access (Access a) None (Some x) = given_has access (Access a) x
  new_has access (Record t) (Some y) value = missing_first (Some (Access access))
  new_has access Integer (Some y) value = missing_first (Some (Access access))
  new_has access Count (Some y) value = missing_first (Some (Access access))
  new_has access Boolean (Some y) value = missing_first (Some (Access access))
  new_has access Address (Some y) value = missing_first (Some (Access access))
  new_has access Handle (Some y) value = missing_first (Some (Access access))
  new_has access (Access a) (Some y) value = missing_first (Some (Access access))

  reference_has : (o : Option Reached) (ty : Ty) → NameFirst o → ActualFirst (by_reference o ty)
  reference_has (Some x) (Record t) h n s over = part_first x t s (h x refl) over
  reference_has None ty h n s over = first_of InstrOf.Missing s []
  reference_has (Some x) Integer h n s over = first_of InstrOf.Missing s []
  reference_has (Some x) Count h n s over = first_of InstrOf.Missing s []
  reference_has (Some x) Boolean h n s over = first_of InstrOf.Missing s []
  reference_has (Some x) Address h n s over = first_of InstrOf.Missing s []
  reference_has (Some x) Handle h n s over = first_of InstrOf.Missing s []
  reference_has (Some x) (Access a) h n s over = first_of InstrOf.Missing s []

  actual_has : (x : ValueCode) (ty : Ty) → HasFirst x → ActualFirst (by_value x ty)
  actual_has x (Record t) h n s over = reference_has (result_of (copied t x)) (Record t) (λ y is. h.begun y (copied_reached t x y (result_is (copied t x) y is))) n s over
  actual_has x Integer h n s over = h.value (new_operand s) Integer s over
  actual_has x Count h n s over = h.value (new_operand s) Count s over
  actual_has x Boolean h n s over = h.value (new_operand s) Boolean s over
  actual_has x Address h n s over = h.value (new_operand s) Address s over
  actual_has x Handle h n s over = h.value (new_operand s) Handle s over
  actual_has x (Access a) h n s over = h.value (new_operand s) (Access a) s over

  copied_has : (o : Option Reached) (ty : Ty) (begins : CopyStart) → NameFirst o → ActualFirst (by_copy o ty begins)
  copied_has None ty begins h n s over = first_of InstrOf.Missing s []
  copied_has (Some (Result b)) ty begins h n s over = first_of InstrOf.Missing s []
  copied_has (Some (Variable v)) ty CopyStartOf.Actual h n s over = first_of (read_from (local_at s v) v ty (new_operand s) s) s []
  copied_has (Some (Variable v)) ty CopyStartOf.Beginning h n s over = first_of (InstrOf.Set 0 ty (new_operand s)) s []
  copied_has (Some (Part b steps t position)) ty begins h n s over = before s (located_code b steps t s) (keeping_code t position begins ty n s) (located_first b steps t s (h (Part b steps t position) refl) over)
  copied_has (Some (Object b steps)) ty begins h n s over = before s (located_code b steps any_type s) (keeping_code any_type first_position begins ty n s) (located_first b steps any_type s (h (Object b steps) refl) over)

  -- what a name begins with that is no variable
  given_first : (x : ValueCode) → HasFirst x → StartFirst (given x)
  given_first x h = by x.reached refl
    where
      access : StartFirst (OfValue x.runs (λ s. x.code (new_operand s) access_value s))
      access s over = h.value (new_operand s) access_value s over

      by : (o : Option Reached) → x.reached ≡ o → StartFirst (given_by o x)
      by None is = access
      by (Some (Variable v)) is = access
      by (Some (Part b steps t position)) is = access
      by (Some (Object b steps)) is = access
      by (Some (Result (OfVariable v))) is = access
      by (Some (Result (OfValue runs lines))) is = access
      by (Some (Result (OfRecord t runs lines))) is = h.begun (Result (OfRecord t runs lines)) is

  name_has : (b : Start) (steps : List Step) → StartFirst b → NameFirst (behind_steps b steps)
  name_has b steps h x is = subst StartFirst (behind_is b steps x is).start h

  -- Whole trees --------------------------------------------------------------------------------------------

  abbrev ExprToo : Type 0
  ExprToo = (e : Expr) × HasFirst (value_code e)

  abbrev ActualToo : Type 0
  ActualToo = (a : Actual) × ActualFirst (actual_code a)

  abbrev NameToo : Type 0
  NameToo = (n : Name) × NameFirst (reached_by n)

  abbrev OperandToo : Type 0
  OperandToo = Operand × Unit {0}

  abbrev bare_expr : Expr-F ActualToo ExprToo NameToo OperandToo → Expr-F Actual Expr Name Operand
  bare_expr = map-Expr ActualToo ExprToo NameToo OperandToo Actual Expr Name Operand (λ e. e.0) (λ e. e.0) (λ e. e.0) (λ e. e.0)

  abbrev bare_actual : Actual-F ActualToo ExprToo NameToo OperandToo → Actual-F Actual Expr Name Operand
  bare_actual = map-Actual ActualToo ExprToo NameToo OperandToo Actual Expr Name Operand (λ e. e.0) (λ e. e.0) (λ e. e.0) (λ e. e.0)

  abbrev bare_name : Name-F ActualToo ExprToo NameToo OperandToo → Name-F Actual Expr Name Operand
  bare_name = map-Name ActualToo ExprToo NameToo OperandToo Actual Expr Name Operand (λ e. e.0) (λ e. e.0) (λ e. e.0) (λ e. e.0)

  actuals_too : (xs : List ActualToo) → AllFirst (map actual_code (map (λ x. x.0) xs))
  actuals_too [] = tt
  actuals_too (x ∷ xs) = (x.1, actuals_too xs)

  abbrev value_layer : Expr-F Actual Expr Name Operand → ValueCode
  value_layer y = value_step (map-Expr Actual Expr Name Operand ActualCode ValueCode (Option Reached) OperatorCode actual_code value_code reached_by operator_of y)

  expr_layer : (y : Expr-F ActualToo ExprToo NameToo OperandToo) → HasFirst (value_layer (bare_expr y))
  expr_layer (Expr-F.Constant n) = record { value = λ to u s over. first_of (InstrOf.Set n u to) s []; begun = λ y is. absurd (cc is) }
  expr_layer (Expr-F.Read n ty) = read_has (reached_by n.0) ty n.1
  expr_layer (Expr-F.Unary op ty e) = applied_has (value_code e.0).runs op ty ty (value_code e.0) e.1
  expr_layer (Expr-F.Chain e o os) = chain_has (value_code e.0) e.1 (operator_of o.0) (map operator_of (map (λ z. z.0) os))
  expr_layer (Expr-F.Short form e f es) = short_has form (value_code e.0) (value_code f.0) (map value_code (map (λ z. z.0) es)) e.1
  expr_layer (Expr-F.Call f xs ty) = call_has f (map actual_code (map (λ z. z.0) xs)) ty (actuals_too xs)
  expr_layer (Expr-F.Convert ty e) = applied_has (convert ty (value_code e.0)).runs Plus (value_type (value_code e.0)) ty (value_code e.0) e.1
  expr_layer (Expr-F.Access v) = record { value = λ to u s over. first_of (InstrOf.Designate v u to) s []; begun = λ y is. absurd (cc is) }
  expr_layer (Expr-F.New access ty None None) = new_has access ty None None
  expr_layer (Expr-F.New access ty None (Some v)) = new_has access ty None (Some (value_code v.0))
  expr_layer (Expr-F.New access ty (Some h) None) = new_has access ty (Some (value_code h.0)) None
  expr_layer (Expr-F.New access ty (Some h) (Some v)) = new_has access ty (Some (value_code h.0)) (Some (value_code v.0))
  expr_layer (Expr-F.Subpool which n) = missing_first None
  expr_layer (Expr-F.Discriminant n i) = discriminant_has (reached_by n.0) i n.1

  actual_layer : (y : Actual-F ActualToo ExprToo NameToo OperandToo) → ActualFirst (actual_step (map-Actual Actual Expr Name Operand ActualCode ValueCode (Option Reached) OperatorCode actual_code value_code reached_by operator_of (bare_actual y)))
  actual_layer (Actual-F.ByValue e ty) = actual_has (value_code e.0) ty e.1
  actual_layer (Actual-F.Part n ty) = reference_has (reached_by n.0) ty n.1
  actual_layer (Actual-F.Copied n ty begins) = copied_has (reached_by n.0) ty begins n.1

  name_layer : (y : Name-F ActualToo ExprToo NameToo OperandToo) → NameFirst (name_step (map-Name Actual Expr Name Operand ActualCode ValueCode (Option Reached) OperatorCode actual_code value_code reached_by operator_of (bare_name y)))
  name_layer (Name-F.Variable v ss) = name_has (OfVariable v) ss tt
  name_layer (Name-F.Given e ss) = name_has (given (value_code e.0)) ss (given_first (value_code e.0) e.1)

  value_first : (e : Expr) → HasFirst (value_code e)
  value_first = ind-Expr (λ a. ActualFirst (actual_code a)) (λ e. HasFirst (value_code e)) (λ n. NameFirst (reached_by n)) (λ o. Unit {0})
      (λ x y is. subst (λ z. ActualFirst (actual_code (roll-Actual z))) is (subst ActualFirst (sym (actual_roll (bare_actual y))) (actual_layer y)))
      (λ x y is. subst (λ z. HasFirst (value_code (roll-Expr z))) is (subst HasFirst (sym (value_roll (bare_expr y))) (expr_layer y)))
      (λ x y is. subst (λ z. NameFirst (reached_by (roll-Name z))) is (subst NameFirst (sym (reached_roll (bare_name y))) (name_layer y)))
      (λ x y is. tt)

  -- the code of a default says how many masters stand around its type
  pub evaluation_first : (number : ℕ) (x : Expr) (ty : Ty) → Begins (KindOf.Default level number ∷ []) (evaluation level number (value_code x) ty)
  evaluation_first number x ty =
      let s = KindOf.Default level number ∷ [] in
      let h = held (value_code x) ty s in
      before s h.code ((InstrOf.Return h.cell ty, h.after) ∷ []) (held_first (value_code x).right (value_code x) (value_first x) ty s (refl, λ bad. bad))
