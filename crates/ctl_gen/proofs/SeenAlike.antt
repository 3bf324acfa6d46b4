-- What an expression names stands in its code: so one whose code is well formed where a default is evaluated means the same in any two
-- displays with the masters around there (3.8, 4.8), whose subprograms, collections and pools see no more of them.
use Rattle.std.proofs.Common.{◌≡◌, ℕ, ◌+◌, ◌≤◌, List, [], ◌∷◌, ◌++◌, length, map, Option, Some, None, Bool, true, false, refl, sym, ap, subst, arith}
use Rattle.std.specs.Prelude.{slice_get, ◌||◌, is_some}
use Rattle.std.proofs.lemmas.Bool.{not-true}
use Rattle.ctl_program.specs.declared.types.RecordType.{RecordType}
use Rattle.ctl_program.specs.declared.types.Ty.{Ty}
use Rattle.ctl_program.specs.declared.types.Ty.TheVariants.{Integer, Count, Boolean, Address, Handle, Access, Record}
use Rattle.ctl_program.specs.declared.types.Var.{Var}
use Rattle.ctl_program.specs.declared.operators.UnaryOp.{UnaryOp}
use Rattle.ctl_program.specs.declared.operators.UnaryOp.TheVariants.{Plus}
use Rattle.ctl_program.specs.declared.operators.Shortcut.{Shortcut}
use Rattle.ctl_program.specs.declared.operators.CopyStart.{CopyStart}
use Rattle.ctl_program.specs.declared.expression.Expr.{Expr, roll-Expr, map-Expr, ind-Expr}
use Rattle.ctl_program.specs.declared.expression.Name.{Name, roll-Name, map-Name}
use Rattle.ctl_program.specs.declared.expression.Actual.{Actual, roll-Actual, map-Actual}
use Rattle.ctl_program.specs.declared.expression.Actual.TheOpen.{Actual-F, Expr-F, Name-F}
use Rattle.ctl_program.specs.declared.expression.Operand.{Operand, Operand-F, roll-Operand, map-Operand}
use Rattle.ctl_program.specs.declared.expression.Step.{Step}
use Rattle.ctl_program.specs.declared.expression.Step.TheVariants.{Component, Dereference, Narrow}
use Rattle.ctl_meaning.specs.World.{Slot}
use Rattle.ctl_meaning.specs.Activations.{master_of}
use Rattle.ctl_meaning.specs.Changes.{slot_at}
use Rattle.ctl_meaning.specs.Marks.{discriminant as discriminant_meant}
use Rattle.ctl_meaning.specs.Numbers.{binary, converted, unary as unary_meant}
use Rattle.ctl_meaning.specs.Outcome.{Act, ◌>>=◌, ◌>>◌, done, either, look, spend, ticked}
use Rattle.ctl_meaning.specs.Types.{Category, Composite, Elementary, category_of, cells_of}
use Rattle.ctl_meaning.specs.Names.{Alone, Found, InVariable, OfAllocator, OfSubprogram, Returned, Tools, begins_as, find_var, found_in, object_of, or_constraint_error, read_found, scalar_of, walk}
use Rattle.ctl_meaning.specs.Expressions.{Applied, Naming, Passed, Supplied, Valued, actual_step as actual_meant, apply, apply_each, call_with, copy_back, decides, eval, eval_name, eval_step, join_each, name_step as name_meant, no_actuals, opened_expressions, operand_step as operand_meant, pass_each, supply, var_part, with_formal}
use Rattle.ctl_meaning.proofs.Trees.{actual_roll as supply_roll, eval_roll, name_roll, operand_roll}
use Rattle.ctl_code.specs.declared.code.AccessHome.{AccessHome}
use Rattle.ctl_code.specs.declared.code.Cell.{Cell}
use Rattle.ctl_code.specs.declared.code.Code.{Code}
use Rattle.ctl_code.specs.declared.code.Instr.TheVariants as InstrOf
use Rattle.ctl_code.specs.declared.kinds.Kind.{Kind}
use Rattle.ctl_code.specs.declared.kinds.Kind.TheVariants as KindOf
use Rattle.ctl_code.specs.Valid.{HasCollection, HasVariable, IsFine, IsInScope, IsValid, MayHaveVariable, kinds_at}
use Rattle.ctl_code.specs.Windows.{depth, height}
use Rattle.ctl_layout.specs.Around.{Line, local_at, new_operand, read_from}
use Rattle.ctl_layout.specs.declared.right.Right.{Right}
use Rattle.ctl_layout.specs.declared.right.Right.TheVariants as RightOf
use Rattle.ctl_layout.specs.Parts.{Start, OfRecord, OfValue, OfVariable, Reached, Object, Part, Result, Variable, access_value, any_type, behind_steps, component_code, first_position, found, is_begun, located_code, part_code, selects_code}
use Rattle.ctl_program.specs.Library.{block_pool}
use Rattle.ctl_layout.specs.Values.{ActualCode, OperatorCode, ValueCode, actual_code, actual_step, actuals_code, actuals_run, allocator_code, applied, by_copy, by_reference, by_value, call_reached, chain, constant, convert, copied, designating, discriminant, discriminant_at, evaluates_code, first_type, function_call, given, given_by, given_code, goes_back, held, held_by, in_cell, left_held, missing, missing_value, moved_to, name_step, new, new_copy, new_copy_code, new_given, operator_by, operator_code, operator_for, operator_of, operators_code, operators_run, other_code, others_code, reached_by, read, record_call_code, record_runs, result_of, short, value_code, value_step, value_type, values_run, with_actuals}
use Rattle.ctl_layout.specs.Layout.{evaluation}
use Rattle.ctl_layout.specs.Records.{is_run_type}
use Rattle.ctl_layout.proofs.TreeLayers.{actual_roll, operator_roll, reached_roll, value_roll}
use Rattle.ctl_gen.proofs.FirstLines.{IsOver, copied_reached, no_cell, result_is}
use Rattle.ctl_gen.proofs.Known.{both_true}
use Rattle.ctl_gen.proofs.Place.{Laid, laid_back, laid_front}
use Rattle.ctl_emitter.proofs.Walked.{behind_is, part_begun, start_of}

-- Where a default is evaluated -------------------------------------------------------------------------

-- a variable of one of so many masters
abbrev pub StandsIn : ℕ → Var → Type 0
StandsIn level v = (1 ≤ v.level) × (v.level ≤ level)

abbrev pub MayStandIn : ℕ → Option Var → Type 0
MayStandIn level None = Unit {0}
MayStandIn level (Some v) = StandsIn level v

-- an access type whose collection and whose pool stand there
abbrev pub HasHomes : Code → ℕ → ℕ → Type 0
HasHomes code level access = (a : AccessHome) × (slice_get code.accesses.items access ≡ Some a) × StandsIn level a.collection × MayStandIn level a.pool

-- what is not true of either
neither : (a b : Bool) → (a || b) ≡ false → (a ≡ false) × (b ≡ false)
neither true b h = absurd (cc h)
neither false b h = (refl, h)

none_back : {A : Type 0} (o : Option A) → is_some o ≡ false → o ≡ None
none_back None h = refl
none_back (Some x) h = absurd (cc h)

module _ (records : List RecordType) (code : Code) (valid : IsValid code) (K : Tools) (level : ℕ) (d e' : List ℕ)
    (masters : (v : Var) → StandsIn level v → master_of d v ≡ master_of e' v)
    (calls : (f : ℕ) → IsInScope code level (Some f) → (x : List Slot) → K.call (OfSubprogram f x) d ≡ K.call (OfSubprogram f x) e')
    (allocates : (access : ℕ) → HasHomes code level access → (ty : Ty) (h v : Option (List ℕ)) → K.call (OfAllocator access ty h v) d ≡ K.call (OfAllocator access ty h v) e') where
  -- Instructions that name something -----------------------------------------------------------------

  abbrev IsNear : Var → Type 0
  IsNear v = master_of d v ≡ master_of e' v

  stands : (s : List Kind) (v : Var) → IsOver level s → HasVariable code.homes s v → StandsIn level v
  stands s v over h = let deep = over.0 in let least = h.0 in let most = h.1 in (least, omega (arith, deep, most))

  may_stand : (s : List Kind) (o : Option Var) → IsOver level s → MayHaveVariable code.homes s o → MayStandIn level o
  may_stand s None over h = tt
  may_stand s (Some v) over h = stands s v over h

  near : (s : List Kind) (v : Var) → IsOver level s → HasVariable code.homes s v → IsNear v
  near s v over h = masters v (stands s v over h)

  has_homes : (s : List Kind) (access : ℕ) → IsOver level s → HasCollection code s access → HasHomes code level access
  has_homes s access over h = (h.0, h.1, stands s h.0.collection over h.2, may_stand s h.0.pool over h.3)

  in_scope : (s : List Kind) (f : ℕ) → IsOver level s → IsInScope code (depth s) (Some f) → IsInScope code level (Some f)
  in_scope s f over h = subst (λ n. IsInScope code n (Some f)) over.0 h

  never : (s : List Kind) (place : ℕ) → Laid code place (missing s) → ⊥
  never s place laid = valid.each place InstrOf.Missing s laid.0 laid.1

  read_near : (o : Option ℕ) (v : Var) (ty : Ty) (to : Cell) (s : List Kind) (place : ℕ) → local_at s v ≡ o → IsOver level s → slice_get code.instructions.items place ≡ Some (read_from o v ty to s) → kinds_at code place ≡ Some s → IsNear v
  read_near (Some at) v ty to s place is over here standing = absurd (no_cell level s v at over is)
  read_near None v ty to s place is over here standing =
      let fine : IsFine code place (InstrOf.Fetch v ty to) s = valid.each place (InstrOf.Fetch v ty to) s here standing in
      near s v over fine.2

  locate_near : (v : Var) (t : ℕ) (s : List Kind) (place : ℕ) → IsOver level s → slice_get code.instructions.items place ≡ Some (InstrOf.Locate v t (height s)) → kinds_at code place ≡ Some s → IsNear v
  locate_near v t s place over here standing =
      let fine : IsFine code place (InstrOf.Locate v t (height s)) s = valid.each place (InstrOf.Locate v t (height s)) s here standing in
      near s v over fine.2

  found_near : (v : Var) (steps : List Step) (t : ℕ) (s : List Kind) (place : ℕ) → IsOver level s → slice_get code.instructions.items place ≡ Some (found v steps t s) → kinds_at code place ≡ Some s → IsNear v
  found_near v [] t s place over here standing = locate_near v t s place over here standing
  found_near v (Component u i ∷ steps) t s place over here standing = locate_near v u s place over here standing
  found_near v (Dereference ∷ steps) t s place over here standing = read_near (local_at s v) v Integer (new_operand s) s place refl over here standing
  found_near v (Narrow u ∷ steps) t s place over here standing = locate_near v t s place over here standing

  -- Names ----------------------------------------------------------------------------------------------

  -- what follows of what a name begins with: where its master is the same, or where the lines of its value stand, which are run
  abbrev StartSeen : Start → Type 0 → Type 0
  StartSeen (OfVariable v) P = IsNear v → P
  StartSeen (OfValue runs lines) P = runs records ≡ true → (s : List Kind) (place : ℕ) → IsOver level s → Laid code place (lines s) → P
  StartSeen (OfRecord t runs lines) P = runs records ≡ true → (s : List Kind) (place : ℕ) → IsOver level s → Laid code place (lines s) → P

  start_then : {P Q : Type 0} (b : Start) → (P → Q) → StartSeen b P → StartSeen b Q
  start_then (OfVariable v) f h = λ n. f (h n)
  start_then (OfValue runs lines) f h = λ r s place over laid. f (h r s place over laid)
  start_then (OfRecord t runs lines) f h = λ r s place over laid. f (h r s place over laid)

  located_seen : (P : Type 0) (b : Start) (steps : List Step) (t : ℕ) (s : List Kind) (place : ℕ) → StartSeen b P → is_begun b records ≡ true → IsOver level s → Laid code place (located_code b steps t s) → P
  located_seen P (OfVariable v) steps t s place h runs over laid = h (found_near v steps t s place over laid.0 laid.1)
  located_seen P (OfValue lines_run lines) steps t s place h runs over laid = h runs s place over (laid_front code place (lines s) (selects_code steps t s) laid)
  located_seen P (OfRecord u lines_run lines) steps t s place h runs over laid = h runs s place over (laid_front code place (lines s) (selects_code steps t s) laid)

  part_seen : (P : Type 0) (x : Reached) (t : ℕ) (s : List Kind) (place : ℕ) → StartSeen (start_of x) P → is_begun (start_of x) records ≡ true → IsOver level s → Laid code place (part_code x t s) → P
  part_seen P (Variable v) t s place h runs over laid = located_seen P (OfVariable v) [] t s place h runs over laid
  part_seen P (Part b steps u position) t s place h runs over laid = located_seen P b steps u s place h runs over (laid_front code place (located_code b steps u s) ((InstrOf.Select u position t, KindOf.Operand (Record u) ∷ s) ∷ []) laid)
  part_seen P (Object b steps) t s place h runs over laid = located_seen P b steps t s place h runs over laid
  part_seen P (Result b) t s place h runs over laid = located_seen P b [] t s place h runs over laid

  component_seen : (P : Type 0) (b : Start) (steps : List Step) (t position : ℕ) (ty : Ty) (to : Cell) (s : List Kind) (place : ℕ) → StartSeen b P → is_begun b records ≡ true → IsOver level s → Laid code place (component_code b steps t position ty to s) → P
  component_seen P (OfVariable v) [] t position ty to s place h runs over laid =
      let fine : IsFine code place (InstrOf.FetchPart v t position ty to) s = valid.each place (InstrOf.FetchPart v t position ty to) s laid.0 laid.1 in
      h (near s v over fine.2)
  component_seen P (OfVariable v) (x ∷ steps) t position ty to s place h runs over laid = located_seen P (OfVariable v) (x ∷ steps) t s place h runs over (laid_front code place (located_code (OfVariable v) (x ∷ steps) t s) ((InstrOf.TakePart t position ty to, KindOf.Operand (Record t) ∷ s) ∷ []) laid)
  component_seen P (OfValue lines_run lines) steps t position ty to s place h runs over laid = located_seen P (OfValue lines_run lines) steps t s place h runs over (laid_front code place (located_code (OfValue lines_run lines) steps t s) ((InstrOf.TakePart t position ty to, KindOf.Operand (Record t) ∷ s) ∷ []) laid)
  component_seen P (OfRecord u lines_run lines) steps t position ty to s place h runs over laid = located_seen P (OfRecord u lines_run lines) steps t s place h runs over (laid_front code place (located_code (OfRecord u lines_run lines) steps t s) ((InstrOf.TakePart t position ty to, KindOf.Operand (Record t) ∷ s) ∷ []) laid)

  -- Values, operators and actuals ------------------------------------------------------------------------

  abbrev Alike : Valued → Type 0
  Alike m = m K d ≡ m K e'

  abbrev NameAlike : Naming → Type 0
  NameAlike m = (c : Category) → m c K d ≡ m c K e'

  abbrev OperandAlike : Applied → Type 0
  OperandAlike m = (v : List ℕ) → m K d v ≡ m K e' v

  abbrev SourceAlike : Supplied → Type 0
  SourceAlike m = m.source K d ≡ m.source K e'

  -- a value whose code is run and stands there means the same; so does a constant, one that is copied, and one that a name begins with
  record Seen (x : ValueCode) (m : Valued) : Type 0 where
    constant : (n : ℕ) → x.right ≡ RightOf.Constant n → Alike m
    laid : x.runs records ≡ true → (to : Cell) (ty : Ty) (s : List Kind) (place : ℕ) → IsOver level s → Laid code place (x.code to ty s) → Alike m
    begun : (y : Reached) → x.reached ≡ Some y → StartSeen (start_of y) (Alike m)

  -- an actual from which no copy goes back
  record ActualSeen (x : ActualCode) (m : Supplied) : Type 0 where
    laid : x.runs records ≡ true → x.back ≡ None → (over : ℕ) (s : List Kind) (place : ℕ) → IsOver level s → Laid code place (x.code over s) → SourceAlike m

  abbrev OperatorSeen : OperatorCode → Applied → Type 0
  OperatorSeen o m = o.right.runs records ≡ true → (left : Cell) (ty : Ty) (to : Cell) (s : List Kind) (place : ℕ) → IsOver level s → Laid code place (operator_code o left ty to s) → OperandAlike m

  abbrev NameSeen : Option Reached → Naming → Type 0
  NameSeen o m = (x : Reached) → o ≡ Some x → StartSeen (start_of x) (NameAlike m)

  -- what no instruction exists for
  missing_seen : (own : Option Ty) (m : Valued) → Seen (missing_value own) m
  missing_seen own m = record {
    constant = λ n is. absurd (cc is);
    laid = λ runs to ty s place over laid. absurd (never s place laid);
    begun = λ y is. absurd (cc is);
  }

  -- Operands -----------------------------------------------------------------------------------------

  held_laid : (r : Right) (x : ValueCode) (m : Valued) → Seen x m → x.runs records ≡ true → (ty : Ty) (s : List Kind) (place : ℕ) → IsOver level s → Laid code place (held_by r x ty s).code → Alike m
  held_laid (RightOf.Constant n) x m h runs ty s place over laid = h.laid runs (new_operand s) ty s place over laid
  held_laid RightOf.Evaluated x m h runs ty s place over laid = h.laid runs (new_operand s) ty s place over laid
  held_laid (RightOf.Variable v) x m h runs ty s place over laid = by (local_at s v) refl laid
    where
      by : (o : Option ℕ) → local_at s v ≡ o → Laid code place (in_cell o v x ty s).code → Alike m
      by (Some at) is laid1 = absurd (no_cell level s v at over is)
      by None is laid1 = h.laid runs (new_operand s) ty s place over laid1

  held_over : (r : Right) (x : ValueCode) (ty : Ty) (s : List Kind) → IsOver level s → IsOver level (held_by r x ty s).after
  held_over (RightOf.Constant n) x ty s over = over
  held_over RightOf.Evaluated x ty s over = over
  held_over (RightOf.Variable v) x ty s over = by (local_at s v)
    where
      by : (o : Option ℕ) → IsOver level (in_cell o v x ty s).after
      by (Some at) = over
      by None = over

  left_laid : (r : Right) (x : ValueCode) (m : Valued) → Seen x m → x.runs records ≡ true → (ty : Ty) (s : List Kind) (place : ℕ) → IsOver level s → Laid code place (left_held r x ty s).code → Alike m
  left_laid (RightOf.Constant n) x m h runs ty s place over laid = held_laid x.right x m h runs ty s place over laid
  left_laid (RightOf.Variable v) x m h runs ty s place over laid = held_laid x.right x m h runs ty s place over laid
  left_laid RightOf.Evaluated x m h runs ty s place over laid = h.laid runs (new_operand s) ty s place over laid

  left_over : (r : Right) (x : ValueCode) (ty : Ty) (s : List Kind) → IsOver level s → IsOver level (left_held r x ty s).after
  left_over (RightOf.Constant n) x ty s over = held_over x.right x ty s over
  left_over (RightOf.Variable v) x ty s over = held_over x.right x ty s over
  left_over RightOf.Evaluated x ty s over = over

  -- Operators ----------------------------------------------------------------------------------------

  -- the right operand of an operator
  right_laid : (r : Right) (o : OperatorCode) (m : Valued) → o.right.right ≡ r → Seen o.right m → o.right.runs records ≡ true → (left : Cell) (ty : Ty) (to : Cell) (s : List Kind) (place : ℕ) → IsOver level s → Laid code place (operator_by r o left ty to s) → Alike m
  right_laid (RightOf.Constant n) o m is h runs left ty to s place over laid = h.constant n is
  right_laid (RightOf.Variable v) o m is h runs left ty to s place over laid =
      let x = held o.right ty s in
      held_laid o.right.right o.right m h runs ty s place over (laid_front code place x.code ((InstrOf.Binary (operator_for o ty) left x.cell to, x.after) ∷ []) laid)
  right_laid RightOf.Evaluated o m is h runs left ty to s place over laid =
      let x = held o.right ty s in
      held_laid o.right.right o.right m h runs ty s place over (laid_front code place x.code ((InstrOf.Binary (operator_for o ty) left x.cell to, x.after) ∷ []) laid)

  abbrev AllOperators : List OperatorCode → List Applied → Type 0
  AllOperators [] [] = Unit {0}
  AllOperators (o ∷ os) (m ∷ ms) = OperatorSeen o m × AllOperators os ms
  AllOperators _ _ = ⊥

  abbrev AllOperands : List Applied → Type 0
  AllOperands [] = Unit {0}
  AllOperands (m ∷ ms) = OperandAlike m × AllOperands ms

  operators_laid : (os : List OperatorCode) (ms : List Applied) → AllOperators os ms → operators_run records os ≡ true → (base : List Kind) (left : Cell) (s : List Kind) (ty : Ty) (to : Cell) (place : ℕ) → IsOver level base → IsOver level s → Laid code place (operators_code base left s ty os to) → AllOperands ms
  operators_laid [] [] h runs base left s ty to place under over laid = tt
  operators_laid [] (m ∷ ms) h runs base left s ty to place under over laid = absurd h
  operators_laid (o ∷ os) [] h runs base left s ty to place under over laid = absurd h
  operators_laid (o ∷ []) (m ∷ []) h runs base left s ty to place under over laid = (h.0 (both_true _ _ runs).0 left ty to s place over (laid_front code place (operator_code o left ty to s) [] laid), tt)
  operators_laid (o ∷ []) (m ∷ n ∷ ns) h runs base left s ty to place under over laid = absurd h.1
  operators_laid (o ∷ p ∷ ps) (m ∷ ms) h runs base left s ty to place under over laid =
      let g = both_true _ _ runs in
      let front = operator_code o left ty (new_operand base) s in
      let back = operators_code base (new_operand base) (KindOf.Operand o.ty ∷ base) o.ty (p ∷ ps) to in (
        h.0 g.0 left ty (new_operand base) s place over (laid_front code place front back laid),
        operators_laid (p ∷ ps) ms h.1 g.1 base (new_operand base) (KindOf.Operand o.ty ∷ base) o.ty to (place + length front) under under (laid_back code place front back laid),
      )

  applies : (ms : List Applied) → AllOperands ms → (v : List ℕ) → apply_each K d ms v ≡ apply_each K e' ms v
  unfolding apply_each
  applies [] h v = refl
  applies (m ∷ ms) h v = λ i. h.0 v i >>= (λ u. applies ms h.1 u i)

  -- Short-circuit forms --------------------------------------------------------------------------------

  abbrev AllSeen : List ValueCode → List Valued → Type 0
  AllSeen [] [] = Unit {0}
  AllSeen (x ∷ xs) (m ∷ ms) = Seen x m × AllSeen xs ms
  AllSeen _ _ = ⊥

  abbrev AllAlike : List Valued → Type 0
  AllAlike [] = Unit {0}
  AllAlike (m ∷ ms) = Alike m × AllAlike ms

  others_laid : (form : Shortcut) (xs : List ValueCode) (ms : List Valued) → AllSeen xs ms → values_run records xs ≡ true → (s : List Kind) (place : ℕ) → IsOver level s → Laid code place (others_code form xs s) → AllAlike ms
  others_laid form [] [] h runs s place over laid = tt
  others_laid form [] (m ∷ ms) h runs s place over laid = absurd h
  others_laid form (x ∷ xs) [] h runs s place over laid = absurd h
  others_laid form (x ∷ xs) (m ∷ ms) h runs s place over laid =
      let g = both_true _ _ runs in
      let front = other_code form x s in
      let back = others_code form xs s in
      let one = laid_front code place front back laid in
      (h.0.laid g.0 (new_operand s) Boolean s (place + 1) over one.2, others_laid form xs ms h.1 g.1 s (place + length front) over (laid_back code place front back laid))

  joins : (form : Shortcut) (ms : List Valued) → AllAlike ms → (v : List ℕ) → join_each K d form ms v ≡ join_each K e' form ms v
  unfolding join_each
  joins form [] h v = refl
  joins form (m ∷ ms) h v = λ i. ticked (either (decides form v) (done v) (h.0 i)) >>= (λ u. joins form ms h.1 u i)

  -- Calls of functions -----------------------------------------------------------------------------------

  abbrev AllActuals : List ActualCode → List Supplied → Type 0
  AllActuals [] [] = Unit {0}
  AllActuals (x ∷ xs) (m ∷ ms) = ActualSeen x m × AllActuals xs ms
  AllActuals _ _ = ⊥

  abbrev AllSources : List Supplied → Type 0
  AllSources [] = Unit {0}
  AllSources (m ∷ ms) = SourceAlike m × AllSources ms

  actuals_laid : (xs : List ActualCode) (ms : List Supplied) → AllActuals xs ms → actuals_run xs records ≡ true → goes_back xs ≡ false → (n : ℕ) (s : List Kind) (place : ℕ) → IsOver level s → Laid code place (actuals_code n xs s) → AllSources ms
  actuals_laid [] [] h runs none n s place over laid = tt
  actuals_laid [] (m ∷ ms) h runs none n s place over laid = absurd h
  actuals_laid (x ∷ xs) [] h runs none n s place over laid = absurd h
  actuals_laid (x ∷ xs) (m ∷ ms) h runs none n s place over laid =
      let g = both_true _ _ runs in
      let no = neither (is_some x.back) (goes_back xs) none in
      let front = x.code n s in
      let back = actuals_code _ xs (KindOf.Operand x.ty ∷ s) in
      (h.0.laid g.0 (none_back x.back no.0) n s place over (laid_front code place front back laid), actuals_laid xs ms h.1 g.1 no.1 _ (KindOf.Operand x.ty ∷ s) (place + length front) over (laid_back code place front back laid))

  actuals_over : (xs : List ActualCode) (s : List Kind) → IsOver level s → IsOver level (with_actuals xs s)
  actuals_over [] s over = over
  actuals_over (x ∷ xs) s over = actuals_over xs (KindOf.Operand x.ty ∷ s) over

  passes : (ms : List Supplied) → AllSources ms → (p : Passed) → pass_each K d ms p ≡ pass_each K e' ms p
  unfolding pass_each
  passes [] h p = refl
  passes (m ∷ ms) h p = λ i. ticked (h.0 i >>= m.taken K) >>= (λ y. passes ms h.1 (with_formal y p) i)

  called : (f : ℕ) → IsInScope code level (Some f) → (p : Passed) → call_with K d f p ≡ call_with K e' f p
  unfolding call_with
  called f scope p = ap (λ (m : Act Returned). m >>= (λ r. copy_back r.slots p.back >> done r)) (calls f scope p.slots)

  -- what the call means, whatever instruction it is
  call_alike : (f : ℕ) (ms : List Supplied) (ty : Ty) → AllSources ms → IsInScope code level (Some f) → Alike (eval_step (Expr-F.Call f ms ty))
  unfolding opened_expressions
  call_alike f ms ty sources scope = λ i. ticked (passes ms sources no_actuals i >>= (λ p. called f scope p i) >>= (λ r. read_found (cells_of K.tables ty) (Alone r.cells)))

  scalar_call : (f : ℕ) (xs : List ActualCode) (ms : List Supplied) (ty : Ty) → AllActuals xs ms → (u : Ty) (s : List Kind) (place : ℕ) → actuals_run xs records ≡ true → goes_back xs ≡ false → IsOver level s → Laid code place (evaluates_code f xs u s) → Alike (eval_step (Expr-F.Call f ms ty))
  scalar_call f xs ms ty h u s place runs none over laid =
      let front = actuals_code 0 xs s in
      let i = InstrOf.Evaluate f (length xs) u (height s) in
      let there = laid_back code place front ((i, with_actuals xs s) ∷ []) laid in
      let fine : IsFine code (place + length front) i (with_actuals xs s) = valid.each (place + length front) i (with_actuals xs s) there.0 there.1 in
      call_alike f ms ty (actuals_laid xs ms h runs none 0 s place over (laid_front code place front ((i, with_actuals xs s) ∷ []) laid)) (in_scope (with_actuals xs s) f (actuals_over xs s over) fine.1.0)

  record_call : (f : ℕ) (xs : List ActualCode) (ms : List Supplied) (t : ℕ) → AllActuals xs ms → (s : List Kind) (place : ℕ) → actuals_run xs records ≡ true → goes_back xs ≡ false → IsOver level s → Laid code place (record_call_code f xs t s) → Alike (eval_step (Expr-F.Call f ms (Record t)))
  record_call f xs ms t h s place runs none over laid =
      let front = actuals_code 0 xs s in
      let i = InstrOf.EvaluateRecord f (length xs) t (height s) in
      let there = laid_back code place front ((i, with_actuals xs s) ∷ []) laid in
      let fine : IsFine code (place + length front) i (with_actuals xs s) = valid.each (place + length front) i (with_actuals xs s) there.0 there.1 in
      call_alike f ms (Record t) (actuals_laid xs ms h runs none 0 s place over (laid_front code place front ((i, with_actuals xs s) ∷ []) laid)) (in_scope (with_actuals xs s) f (actuals_over xs s over) fine.0.0)

  -- a name begins with the record that one gives
  result_seen : (f : ℕ) (xs : List ActualCode) (ms : List Supplied) (ty : Ty) → AllActuals xs ms → (y : Reached) → call_reached f xs ty ≡ Some y → StartSeen (start_of y) (Alike (eval_step (Expr-F.Call f ms ty)))
  result_seen f xs ms (Record t) h y is =
      let same : Result (OfRecord t (record_runs xs t) (record_call_code f xs t)) ≡ y = cc is in
      subst (λ z. StartSeen (start_of z) (Alike (eval_step (Expr-F.Call f ms (Record t))))) same
      (λ runs s place over laid.
      let g = both_true _ _ runs in
      let i = both_true _ _ g.1 in
      record_call f xs ms t h s place i.1 (not-true _ i.0) over laid)
  result_seen f xs ms Integer h y is = absurd (cc is)
  result_seen f xs ms Count h y is = absurd (cc is)
  result_seen f xs ms Boolean h y is = absurd (cc is)
  result_seen f xs ms Address h y is = absurd (cc is)
  result_seen f xs ms Handle h y is = absurd (cc is)
  result_seen f xs ms (Access a) h y is = absurd (cc is)

  call_seen : (f : ℕ) (xs : List ActualCode) (ms : List Supplied) (ty : Ty) → AllActuals xs ms → Seen (function_call f xs ty) (eval_step (Expr-F.Call f ms ty))
  call_seen f xs ms ty h = record {
    constant = λ n is. absurd (cc is);
    laid = λ runs to u s place over laid.
        let g = both_true _ _ runs in
        let i = both_true _ _ g.1 in
        scalar_call f xs ms ty h u s place i.1 (not-true _ i.0) over (laid_front code place (evaluates_code f xs u s) (moved_to to u s) laid);
    begun = result_seen f xs ms ty h;
  }

  -- Values of names --------------------------------------------------------------------------------------

  -- of one that is found
  read_alike : (ty : Ty) (m : Naming) → NameAlike m → Alike (eval_step (Expr-F.Read m ty))
  unfolding opened_expressions
  read_alike ty m h = ap (λ (f : Act Found). ticked (f >>= read_found (cells_of K.tables ty))) (h (category_of ty))

  read_seen : (o : Option Reached) (ty : Ty) (m : Naming) → NameSeen o m → Seen (read o ty) (eval_step (Expr-F.Read m ty))
  read_seen None ty m h = missing_seen (Some ty) (eval_step (Expr-F.Read m ty))
  read_seen (Some (Result b)) ty m h = missing_seen (Some ty) (eval_step (Expr-F.Read m ty))
  read_seen (Some (Variable v)) ty m h =
      let g = start_then (OfVariable v) (read_alike ty m) (h (Variable v) refl) in
      record {
        constant = λ n is. absurd (cc is);
        laid = λ runs to u s place over laid. g (read_near (local_at s v) v u to s place refl over laid.0 laid.1);
        begun = λ y is. let same : Variable v ≡ y = cc is in subst (λ z. StartSeen (start_of z) (Alike (eval_step (Expr-F.Read m ty)))) same g;
      }
  read_seen (Some (Part b steps t position)) ty m h =
      let g = start_then b (read_alike ty m) (h (Part b steps t position) refl) in
      record {
        constant = λ n is. absurd (cc is);
        laid = λ runs to u s place over laid. component_seen (Alike (eval_step (Expr-F.Read m ty))) b steps t position u to s place g (both_true _ _ (both_true _ _ runs).1).0 over laid;
        begun = λ y is. let same : Part b steps t position ≡ y = cc is in subst (λ z. StartSeen (start_of z) (Alike (eval_step (Expr-F.Read m ty)))) same g;
      }
  read_seen (Some (Object b steps)) ty m h =
      let g = start_then b (read_alike ty m) (h (Object b steps) refl) in
      record {
        constant = λ n is. absurd (cc is);
        laid = λ runs to u s place over laid. component_seen (Alike (eval_step (Expr-F.Read m ty))) b steps any_type first_position u to s place g (both_true _ _ (both_true _ _ runs).1).0 over laid;
        begun = λ y is. let same : Object b steps ≡ y = cc is in subst (λ z. StartSeen (start_of z) (Alike (eval_step (Expr-F.Read m ty)))) same g;
      }

  discriminant_alike : (m : Naming) (n : ℕ) → NameAlike m → Alike (eval_step (Expr-F.Discriminant m n))
  unfolding opened_expressions
  discriminant_alike m n h = ap (λ (f : Act Found). ticked (f >>= (λ y. discriminant_meant (object_of y) n))) (h Composite)

  discriminant_seen : (o : Option Reached) (n : ℕ) (m : Naming) → NameSeen o m → Seen (discriminant o n) (eval_step (Expr-F.Discriminant m n))
  discriminant_seen None n m h = record {
    constant = λ i is. absurd (cc is);
    laid = λ runs to u s place over laid. absurd (never s place laid);
    begun = λ y is. absurd (cc is);
  }
  discriminant_seen (Some x) n m h =
      let g = start_then (start_of x) (discriminant_alike m n) (h x refl) in
      record {
        constant = λ i is. absurd (cc is);
        laid = λ runs to u s place over laid. part_seen (Alike (eval_step (Expr-F.Discriminant m n))) x block_pool s place g (part_begun records x runs) over (laid_front code place (part_code x block_pool s) ((InstrOf.TakeDiscriminant block_pool (discriminant_at n) to, KindOf.Operand (Record block_pool) ∷ s) ∷ []) laid);
        begun = λ y is. absurd (cc is);
      }

  designating_alike : (v : Var) → IsNear v → Alike (eval_step (Expr-F.Access v))
  unfolding opened_expressions find_var
  designating_alike v h = ap (λ m. ticked (ticked (look (λ w. found_in m v.slot (slot_at m v.slot w).content)) >>= (λ x. done (object_of x ∷ [])))) h

  designating_seen : (v : Var) → Seen (designating v) (eval_step (Expr-F.Access v))
  designating_seen v = record {
    constant = λ n is. absurd (cc is);
    laid = λ runs to u s place over laid.
        let fine : IsFine code place (InstrOf.Designate v u to) s = valid.each place (InstrOf.Designate v u to) s laid.0 laid.1 in
        designating_alike v (near s v over fine.2);
    begun = λ y is. absurd (cc is);
  }

  -- Operators on values ------------------------------------------------------------------------------------

  constant_seen : (n : ℕ) → Seen (constant n) (eval_step (Expr-F.Constant n))
  unfolding eval_step
  constant_seen n = record {
    constant = λ i is. refl;
    laid = λ runs to u s place over laid. refl;
    begun = λ y is. absurd (cc is);
  }

  applied_seen : (runs : List RecordType → Bool) (op : UnaryOp) (operand ty : Ty) (x : ValueCode) (m n : Valued) → (runs records ≡ true → x.runs records ≡ true) → Seen x m → (Alike m → Alike n) → Seen (applied runs op operand ty x) n
  applied_seen runs op operand ty x m n is_run h then = record {
    constant = λ i is. absurd (cc is);
    laid = λ r to u s place over laid.
        let y = held x operand s in
        then (held_laid x.right x m h (is_run r) operand s place over (laid_front code place y.code ((InstrOf.Unary op operand ty y.cell to, y.after) ∷ []) laid));
    begun = λ y is. absurd (cc is);
  }

  unary_alike : (op : UnaryOp) (ty : Ty) (m : Valued) → Alike m → Alike (eval_step (Expr-F.Unary op ty m))
  unfolding eval_step
  unary_alike op ty m h = ap (λ (f : Act (List ℕ)). ticked (f >>= (λ v. or_constraint_error (unary_meant op ty (scalar_of v))))) h

  convert_alike : (ty : Ty) (m : Valued) → Alike m → Alike (eval_step (Expr-F.Convert ty m))
  unfolding eval_step
  convert_alike ty m h = ap (λ (f : Act (List ℕ)). ticked (f >>= (λ v. or_constraint_error (converted ty (scalar_of v))))) h

  operand_alike : (o : Operand-F Supplied Valued Naming Applied) → Alike o.right → OperandAlike (operand_meant o)
  unfolding operand_meant
  operand_alike o h v = ap (λ (f : Act (List ℕ)). ticked (f >>= (λ u. or_constraint_error (binary o.op o.ty (scalar_of v) (scalar_of u))))) h

  chain_alike : (m : Valued) (n : Applied) (ns : List Applied) → Alike m → AllOperands (n ∷ ns) → Alike (eval_step (Expr-F.Chain m n ns))
  unfolding eval_step
  chain_alike m n ns h rest = λ i. h i >>= (λ v. applies (n ∷ ns) rest v i)

  chain_seen : (x : ValueCode) (m : Valued) → Seen x m → (o : OperatorCode) (os : List OperatorCode) (n : Applied) (ns : List Applied) → AllOperators (o ∷ os) (n ∷ ns) → Seen (chain x o os) (eval_step (Expr-F.Chain m n ns))
  chain_seen x m h o os n ns each = record {
    constant = λ i is. absurd (cc is);
    laid = λ runs to u s place over laid.
        let g = both_true _ _ runs in
        let ty = first_type x o in
        let y = left_held o.right.right x ty s in
        let rest = operators_code s y.cell y.after ty (o ∷ os) to in
        chain_alike m n ns (left_laid o.right.right x m h g.0 ty s place over (laid_front code place y.code rest laid))
        (operators_laid (o ∷ os) (n ∷ ns) each g.1 s y.cell y.after ty to (place + length y.code) over (left_over o.right.right x ty s over) (laid_back code place y.code rest laid));
    begun = λ y is. absurd (cc is);
  }

  short_alike : (form : Shortcut) (m n : Valued) (ns : List Valued) → Alike m → AllAlike (n ∷ ns) → Alike (eval_step (Expr-F.Short form m n ns))
  unfolding eval_step
  short_alike form m n ns h rest = λ i. h i >>= (λ v. joins form (n ∷ ns) rest v i)

  short_seen : (form : Shortcut) (x y : ValueCode) (more : List ValueCode) (m n : Valued) (ns : List Valued) → Seen x m → AllSeen (y ∷ more) (n ∷ ns) → Seen (short form x y more) (eval_step (Expr-F.Short form m n ns))
  short_seen form x y more m n ns h each = record {
    constant = λ i is. absurd (cc is);
    laid = λ runs to u s place over laid.
        let g = both_true _ _ runs in
        let front = x.code (new_operand s) Boolean s in
        let back = others_code form (y ∷ more) s in
        let both = laid_front code place (front ++ back) (moved_to to Boolean s) laid in
        short_alike form m n ns (h.laid g.0 (new_operand s) Boolean s place over (laid_front code place front back both))
        (others_laid form (y ∷ more) (n ∷ ns) each g.1 s (place + length front) over (laid_back code place front back both));
    begun = λ z is. absurd (cc is);
  }

  -- Allocators -------------------------------------------------------------------------------------------

  -- the handle and the value of an allocator, each left out or not
  abbrev two : Act (Option (List ℕ)) → Act (Option (List ℕ)) → Act (Option (List ℕ) × Option (List ℕ))
  two handle value = handle >>= (λ h. value >>= (λ v. done (h, v)))

  abbrev Homes : ℕ → Type 0
  Homes access = HasHomes code level access

  plain_new_alike : (access : ℕ) (ty : Ty) → Homes access → Alike (eval_step (Expr-F.New access ty None None))
  unfolding opened_expressions
  plain_new_alike access ty homes = λ i. ticked (spend (two (done None) (done None) >>= (λ p. allocates access homes ty p.0 p.1 i)) >>= (λ r. done r.cells))

  value_new_alike : (access : ℕ) (ty : Ty) (m : Valued) → Homes access → Alike m → Alike (eval_step (Expr-F.New access ty None (Some m)))
  unfolding opened_expressions
  value_new_alike access ty m homes h = λ i. ticked (spend (two (done None) (h i >>= (λ v. done (Some v))) >>= (λ p. allocates access homes ty p.0 p.1 i)) >>= (λ r. done r.cells))

  -- the first of the instructions of an allocator
  new_homes : (access : ℕ) (of ty : Ty) (s : List Kind) (place : ℕ) → IsOver level s → slice_get code.instructions.items place ≡ Some (InstrOf.New access of ty (height s)) → kinds_at code place ≡ Some s → Homes access
  new_homes access of ty s place over here standing =
      let fine : IsFine code place (InstrOf.New access of ty (height s)) s = valid.each place (InstrOf.New access of ty (height s)) s here standing in
      has_homes s access over fine.5

  -- an object of a record type with the value of a part, and one of an elementary type with a value
  copy_seen : (access t : ℕ) (x : ValueCode) (o : Option Reached) (m : Valued) → copied t x ≡ o → Seen x m → Seen (new_copy access t o) (eval_step (Expr-F.New access (Record t) None (Some m)))
  copy_seen access t x None m is h = missing_seen (Some (Access access)) (eval_step (Expr-F.New access (Record t) None (Some m)))
  copy_seen access t x (Some o) m is h = record {
    constant = λ i bad. absurd (cc bad);
    laid = λ runs to u s place over laid.
        let g = both_true _ _ runs in
        let all = laid_front code place (new_copy_code access t o u s) (moved_to to u s) laid in
        let front = part_code o t s in
        let i = InstrOf.NewCopy access t u (height s) in
        let stack = KindOf.Operand (Record t) ∷ s in
        let there = laid_back code (place + 1) front _ all.2 in
        let fine : IsFine code (place + 1 + length front) i stack = valid.each (place + 1 + length front) i stack there.0 there.1 in
        value_new_alike access (Record t) m (has_homes stack access over fine.3)
        (part_seen (Alike m) o t s (place + 1) (h.begun o (copied_reached t x o is)) (part_begun records o g.1) over (laid_front code (place + 1) front _ all.2));
    begun = λ y bad. absurd (cc bad);
  }

  given_seen : (access : ℕ) (of : Ty) (x : ValueCode) (m : Valued) → Seen x m → Seen (new_given access of x) (eval_step (Expr-F.New access of None (Some m)))
  given_seen access of x m h = record {
    constant = λ i bad. absurd (cc bad);
    laid = λ runs to u s place over laid.
        let g = both_true _ _ runs in
        let all = laid_front code place ((InstrOf.Skip 0, s) ∷ given_code access of x u s) (moved_to to u s) laid in
        let front = x.code (new_operand s) of s in
        let stack = KindOf.Operand of ∷ s in
        let makes = allocator_code access of u stack in
        let last : List Line = (InstrOf.GiveValue of u (height s), KindOf.Operand u ∷ stack) ∷ [] in
        let both = laid_front code (place + 1) (front ++ makes) last all.2 in
        let there = laid_back code (place + 1) front makes both in
        value_new_alike access of m (new_homes access of u stack (place + 1 + length front) over there.0 there.1)
        (h.laid g.1 (new_operand s) of s (place + 1) over (laid_front code (place + 1) front makes both));
    begun = λ y bad. absurd (cc bad);
  }

  plain_new_seen : (access : ℕ) (of : Ty) → Seen (new access of None None) (eval_step (Expr-F.New access of None None))
  plain_new_seen access of = record {
    constant = λ i bad. absurd (cc bad);
    laid = λ runs to u s place over laid.
        let there = laid.2 in
        plain_new_alike access of (new_homes access of u s (place + 1) over there.0 there.1);
    begun = λ y bad. absurd (cc bad);
  }

  value_new_seen : (access : ℕ) (of : Ty) (x : ValueCode) (m : Valued) → Seen x m → Seen (new access of None (Some x)) (eval_step (Expr-F.New access of None (Some m)))
  value_new_seen access (Record t) x m h = copy_seen access t x (copied t x) m refl h
  value_new_seen access Integer x m h = given_seen access Integer x m h
  value_new_seen access Boolean x m h = given_seen access Boolean x m h
  value_new_seen access Count x m h = given_seen access Count x m h
  value_new_seen access Address x m h = given_seen access Address x m h
  value_new_seen access Handle x m h = given_seen access Handle x m h
  value_new_seen access (Access a) x m h = given_seen access (Access a) x m h

  -- with a handle it is not run
  handle_new_seen : (access : ℕ) (of : Ty) (handle : ValueCode) (value : Option ValueCode) (m : Valued) → Seen (new access of (Some handle) value) m
  handle_new_seen access (Record t) handle value m = missing_seen (Some (Access access)) m
  handle_new_seen access Integer handle value m = missing_seen (Some (Access access)) m
  handle_new_seen access Boolean handle value m = missing_seen (Some (Access access)) m
  handle_new_seen access Count handle value m = missing_seen (Some (Access access)) m
  handle_new_seen access Address handle value m = missing_seen (Some (Access access)) m
  handle_new_seen access Handle handle value m = missing_seen (Some (Access access)) m
  handle_new_seen access (Access a) handle value m = missing_seen (Some (Access access)) m

  -- Actuals ------------------------------------------------------------------------------------------------

  value_source : (m : Valued) (ty : Ty) → Alike m → SourceAlike (actual_meant (Actual-F.ByValue m ty))
  unfolding opened_expressions
  value_source m ty h = ap (λ (f : Act (List ℕ)). f >>= (λ v. done (Alone v))) h

  scalar_actual : (x : ValueCode) (ty : Ty) (m : Valued) (a : ActualCode) → a.code ≡ (λ over s. x.code (new_operand s) ty s) → (a.runs records ≡ true → x.runs records ≡ true) → Seen x m → ActualSeen a (actual_meant (Actual-F.ByValue m ty))
  scalar_actual x ty m a is runs h = record {
    laid = λ r none n s place over laid. value_source m ty (h.laid (runs r) (new_operand s) ty s place over (subst (λ (f : ℕ → List Kind → List Line). Laid code place (f n s)) is laid));
  }

  -- an actual of which this version runs nothing
  missing_actual_seen : (a : ActualCode) (m : Supplied) → a.code ≡ (λ over s. missing s) → ActualSeen a m
  missing_actual_seen a m is = record {
    laid = λ r none n s place over laid. absurd (never s place (subst (λ (f : ℕ → List Kind → List Line). Laid code place (f n s)) is laid));
  }

  -- a part
  reference_seen : (o : Option Reached) (ty : Ty) (m : Supplied) → ((x : Reached) → o ≡ Some x → StartSeen (start_of x) (SourceAlike m)) → ActualSeen (by_reference o ty) m
  reference_seen (Some x) (Record t) m h = record {
    laid = λ r none n s place over laid. part_seen (SourceAlike m) x t s place (h x refl) (part_begun records x r) over laid;
  }
  reference_seen None ty m h = missing_actual_seen (by_reference None ty) m refl
  reference_seen (Some x) Integer m h = missing_actual_seen (by_reference (Some x) Integer) m refl
  reference_seen (Some x) Count m h = missing_actual_seen (by_reference (Some x) Count) m refl
  reference_seen (Some x) Boolean m h = missing_actual_seen (by_reference (Some x) Boolean) m refl
  reference_seen (Some x) Address m h = missing_actual_seen (by_reference (Some x) Address) m refl
  reference_seen (Some x) Handle m h = missing_actual_seen (by_reference (Some x) Handle) m refl
  reference_seen (Some x) (Access a) m h = missing_actual_seen (by_reference (Some x) (Access a)) m refl

  value_actual : (x : ValueCode) (ty : Ty) (m : Valued) → Seen x m → ActualSeen (by_value x ty) (actual_meant (Actual-F.ByValue m ty))
  value_actual x (Record t) m h =
      reference_seen (result_of (copied t x)) (Record t) (actual_meant (Actual-F.ByValue m (Record t)))
      (λ y is. start_then (start_of y) (value_source m (Record t)) (h.begun y (copied_reached t x y (result_is (copied t x) y is))))
  value_actual x Integer m h = scalar_actual x Integer m (by_value x Integer) refl (λ r. (both_true (is_run_type Integer) (x.runs records) r).1) h
  value_actual x Count m h = scalar_actual x Count m (by_value x Count) refl (λ r. (both_true (is_run_type Count) (x.runs records) r).1) h
  value_actual x Boolean m h = scalar_actual x Boolean m (by_value x Boolean) refl (λ r. (both_true (is_run_type Boolean) (x.runs records) r).1) h
  value_actual x Address m h = scalar_actual x Address m (by_value x Address) refl (λ r. (both_true (is_run_type Address) (x.runs records) r).1) h
  value_actual x Handle m h = scalar_actual x Handle m (by_value x Handle) refl (λ r. (both_true (is_run_type Handle) (x.runs records) r).1) h
  value_actual x (Access a) m h = scalar_actual x (Access a) m (by_value x (Access a)) refl (λ r. (both_true (is_run_type (Access a)) (x.runs records) r).1) h

  part_source : (m : Naming) (ty : Ty) → NameAlike m → SourceAlike (actual_meant (Actual-F.Part m ty))
  unfolding opened_expressions
  part_source m ty h = ap (λ (f : Act Found). ticked f) (h Composite)

  copied_actual : (o : Option Reached) (ty : Ty) (begins : CopyStart) (m : Naming) → NameSeen o m → ActualSeen (by_copy o ty begins) (actual_meant (Actual-F.Copied m ty begins))
  copied_actual None ty begins m h = missing_actual_seen (by_copy None ty begins) (actual_meant (Actual-F.Copied m ty begins)) refl
  copied_actual (Some (Result b)) ty begins m h = missing_actual_seen (by_copy (Some (Result b)) ty begins) (actual_meant (Actual-F.Copied m ty begins)) refl
  copied_actual (Some (Variable v)) ty begins m h = record { laid = λ r none n s place over laid. absurd (cc none) }
  copied_actual (Some (Part b steps t position)) ty begins m h = record {
    laid = λ r none n s place over laid. absurd (cc none);
  }
  copied_actual (Some (Object b steps)) ty begins m h = record {
    laid = λ r none n s place over laid. absurd (cc none);
  }

  -- Names --------------------------------------------------------------------------------------------------

  -- what a name begins with that is no variable
  value_begun : (x : ValueCode) (m : Valued) → Seen x m → StartSeen (given x) (Alike m)
  value_begun x m h = by x.reached refl
    where
      access : StartSeen (OfValue x.runs (λ s. x.code (new_operand s) access_value s)) (Alike m)
      access runs s place over laid = h.laid runs (new_operand s) access_value s place over laid

      by : (o : Option Reached) → x.reached ≡ o → StartSeen (given_by o x) (Alike m)
      by None is = access
      by (Some (Variable v)) is = access
      by (Some (Part b steps t position)) is = access
      by (Some (Object b steps)) is = access
      by (Some (Result (OfVariable v))) is = access
      by (Some (Result (OfValue runs lines))) is = access
      by (Some (Result (OfRecord t runs lines))) is = h.begun (Result (OfRecord t runs lines)) is

  variable_alike : (c : Category) (v : Var) → IsNear v → var_part c d v ≡ var_part c e' v
  unfolding var_part find_var
  variable_alike Elementary v h = ap (λ m. ticked (done (InVariable m v.slot))) h
  variable_alike Composite v h = ap (λ m. ticked (look (λ w. found_in m v.slot (slot_at m v.slot w).content))) h

  variable_name : (v : Var) (steps : List Step) → IsNear v → NameAlike (name_meant (Name-F.Variable v steps))
  unfolding name_meant
  variable_name v steps h c = ap (λ (f : Act Found). f >>= walk K steps) (variable_alike (begins_as steps c) v h)

  value_name : (m : Valued) (steps : List Step) → Alike m → NameAlike (name_meant (Name-F.Given m steps))
  unfolding name_meant
  value_name m steps h c = ap (λ (f : Act (List ℕ)). f >>= (λ v. done (Alone v)) >>= walk K steps) h

  name_seen : (b : Start) (steps : List Step) (m : Naming) → StartSeen b (NameAlike m) → NameSeen (behind_steps b steps) m
  name_seen b steps m h x is = subst (λ z. StartSeen z (NameAlike m)) (behind_is b steps x is).start h

  -- Whole trees --------------------------------------------------------------------------------------------

  abbrev IsSeen : Expr → Type 0
  IsSeen e = Seen (value_code e) (eval e)

  abbrev IsName : Name → Type 0
  IsName n = NameSeen (reached_by n) (eval_name n)

  abbrev IsActual : Actual → Type 0
  IsActual a = ActualSeen (actual_code a) (supply a)

  abbrev IsOperator : Operand → Type 0
  IsOperator o = OperatorSeen (operator_of o) (apply o)

  abbrev ActualToo : Type 0
  ActualToo = (a : Actual) × IsActual a

  abbrev ExprToo : Type 0
  ExprToo = (e : Expr) × IsSeen e

  abbrev NameToo : Type 0
  NameToo = (n : Name) × IsName n

  abbrev OperandToo : Type 0
  OperandToo = (o : Operand) × IsOperator o

  abbrev bare_expr : Expr-F ActualToo ExprToo NameToo OperandToo → Expr-F Actual Expr Name Operand
  bare_expr = map-Expr ActualToo ExprToo NameToo OperandToo Actual Expr Name Operand (λ e. e.0) (λ e. e.0) (λ e. e.0) (λ e. e.0)

  abbrev bare_actual : Actual-F ActualToo ExprToo NameToo OperandToo → Actual-F Actual Expr Name Operand
  bare_actual = map-Actual ActualToo ExprToo NameToo OperandToo Actual Expr Name Operand (λ e. e.0) (λ e. e.0) (λ e. e.0) (λ e. e.0)

  abbrev bare_name : Name-F ActualToo ExprToo NameToo OperandToo → Name-F Actual Expr Name Operand
  bare_name = map-Name ActualToo ExprToo NameToo OperandToo Actual Expr Name Operand (λ e. e.0) (λ e. e.0) (λ e. e.0) (λ e. e.0)

  abbrev bare_operand : Operand-F ActualToo ExprToo NameToo OperandToo → Operand-F Actual Expr Name Operand
  bare_operand = map-Operand ActualToo ExprToo NameToo OperandToo Actual Expr Name Operand (λ e. e.0) (λ e. e.0) (λ e. e.0) (λ e. e.0)

  operators_too : (os : List OperandToo) → AllOperators (map operator_of (map (λ o. o.0) os)) (map apply (map (λ o. o.0) os))
  operators_too [] = tt
  operators_too (o ∷ os) = (o.1, operators_too os)

  values_too : (xs : List ExprToo) → AllSeen (map value_code (map (λ x. x.0) xs)) (map eval (map (λ x. x.0) xs))
  values_too [] = tt
  values_too (x ∷ xs) = (x.1, values_too xs)

  actuals_too : (xs : List ActualToo) → AllActuals (map actual_code (map (λ x. x.0) xs)) (map supply (map (λ x. x.0) xs))
  actuals_too [] = tt
  actuals_too (x ∷ xs) = (x.1, actuals_too xs)

  rolled : (y : Expr-F Actual Expr Name Operand) (x : ValueCode) (m : Valued) → value_code (roll-Expr y) ≡ x → eval (roll-Expr y) ≡ m → Seen x m → IsSeen (roll-Expr y)
  rolled y x m same means h = subst (λ z. Seen z (eval (roll-Expr y))) (sym same) (subst (Seen x) (sym means) h)

  expr_rolled : (y : Expr-F ActualToo ExprToo NameToo OperandToo) → IsSeen (roll-Expr (bare_expr y))
  expr_rolled y = rolled (bare_expr y) _ _ (value_roll (bare_expr y)) (eval_roll (bare_expr y)) (by y)
    where
      by : (y : Expr-F ActualToo ExprToo NameToo OperandToo) → Seen (value_step (map-Expr Actual Expr Name Operand ActualCode ValueCode (Option Reached) OperatorCode actual_code value_code reached_by operator_of (bare_expr y))) (eval_step (map-Expr Actual Expr Name Operand Supplied Valued Naming Applied supply eval eval_name apply (bare_expr y)))
      by (Expr-F.Constant n) = constant_seen n
      by (Expr-F.Read n ty) = read_seen (reached_by n.0) ty (eval_name n.0) n.1
      by (Expr-F.Unary op ty e) = applied_seen (value_code e.0).runs op ty ty (value_code e.0) (eval e.0) _ (λ r. r) e.1 (unary_alike op ty (eval e.0))
      by (Expr-F.Chain e o os) = chain_seen (value_code e.0) (eval e.0) e.1 (operator_of o.0) (map operator_of (map (λ z. z.0) os)) (apply o.0) (map apply (map (λ z. z.0) os)) (operators_too (o ∷ os))
      by (Expr-F.Short form e f es) = short_seen form (value_code e.0) (value_code f.0) (map value_code (map (λ z. z.0) es)) (eval e.0) (eval f.0) (map eval (map (λ z. z.0) es)) e.1 (values_too (f ∷ es))
      by (Expr-F.Call f xs ty) = call_seen f (map actual_code (map (λ z. z.0) xs)) (map supply (map (λ z. z.0) xs)) ty (actuals_too xs)
      by (Expr-F.Convert ty e) = applied_seen (convert ty (value_code e.0)).runs Plus (value_type (value_code e.0)) ty (value_code e.0) (eval e.0) _ (λ r. (both_true _ _ r).1) e.1 (convert_alike ty (eval e.0))
      by (Expr-F.Access v) = designating_seen v
      by (Expr-F.New access ty None None) = plain_new_seen access ty
      by (Expr-F.New access ty None (Some v)) = value_new_seen access ty (value_code v.0) (eval v.0) v.1
      by (Expr-F.New access ty (Some h) None) = handle_new_seen access ty (value_code h.0) None _
      by (Expr-F.New access ty (Some h) (Some v)) = handle_new_seen access ty (value_code h.0) (Some (value_code v.0)) _
      by (Expr-F.Subpool which n) = missing_seen None _
      by (Expr-F.Discriminant n i) = discriminant_seen (reached_by n.0) i (eval_name n.0) n.1

  operand_rolled : (y : Operand-F ActualToo ExprToo NameToo OperandToo) → IsOperator (roll-Operand (bare_operand y))
  operand_rolled y =
      let o : OperatorCode = record { op = y.op; ty = y.ty; right = value_code y.right.0 } in
      let m = operand_meant (map-Operand Actual Expr Name Operand Supplied Valued Naming Applied supply eval eval_name apply (bare_operand y)) in
      subst (λ z. OperatorSeen z (apply (roll-Operand (bare_operand y)))) (sym (operator_roll (bare_operand y)))
      (subst (OperatorSeen o) (sym (operand_roll (bare_operand y)))
      (λ runs left ty to s place over laid. operand_alike (map-Operand Actual Expr Name Operand Supplied Valued Naming Applied supply eval eval_name apply (bare_operand y)) (right_laid (value_code y.right.0).right o (eval y.right.0) refl y.right.1 runs left ty to s place over laid)))

  actual_rolled : (y : Actual-F ActualToo ExprToo NameToo OperandToo) → IsActual (roll-Actual (bare_actual y))
  actual_rolled y = subst (λ z. ActualSeen z (supply (roll-Actual (bare_actual y)))) (sym (actual_roll (bare_actual y))) (subst (ActualSeen _) (sym (supply_roll (bare_actual y))) (by y))
    where
      by : (y : Actual-F ActualToo ExprToo NameToo OperandToo) → ActualSeen (actual_step (map-Actual Actual Expr Name Operand ActualCode ValueCode (Option Reached) OperatorCode actual_code value_code reached_by operator_of (bare_actual y))) (actual_meant (map-Actual Actual Expr Name Operand Supplied Valued Naming Applied supply eval eval_name apply (bare_actual y)))
      by (Actual-F.ByValue e ty) = value_actual (value_code e.0) ty (eval e.0) e.1
      by (Actual-F.Part n ty) = reference_seen (reached_by n.0) ty (actual_meant (Actual-F.Part (eval_name n.0) ty)) (λ x is. start_then (start_of x) (part_source (eval_name n.0) ty) (n.1 x is))
      by (Actual-F.Copied n ty begins) = copied_actual (reached_by n.0) ty begins (eval_name n.0) n.1

  name_rolled : (y : Name-F ActualToo ExprToo NameToo OperandToo) → IsName (roll-Name (bare_name y))
  name_rolled y = subst (λ o. NameSeen o (eval_name (roll-Name (bare_name y)))) (sym (reached_roll (bare_name y))) (subst (NameSeen _) (sym (name_roll (bare_name y))) (by y))
    where
      by : (y : Name-F ActualToo ExprToo NameToo OperandToo) → NameSeen (name_step (map-Name Actual Expr Name Operand ActualCode ValueCode (Option Reached) OperatorCode actual_code value_code reached_by operator_of (bare_name y))) (name_meant (map-Name Actual Expr Name Operand Supplied Valued Naming Applied supply eval eval_name apply (bare_name y)))
      by (Name-F.Variable v ss) = name_seen (OfVariable v) ss (name_meant (Name-F.Variable v ss)) (variable_name v ss)
      by (Name-F.Given e ss) = name_seen (given (value_code e.0)) ss (name_meant (Name-F.Given (eval e.0) ss)) (start_then (given (value_code e.0)) (value_name (eval e.0) ss) (value_begun (value_code e.0) (eval e.0) e.1))

  expr_seen : (e : Expr) → IsSeen e
  expr_seen = ind-Expr IsActual IsSeen IsName IsOperator
      (λ x y is. subst (λ z. IsActual (roll-Actual z)) is (actual_rolled y))
      (λ x y is. subst (λ z. IsSeen (roll-Expr z)) is (expr_rolled y))
      (λ x y is. subst (λ z. IsName (roll-Name z)) is (name_rolled y))
      (λ x y is. subst (λ z. IsOperator (roll-Operand z)) is (operand_rolled y))

  -- the evaluation of a default
  pub evaluation_alike : (number place : ℕ) (x : Expr) (ty : Ty) → (value_code x).runs records ≡ true → Laid code place (evaluation level number (value_code x) ty) → eval x K d ≡ eval x K e'
  evaluation_alike number place x ty runs laid =
      let s = KindOf.Default level number ∷ [] in
      let h = held (value_code x) ty s in
      held_laid (value_code x).right (value_code x) (eval x) (expr_seen x) runs ty s place (refl, λ bad. bad) (laid_front code place h.code ((InstrOf.Return h.cell ty, h.after) ∷ []) laid)
