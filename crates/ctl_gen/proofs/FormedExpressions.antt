-- The code of a well-typed expression is well formed, and puts a value of its type where it is wanted; and so is that of well-typed actuals,
-- which hold expressions.
use Rattle.std.proofs.Common.{◌≡◌, ℕ, suc, List, ◌∷◌, length, map, Option, Some, None, Bool, true, false, ◌⊎◌, inl, inr, refl, sym, ap, ◌∙◌, subst}
use Rattle.std.proofs.lemmas.Bool.{eqb-true, not-true}
use Rattle.std.specs.Prelude.{◌&&◌, nat_eq, not, option_map}
use Rattle.ctl_program.specs.declared.types.Ty.{Ty}
use Rattle.ctl_program.specs.declared.types.Ty.TheVariants.{Boolean, Count}
use Rattle.ctl_program.specs.declared.types.Ty.TheVariants as TyOf
use Rattle.ctl_program.specs.declared.types.RecordType.{RecordType}
use Rattle.ctl_program.specs.declared.operators.Shortcut.{Shortcut}
use Rattle.ctl_program.specs.declared.operators.UnaryOp.TheVariants.{Plus}
use Rattle.ctl_program.specs.declared.expression.Actual.{Actual}
use Rattle.ctl_program.specs.declared.expression.Expr.{Expr}
use Rattle.ctl_program.specs.declared.expression.Expr.TheVariants as ExprOf
use Rattle.ctl_program.specs.declared.expression.Name.{Name}
use Rattle.ctl_program.specs.declared.expression.Operand.{Operand, roll-Operand}
use Rattle.ctl_program.specs.declared.expression.Step.{Step}
use Rattle.ctl_well_typed.specs.Setting as W
use Rattle.ctl_well_typed.specs.Types as J
use Rattle.ctl_well_typed.specs.Expressions.{Chains, Denotes, FitEach, Fits, Perhaps, Truths, Typed}
use Rattle.ctl_well_typed.specs.Expressions as T
use Rattle.ctl_code.specs.declared.kinds.Kind.{Kind}
use Rattle.ctl_code.specs.declared.kinds.Kind.TheVariants as KindOf
use Rattle.ctl_code.specs.declared.code.Code.{Code}
use Rattle.ctl_code.specs.Valid as Valid
use Rattle.ctl_code.specs.Valid.{HasFormals}
use Rattle.ctl_layout.specs.Records.{is_number, is_plain, is_run_type}
use Rattle.ctl_layout.specs.Around.{Line, new_operand}
use Rattle.ctl_layout.specs.Parts.{OfRecord, OfValue, OfVariable, Reached, Object, Part, Result, Variable, access_value, behind_steps, is_dereferenced}
use Rattle.ctl_layout.specs.Values.{ActualCode, OperatorCode, ValueCode, actual_code, actuals_run, by_reference, by_value, chain, copied, function_call, given, goes_back, is_of, is_result, missing_value, new, new_copy, operator_of, operators_run, reached_by, reached_if, read, record_call_code, record_runs, result_of, sourced, value_code, value_type, values_run}
use Rattle.ctl_layout.proofs.Extensions.{both_true}
use Rattle.ctl_layout.proofs.Layers.{access_given, actual_copied, actual_part, actual_value, call_given, new_reached, part_source, reached_given, reached_variable, value_access, value_call, value_chain, value_constant, value_convert, value_discriminant, value_new, value_read, value_short, value_subpool, value_unary}
use Rattle.ctl_layout.proofs.TreeLayers.{operator_roll}
use Rattle.ctl_gen.proofs.Formed.{none}
use Rattle.ctl_gen.proofs.FormedParts.{BeginsAt, IsBegun, IsFound, IsFoundAt, found_at, steps_found}
use Rattle.ctl_emitter.proofs.Walked.{copy_reaches, part_begun, value_dereferenced}
use Rattle.ctl_gen.proofs.FormedCalls.{GoodActual, GoodActuals, MayCall, MayNew, copy_good, function_own, good_as, kind_by, record_call_formed, reference_good, value_good}
use Rattle.ctl_gen.proofs.FormedTypes.{IsAccessType, joins_plain, joins_scalar, number_of, number_scalar, run_scalar, takes_unary}
use Rattle.ctl_gen.proofs.FormedValues.{Conditions, Fine, IsMade, Operating, Usable, access_usable, applied_own, chain_own, constant_fine, copied_own, designating_fine, fine_like, first_joins, given_own, new_own, next_condition, next_joins, next_operating, none_operating, read_own, short_own, usable_as, value_number, value_usable, discriminant_own}

-- as many actuals as formals
as_many : {k : W.Setting} {env : W.Frames} {fs : List W.Formal} {actuals : List Actual} → FitEach k env fs actuals → length fs ≡ length (map actual_code actuals)
as_many T.no_more_formals = refl
as_many (T.one_more_formal fits more) = ap suc (as_many more)

-- a subprogram that is called is of the kind that its result tells, and has slots for its actuals
pub has_formals : (code : Code) (k : W.Setting) → MayCall code k → {env : W.Frames} {f : ℕ} {is : W.Signature} {actuals : List Actual} {r : Option Ty} → W.Callable k env f is → is.result ≡ r → FitEach k env is.formals actuals → HasFormals code (kind_by r) f (length (map actual_code actuals))
has_formals code k may_call {env} {f} {is} {actuals} can gives fits =
    subst (λ r. HasFormals code (kind_by r) f (length (map actual_code actuals))) gives (subst (HasFormals code (kind_by is.result) f) (as_many fits) (may_call env f is can).1)

module _ (code : Code) (records : List RecordType) where
  -- Names of the same --------------------------------------------------------------------------------

  -- another name of the same value
  fine_as : (env : W.Frames) (x y : ValueCode) (t : Ty) → x ≡ y → Fine code env y t → Fine code env x t
  fine_as env x y t same h = subst (λ z. Fine code env z t) (sym same) h

  runs_as : (x y : ValueCode) → x ≡ y → x.runs records ≡ true → y.runs records ≡ true
  runs_as x y same h = subst (λ (z : ValueCode). z.runs records ≡ true) same h

  not_missing : (x : ValueCode) → x ≡ missing_value None → x.runs records ≡ true → ⊥
  not_missing x same h = absurd (let e = sym (ap (λ (z : ValueCode). z.runs records) same) ∙ h in cc)

  -- an allocator with the value of a part, or of a function
  copied_fine : (env : W.Frames) (a u : ℕ) (o : Option Reached) → IsMade code env a (TyOf.Record u) → IsFoundAt code env records u o → (new_copy a u o).runs records ≡ true → Fine code env (new_copy a u o) (TyOf.Access a)
  copied_fine env a u None made found runs = absurd (cc)
  copied_fine env a u (Some x) made found runs = inl (copied_own code env a u x found.0 (found.1 (part_begun records x (both_true _ _ runs).1)) made)

  -- what is copied of an expression, if there is one, is found
  abbrev IsCopyFound : W.Frames → Option Expr → Type 0
  IsCopyFound env None = Unit {0}
  IsCopyFound env (Some x) = (u : ℕ) → IsFoundAt code env records u (copied u (value_code x))

  -- and its value is usable, where it is run and of a scalar type
  abbrev IsUsable : W.Frames → Option Expr → Ty → Type 0
  IsUsable env None t = Unit {0}
  IsUsable env (Some x) t = Valid.IsScalar t → (value_code x).runs records ≡ true → Usable code env (value_code x) t

  -- an allocator, which is run where it has no handle
  allocated_fine : (env : W.Frames) (a : ℕ) (t : Ty) (handle : Option ValueCode) (x : Option Expr) → IsMade code env a t → IsCopyFound env x → IsUsable env x t → (new a t handle (option_map value_code x)).runs records ≡ true → Fine code env (new a t handle (option_map value_code x)) (TyOf.Access a)
  allocated_fine env a t None None made found usable runs = inl (new_own code env a t made)
  allocated_fine env a (TyOf.Record u) None (Some x) made found usable runs = copied_fine env a u (copied u (value_code x)) made (found u) runs
  allocated_fine env a t None (Some x) made found usable runs =
      let e = both_true (is_run_type t) ((value_code x).runs records) runs in
      inl (given_own code env a t (value_code x) made (usable (run_scalar t e.0) e.1))
  allocated_fine env a t (Some h) x made found usable runs = absurd (cc)

  -- a value that is dereferenced is an access value
  dereferences : {k : W.Setting} {s t : Ty} {ss : List Step} → J.Walks k s ss t → is_dereferenced ss ≡ true → IsAccessType s
  dereferences J.arrived h = absurd (cc h)
  dereferences (J.further (J.dereference {a = a} found) more) h = (a, refl)
  dereferences (J.further (J.component has at) more) h = absurd (cc h)
  dereferences (J.further (J.narrow descends) more) h = absurd (cc h)

  -- no operator gives an access value
  chain_plain : {k : W.Setting} {env : W.Frames} {s t : Ty} {os : List Operand} → Chains k env s os t → (IsAccessType s → ⊥) → IsAccessType t → ⊥
  chain_plain T.ended plain = plain
  chain_plain (T.behind {o = op} {s = s} {t = u} joins right rest) plain = chain_plain rest (joins_plain op s u joins)

  -- What is copied ---------------------------------------------------------------------------------

  found_if : (env : W.Frames) (u : ℕ) (o : Option Reached) (b : Bool) → IsFoundAt code env records u o → IsFoundAt code env records u (reached_if o b)
  found_if env u o true h = h
  found_if env u o false h = tt

  -- of a value that is read from no name, and is no call, nothing
  unreached : (env : W.Frames) (u : ℕ) (x y : ValueCode) → x ≡ y → y.reached ≡ None → IsFoundAt code env records u (copied u x)
  unreached env u x y same none =
      subst (λ (z : ValueCode). IsFoundAt code env records u (copied u z)) (sym same)
      (subst (λ o. IsFoundAt code env records u (reached_if o (is_of u y.own))) (sym none) (found_if env u None (is_of u y.own) tt))

  -- of one that is read, the part
  read_found : (env : W.Frames) (u : ℕ) (o : Option Reached) (t : Ty) → IsFound code env records o → IsFoundAt code env records u (read o t).reached
  read_found env u None t h = tt
  read_found env u (Some (Variable v)) t h = found_at code env records u (Some (Variable v)) h
  read_found env u (Some (Part b steps w position)) t h = found_at code env records u (Some (Part b steps w position)) h
  read_found env u (Some (Object b steps)) t h = found_at code env records u (Some (Object b steps)) h
  read_found env u (Some (Result b)) t h = tt

  -- and of the call of a function the record that it gives
  result_found : (env : W.Frames) (w u : ℕ) (runs : List RecordType → Bool) (lines : List Kind → List Line) → (runs records ≡ true → IsBegun code env (OfRecord w runs lines)) → (b : Bool) → nat_eq w u ≡ b → IsFoundAt code env records u (reached_if (Some (Result (OfRecord w runs lines))) b)
  result_found env w u runs lines begun true same = ((refl, sym (eqb-true w u same)), begun)
  result_found env w u runs lines begun false same = tt

  -- as the source of an assignment
  source_at : (env : W.Frames) (u : ℕ) (o : Option Reached) → IsFoundAt code env records u o → IsFoundAt code env records u (by_reference (result_of o) (TyOf.Record u)).reached
  source_at env u None h = tt
  source_at env u (Some (Variable v)) h = tt
  source_at env u (Some (Part b steps w position)) h = tt
  source_at env u (Some (Object b steps)) h = tt
  source_at env u (Some (Result (OfVariable v))) h = tt
  source_at env u (Some (Result (OfValue runs lines))) h = tt
  source_at env u (Some (Result (OfRecord w runs lines))) h = h

  -- What names begin with --------------------------------------------------------------------------

  -- the value of a record that a function gives
  record GivesRecord (env : W.Frames) (x : Expr) (s : Ty) : Type 0 where
    type : ℕ
    runs : List RecordType → Bool
    lines : List Kind → List Line
    is : s ≡ TyOf.Record type
    start : given (value_code x) ≡ OfRecord type runs lines
    begun : runs records ≡ true → IsBegun code env (OfRecord type runs lines)

  -- or any other one
  abbrev IsStart : W.Frames → Expr → Ty → Type 0
  IsStart env x s = (is_result (value_code x).reached ≡ false) ⊎ GivesRecord env x s

  plain_as : {env : W.Frames} {s : Ty} (x : Expr) (y : ValueCode) → value_code x ≡ y → is_result y.reached ≡ false → IsStart env x s
  plain_as x y same plain = inl (ap (λ (z : ValueCode). is_result z.reached) same ∙ plain)

  -- which is one of each access type that designates the same type
  start_as : (env : W.Frames) (x : Expr) (a b : ℕ) → IsStart env x (TyOf.Access a) → IsStart env x (TyOf.Access b)
  start_as env x a b (inl h) = inl h
  start_as env x a b (inr h) = absurd (let e = h.is in cc)

  -- a value that is read begins no name
  plain_read : (o : Option Reached) (t : Ty) → is_result (read o t).reached ≡ false
  plain_read None t = refl
  plain_read (Some (Variable v)) t = refl
  plain_read (Some (Part b steps u position)) t = refl
  plain_read (Some (Object b steps)) t = refl
  plain_read (Some (Result b)) t = refl

  -- so its first step selects a component of its type
  begins_walked : {k : W.Setting} {s t : Ty} {ss : List Step} (w : ℕ) (runs : List RecordType → Bool) (lines : List Kind → List Line) → J.Walks k s ss t → s ≡ TyOf.Record w → BeginsAt (OfRecord w runs lines) ss
  begins_walked w runs lines J.arrived is = tt
  begins_walked w runs lines (J.further (J.component {t = u} has at) more) is = let same : u ≡ w = cc is in same
  begins_walked w runs lines (J.further (J.dereference found) more) is = tt
  begins_walked w runs lines (J.further (J.narrow descends) more) is = tt

  given_found : {k : W.Setting} {env : W.Frames} {s t : Ty} {ss : List Step} (x : Expr) → IsStart env x s → ((value_code x).runs records ≡ true → Fine code env (value_code x) s) → J.Walks k s ss t → IsFound code env records (behind_steps (given (value_code x)) ss)
  given_found {k} {env} {s} {t} {ss} x (inl plain) fine walks =
      let b = OfValue (value_code x).runs (λ r. (value_code x).code (new_operand r) access_value r) in
      subst (λ z. IsFound code env records (behind_steps z ss)) (sym (access_given (value_code x) plain))
      (steps_found code env records b ss (behind_steps b ss) refl tt
      (λ y is runs stack agrees.
      let access = dereferences walks (value_dereferenced (value_code x).runs (λ r. (value_code x).code (new_operand r) access_value r) ss y is) in
      (access_usable code env (value_code x) s access (fine runs)).formed (new_operand stack) stack agrees refl))
  given_found {k} {env} {s} {t} {ss} x (inr h) fine walks =
      let b = OfRecord h.type h.runs h.lines in
      subst (λ z. IsFound code env records (behind_steps z ss)) (sym h.start)
      (steps_found code env records b ss (behind_steps b ss) refl (begins_walked h.type h.runs h.lines walks h.is) (λ y is runs. h.begun runs))

  -- Well-typed expressions ---------------------------------------------------------------------------

  module _ (k : W.Setting) (may_call : MayCall code k) (may_new : MayNew code k) where
    -- the call of a function that gives a record, where its actuals are good
    call_begun : {env : W.Frames} {f : ℕ} {is : W.Signature} {actuals : List Actual} (t : ℕ) → W.Callable k env f is → is.result ≡ Some (TyOf.Record t) → FitEach k env is.formals actuals → (actuals_run (map actual_code actuals) records ≡ true → GoodActuals code env (map actual_code actuals)) → record_runs (map actual_code actuals) t records ≡ true → IsBegun code env (OfRecord t (record_runs (map actual_code actuals) t) (record_call_code f (map actual_code actuals) t))
    call_begun {env} {f} {is} {actuals} t callable gives fits good runs s agrees =
        let e = both_true (is_plain records t) (not (goes_back (map actual_code actuals)) && actuals_run (map actual_code actuals) records) runs in
        let g = both_true (not (goes_back (map actual_code actuals))) (actuals_run (map actual_code actuals) records) e.1 in
        record_call_formed code env f (map actual_code actuals) t s agrees (may_call env f is callable).0 (may_call env f is callable).2 (has_formals code k may_call callable gives fits) (not-true (goes_back (map actual_code actuals)) g.0) (good g.1)

    call_found : {env : W.Frames} {f : ℕ} {is : W.Signature} {actuals : List Actual} (t : Ty) → W.Callable k env f is → is.result ≡ Some t → FitEach k env is.formals actuals → (actuals_run (map actual_code actuals) records ≡ true → GoodActuals code env (map actual_code actuals)) → (u : ℕ) → IsFoundAt code env records u (copied u (function_call f (map actual_code actuals) t))
    call_found {env} {f} {is} {actuals} (TyOf.Record w) callable gives fits good u = result_found env w u (record_runs (map actual_code actuals) w) (record_call_code f (map actual_code actuals) w) (call_begun w callable gives fits good) (nat_eq w u) refl
    call_found TyOf.Integer callable gives fits good u = tt
    call_found Count callable gives fits good u = tt
    call_found Boolean callable gives fits good u = tt
    call_found TyOf.Address callable gives fits good u = tt
    call_found TyOf.Handle callable gives fits good u = tt
    call_found (TyOf.Access a) callable gives fits good u = tt

    call_start : {env : W.Frames} {f : ℕ} {is : W.Signature} {actuals : List Actual} (t : Ty) → W.Callable k env f is → is.result ≡ Some t → FitEach k env is.formals actuals → (actuals_run (map actual_code actuals) records ≡ true → GoodActuals code env (map actual_code actuals)) → IsStart env (ExprOf.Call f actuals t) t
    call_start {env} {f} {is} {actuals} (TyOf.Record w) callable gives fits good =
        inr (record { type = w; runs = record_runs (map actual_code actuals) w; lines = record_call_code f (map actual_code actuals) w; is = refl; start = call_given f actuals w; begun = call_begun w callable gives fits good })
    call_start {env} {f} {is} {actuals} TyOf.Integer callable gives fits good = inl (ap (λ (z : ValueCode). is_result z.reached) (value_call f actuals TyOf.Integer))
    call_start {env} {f} {is} {actuals} Count callable gives fits good = inl (ap (λ (z : ValueCode). is_result z.reached) (value_call f actuals Count))
    call_start {env} {f} {is} {actuals} Boolean callable gives fits good = inl (ap (λ (z : ValueCode). is_result z.reached) (value_call f actuals Boolean))
    call_start {env} {f} {is} {actuals} TyOf.Address callable gives fits good = inl (ap (λ (z : ValueCode). is_result z.reached) (value_call f actuals TyOf.Address))
    call_start {env} {f} {is} {actuals} TyOf.Handle callable gives fits good = inl (ap (λ (z : ValueCode). is_result z.reached) (value_call f actuals TyOf.Handle))
    call_start {env} {f} {is} {actuals} (TyOf.Access a) callable gives fits good = inl (ap (λ (z : ValueCode). is_result z.reached) (value_call f actuals (TyOf.Access a)))

    mutual
      pub typed_fine : {env : W.Frames} {x : Expr} {t : Ty} → Typed k env x t → (value_code x).runs records ≡ true → Fine code env (value_code x) t
      typed_fine {env} (T.constant {cell = n} {t = t} scalar cell view) runs = fine_as env _ _ t (value_constant n) (constant_fine code env n t cell)
      typed_fine {env} (T.read {x = x} {t = t} denotes) runs =
          let same = value_read x t in
          fine_as env _ _ t same (inl (read_own code env records (reached_by x) t (name_found denotes) (runs_as _ _ same runs)))
      typed_fine {env} (T.call {s = f} {is = is} {actuals = actuals} {t = t} callable gives fits) runs =
          let same = value_call f actuals t in
          let e = both_true (is_run_type t) (not (goes_back (map actual_code actuals)) && actuals_run (map actual_code actuals) records) (runs_as _ _ same runs) in
          let g = both_true (not (goes_back (map actual_code actuals))) (actuals_run (map actual_code actuals) records) e.1 in
          fine_as env _ _ t same (inl (function_own code env f (map actual_code actuals) t (run_scalar t e.0) (may_call env f is callable).0 (may_call env f is callable).2 (has_formals code k may_call callable gives fits) (not-true (goes_back (map actual_code actuals)) g.0) (actuals_good fits g.1)))
      typed_fine {env} (T.unary {o = o} {x = x} {t = t} takes h) runs =
          let same = value_unary o t x in
          let u = takes_unary o t takes in
          fine_as env _ _ t same (inl (applied_own code env (value_code x).runs o t t (value_code x) u.0 u.1 (usable_as code env (value_code x) t u.1 (typed_fine h (runs_as _ _ same runs)))))
      typed_fine {env} (T.chain {x = x} {more = more} {s = s} {t = t} h (T.behind {o = op} {x = y} {t = u} joins right rest)) runs =
          let o = roll-Operand (record { op = op; ty = u; right = y }) in
          let is : operator_of o ≡ record { op = op; ty = u; right = value_code y } = operator_roll (record { op = op; ty = u; right = y }) in
          let same = value_chain x o more ∙ ap (λ z. chain (value_code x) z (map operator_of more)) is in
          let e = both_true ((value_code x).runs records) ((value_code y).runs records && operators_run records (map operator_of more)) (runs_as _ _ same runs) in
          let f = both_true ((value_code y).runs records) (operators_run records (map operator_of more)) e.1 in
          let joined = first_joins code env op (value_code x) (value_code y) s u joins (typed_fine h e.0) (typed_fine right f.0) in
          let behind_it = operating rest f.1 (joins_scalar op s u joins) in
          fine_as env _ _ t same (inl (chain_own code env (value_code x) (record { op = op; ty = u; right = value_code y }) (map operator_of more) t (chain_plain rest (joins_plain op s u joins)) joined.1 joined.0 joined.2 behind_it))
      typed_fine {env} (T.short {form = form} {x = x} {y = y} {more = more} h g rest) runs =
          let same = value_short form x y more in
          let e = both_true ((value_code x).runs records) ((value_code y).runs records && values_run records (map value_code more)) (runs_as _ _ same runs) in
          let f = both_true ((value_code y).runs records) (values_run records (map value_code more)) e.1 in
          fine_as env _ _ Boolean same (inl (short_own code env form (value_code x) (value_code y) (map value_code more) (usable_as code env (value_code x) Boolean tt (typed_fine h e.0))
          (next_condition code env form (value_code y) (map value_code more) (usable_as code env (value_code y) Boolean tt (typed_fine g f.0)) (conditions form rest f.1))))
      typed_fine {env} (T.convert {x = x} {s = s} {t = t} number from h) runs =
          let same = value_convert t x in
          let e = both_true (is_number t) ((value_code x).runs records) (runs_as _ _ same runs) in
          let fine = typed_fine h e.1 in
          fine_as env _ _ t same (inl (applied_own code env (λ r. is_number t && (value_code x).runs r) Plus (value_type (value_code x)) t (value_code x) (value_number code env (value_code x) s (number_of s from) fine, number_of t number) (number_scalar t number) (value_usable code env (value_code x) s fine)))
      typed_fine {env} (T.as_access {x = x} {a = a} {b = b} from to same h) runs = fine_like code env (value_code x) (TyOf.Access b) (TyOf.Access a) (inr ((b, refl), (a, refl))) (typed_fine h runs)
      typed_fine {env} (T.access {v = v} {t = t} {a = a} names found designates) runs = fine_as env _ _ (TyOf.Access a) (value_access v) (designating_fine code env v (TyOf.Access a) (W.Declared (TyOf.Record t), names))
      typed_fine {env} (T.allocate {a = a} {t = t} {handle = handle} {value = x} to designates view h g) runs =
          let same = value_new a t handle x in
          fine_as env _ _ (TyOf.Access a) same (allocated_fine env a t (option_map value_code handle) x (may_new env a t to designates) (copy_found g) (perhaps_usable g) (runs_as _ _ same runs))
      typed_fine {env} (T.subpool {which = which} {x = x} covers denotes rooted) runs = absurd (not_missing _ (value_subpool which x) runs)
      typed_fine {env} (T.discriminant {x = x} {i = i} denotes rooted has) runs =
          let same = value_discriminant x i in
          fine_as env _ _ Count same (inl (discriminant_own code env records (reached_by x) i (name_found denotes) (runs_as _ _ same runs)))

      -- the code of what a name begins with is well formed, where it is run
      pub name_found : {env : W.Frames} {x : Name} {t : Ty} → Denotes k env x t → IsFound code env records (reached_by x)
      name_found {env} (T.variable {v = v} {h = h} {steps = ss} names stands walks) = subst (IsFound code env records) (sym (reached_variable v ss)) (steps_found code env records (OfVariable v) ss (behind_steps (OfVariable v) ss) refl tt (λ y is runs. (h, names)))
      name_found {env} (T.value {x = x} {steps = ss} typed walks) = subst (IsFound code env records) (sym (reached_given x ss)) (given_found x (start_typed typed) (typed_fine typed) walks)

      -- what a name begins with, if it begins with this
      start_typed : {env : W.Frames} {x : Expr} {t : Ty} → Typed k env x t → IsStart env x t
      start_typed (T.constant {cell = n} scalar cell view) = plain_as _ _ (value_constant n) refl
      start_typed (T.read {x = x} {t = t} denotes) = plain_as _ _ (value_read x t) (plain_read (reached_by x) t)
      start_typed (T.call {t = t} callable gives fits) = call_start t callable gives fits (λ runs. actuals_good fits runs)
      start_typed (T.unary {o = o} {x = x} {t = t} takes h) = plain_as _ _ (value_unary o t x) refl
      start_typed (T.chain {x = x} {o = o} {more = more} h chains) = plain_as _ _ (value_chain x o more) refl
      start_typed (T.short {form = form} {x = x} {y = y} {more = more} h g rest) = plain_as _ _ (value_short form x y more) refl
      start_typed (T.convert {x = x} {t = t} number from h) = plain_as _ _ (value_convert t x) refl
      start_typed {env} (T.as_access {x = x} {a = a} {b = b} from to same h) = start_as env x a b (start_typed h)
      start_typed (T.access {v = v} names found designates) = plain_as _ _ (value_access v) refl
      start_typed (T.allocate {a = a} {t = t} {handle = handle} {value = x} to designates view h g) = inl (ap is_result (new_reached a t handle x))
      start_typed (T.subpool {which = which} {x = x} covers denotes rooted) = plain_as _ _ (value_subpool which x) refl
      start_typed (T.discriminant {x = x} {i = i} denotes rooted has) = plain_as _ _ (value_discriminant x i) refl

      operating : {env : W.Frames} {s t : Ty} {os : List Operand} → Chains k env s os t → operators_run records (map operator_of os) ≡ true → Valid.IsScalar s → Operating code env (map operator_of os) s t
      operating {env} (T.ended {t = t}) runs scalar = none_operating code env t scalar
      operating {env} (T.behind {o = op} {x = y} {more = more} {s = s} {t = u} {u = t} joins right rest) runs scalar =
          let o = roll-Operand (record { op = op; ty = u; right = y }) in
          let is : operator_of o ≡ record { op = op; ty = u; right = value_code y } = operator_roll (record { op = op; ty = u; right = y }) in
          let e = both_true ((operator_of o).right.runs records) (operators_run records (map operator_of more)) runs in
          let y_runs = sym (ap (λ (z : OperatorCode). z.right.runs records) is) ∙ e.0 in
          subst (λ z. Operating code env (z ∷ map operator_of more) s t) (sym is)
          (next_operating code env (record { op = op; ty = u; right = value_code y }) (map operator_of more) s t (next_joins code env op s u joins scalar) (usable_as code env (value_code y) s scalar (typed_fine right y_runs)) (operating rest e.1 (joins_scalar op s u joins)))

      conditions : {env : W.Frames} {xs : List Expr} (form : Shortcut) → Truths k env xs → values_run records (map value_code xs) ≡ true → Conditions code env form (map value_code xs)
      conditions {env} form T.no_more_truths runs = λ s agrees. none code (KindOf.Operand Boolean ∷ s)
      conditions {env} form (T.one_more_truth {x = x} {more = more} h rest) runs =
          let e = both_true ((value_code x).runs records) (values_run records (map value_code more)) runs in
          next_condition code env form (value_code x) (map value_code more) (usable_as code env (value_code x) Boolean tt (typed_fine h e.0)) (conditions form rest e.1)

      actual_good : {env : W.Frames} {f : W.Formal} {a : Actual} → Fits k env f a → (actual_code a).runs records ≡ true → GoodActual code env (actual_code a)
      actual_good {env} (T.by_value {x = x} {s = s} {t = t} covers value typed) = good_as code env records _ _ (actual_value x t) (value_good code env records (value_code x) k t s covers (λ runs. typed_fine typed runs) (λ u. value_copied typed u))
      actual_good {env} (T.by_reference {x = x} {t = t} from to denotes) = good_as code env records _ _ (actual_part x t) (reference_good code env records (reached_by x) t (name_found denotes))
      actual_good {env} (T.by_copy {x = x} {p = p} {t = t} written scalar denotes) = good_as code env records _ _ (actual_copied x t (J.copy_of p t)) (copy_good code env records (reached_by x) t (J.copy_of p t) (name_found denotes))

      pub actuals_good : {env : W.Frames} {fs : List W.Formal} {actuals : List Actual} → FitEach k env fs actuals → actuals_run (map actual_code actuals) records ≡ true → GoodActuals code env (map actual_code actuals)
      actuals_good T.no_more_formals runs = tt
      actuals_good (T.one_more_formal {a = a} {more = more} fits rest) runs =
          let e = both_true ((actual_code a).runs records) (actuals_run (map actual_code more) records) runs in
          (actual_good fits e.0, actuals_good rest e.1)

      -- what is copied of an expression
      value_copied : {env : W.Frames} {x : Expr} {t : Ty} → Typed k env x t → (u : ℕ) → IsFoundAt code env records u (copied u (value_code x))
      value_copied {env} (T.constant {cell = n} scalar cell view) u = unreached env u _ _ (value_constant n) refl
      value_copied {env} (T.read {x = x} {t = t} denotes) u =
          subst (λ (z : ValueCode). IsFoundAt code env records u (copied u z)) (sym (value_read x t))
          (found_if env u (read (reached_by x) t).reached (is_of u (read (reached_by x) t).own) (read_found env u (reached_by x) t (name_found denotes)))
      value_copied {env} (T.call {s = f} {actuals = actuals} {t = t} callable gives fits) u =
          subst (λ (z : ValueCode). IsFoundAt code env records u (copied u z)) (sym (value_call f actuals t)) (call_found t callable gives fits (λ runs. actuals_good fits runs) u)
      value_copied {env} (T.unary {o = o} {x = x} {t = t} takes h) u = unreached env u _ _ (value_unary o t x) refl
      value_copied {env} (T.chain {x = x} {o = o} {more = more} h chains) u = unreached env u _ _ (value_chain x o more) refl
      value_copied {env} (T.short {form = form} {x = x} {y = y} {more = more} h g rest) u = unreached env u _ _ (value_short form x y more) refl
      value_copied {env} (T.convert {x = x} {t = t} number from h) u = unreached env u _ _ (value_convert t x) refl
      value_copied (T.as_access from to same h) u = value_copied h u
      value_copied {env} (T.access {v = v} names found designates) u = unreached env u _ _ (value_access v) refl
      value_copied {env} (T.allocate {a = a} {t = t} {handle = handle} {value = x} to designates view h g) u = unreached env u (value_code (ExprOf.New a t handle x)) (value_code (ExprOf.New a t handle x)) refl (new_reached a t handle x)
      value_copied {env} (T.subpool {which = which} {x = x} covers denotes rooted) u = unreached env u _ _ (value_subpool which x) refl
      value_copied {env} (T.discriminant {x = x} {i = i} denotes rooted has) u = unreached env u _ _ (value_discriminant x i) refl

      copy_found : {env : W.Frames} {x : Option Expr} {t : Ty} → Perhaps k env x t → IsCopyFound env x
      copy_found T.left_out = tt
      copy_found (T.given h) = λ u. value_copied h u

      perhaps_usable : {env : W.Frames} {x : Option Expr} {t : Ty} → Perhaps k env x t → IsUsable env x t
      perhaps_usable T.left_out = tt
      perhaps_usable {env} (T.given {x = x} {t = t} h) = λ scalar runs. usable_as code env (value_code x) t scalar (typed_fine h runs)

    -- the part that is copied, if this version runs it
    pub copied_found : {env : W.Frames} {x : Expr} {t : Ty} (u : ℕ) → Typed k env x t → IsFoundAt code env records u (copied u (value_code x))
    copied_found u typed = value_copied typed u

    -- the source of an assignment
    pub source_found : {env : W.Frames} {f : W.Formal} {a : Actual} → Fits k env f a → (u : ℕ) → f.ty ≡ TyOf.Record u → IsFoundAt code env records u (sourced a)
    source_found {env} (T.by_value {x = x} {t = t} covers value typed) u is =
        subst (λ o. IsFoundAt code env records u o) (sym (ap (λ (z : ActualCode). z.reached) (actual_value x t)))
        (subst (λ w. IsFoundAt code env records u (by_value (value_code x) w).reached) (sym is) (source_at env u (copied u (value_code x)) (value_copied typed u)))
    source_found {env} (T.by_reference {x = x} {t = t} from to denotes) u is = subst (λ o. IsFoundAt code env records u o) (sym (part_source x t)) (found_at code env records u (reached_by x) (name_found denotes))
    source_found {env} (T.by_copy {x = x} {p = p} {t = t} written scalar denotes) u is = subst (λ o. IsFoundAt code env records u o) (sym (ap (λ (z : ActualCode). z.reached) (actual_copied x t (J.copy_of p t)) ∙ copy_reaches (reached_by x) t (J.copy_of p t))) tt
