-- The code of a call is well formed where its actuals are: each of them is a new operand, the call takes them all, and copies go back from
-- what it leaves (6.4, 6.4.1).
use Rattle.std.proofs.Common.{◌≡◌, ℕ, zero, suc, ◌+◌, ◌-◌, ◌≤◌, ◌<◌, List, [], ◌∷◌, ◌++◌, drop, length, Option, Some, None, Bool, true, false, refl, sym, ap, ◌∙◌, subst, arith, inl}
use Rattle.std.specs.Prelude.{if◌then◌else◌, slice_get, ◌&&◌}
use Rattle.ctl_program.specs.declared.types.Ty.{Ty}
use Rattle.ctl_program.specs.declared.types.Ty.TheVariants.{Integer, Count, Boolean, Address, Handle, Access, Record}
use Rattle.ctl_program.specs.declared.types.RecordType.{RecordType}
use Rattle.ctl_program.specs.declared.types.Var.{Var}
use Rattle.ctl_program.specs.declared.expression.Step.{Step}
use Rattle.ctl_program.specs.declared.operators.CopyStart.{CopyStart}
use Rattle.ctl_program.specs.declared.operators.CopyStart.TheVariants as CopyStartOf
use Rattle.ctl_program.specs.declared.operators.SubprogramKind.{SubprogramKind}
use Rattle.ctl_program.specs.declared.operators.SubprogramKind.TheVariants.{Procedure, Function}
use Rattle.ctl_well_typed.specs.Setting as W
use Rattle.ctl_well_typed.specs.Types.{Covers}
use Rattle.ctl_well_typed.specs.Types as J
use Rattle.ctl_code.specs.declared.kinds.Kind.{Kind}
use Rattle.ctl_code.specs.declared.kinds.Kind.TheVariants.{Operand, RecordValue, Block, Body, Default}
use Rattle.ctl_code.specs.declared.code.Instr.{Instr}
use Rattle.ctl_code.specs.declared.code.Instr.TheVariants as InstrOf
use Rattle.ctl_code.specs.declared.code.Code.{Code}
use Rattle.ctl_code.specs.declared.homes.Declaration.{Declaration}
use Rattle.ctl_code.specs.declared.homes.Declaration.TheVariants as DeclarationOf
use Rattle.ctl_code.specs.Windows.{Counts, HasHome, depth, height}
use Rattle.ctl_code.specs.Valid as Valid
use Rattle.ctl_code.specs.Valid.{HasFormals, HaveNumbers, HaveOperands, IsCalled, IsCellOf, IsFine, IsInScope, Leads, over_numbers}
use Rattle.ctl_code.proofs.Numbered.{below_over, have_over, numbers_end}
use Rattle.ctl_layout.specs.Around.{new_operand, out_to}
use Rattle.ctl_layout.specs.Parts.{OfRecord, OfValue, OfVariable, Reached, Object, Part, Result, Start, Variable, any_type, first_position, located_code, part_runs, parts_run}
use Rattle.ctl_layout.specs.Records.{is_run_type}
use Rattle.ctl_layout.specs.Layout.{calls_code}
use Rattle.ctl_layout.specs.declared.copies.Back.{Back}
use Rattle.ctl_layout.specs.declared.copies.Back.TheVariants as BackOf
use Rattle.ctl_layout.specs.Values.{ActualCode, ValueCode, actuals_code, numbers_in, numbers_of, reserved_code, keeping_code, kept_code, back_to, backs_code, begins_code, by_copy, by_reference, by_value, copied_back, copies_code, copies_of, evaluates_code, function_call, goes_back, moved_to, copied, read, record_call_code, result_of, with_actuals}
use Rattle.ctl_layout.proofs.Extensions.{both_true}
use Rattle.ctl_emitter.specs.Emitted.{taking_actuals}
use Rattle.ctl_emitter.proofs.EmittedCalls.{actuals_left, height_over, none_kept}
use Rattle.ctl_gen.proofs.Formed.{Behind, Formed, both, none, one}
use Rattle.ctl_gen.proofs.FormedAround.{Granted, IsNamed, granted_home, Surrounds, surrounds_over}
use Rattle.ctl_gen.proofs.FormedParts.{Follows, IsBegun, IsFound, IsFoundAt, located_formed, part_formed}
use Rattle.ctl_emitter.proofs.Walked.{part_begun}
use Rattle.ctl_gen.proofs.FormedTypes.{run_scalar}
use Rattle.ctl_gen.proofs.FormedValues.{Fine, IsMade, Own, Usable, moved_formed, own_as, puts, read_own, usable_as, with_put}

-- What stands there with the actuals --------------------------------------------------------------

-- they are operands, over so many others
operands_stand : (m : ℕ) (actuals : List ActualCode) (s : List Kind) → HaveOperands m s → HaveOperands (length actuals + m) (with_actuals actuals s)
operands_stand m [] s h = let same : m ≡ 0 + m = omega arith in subst (λ n. HaveOperands n s) same h
operands_stand m (a ∷ more) s h =
    let same : length more + suc m ≡ length (a ∷ more) + m = omega arith in
    subst (λ n. HaveOperands n (with_actuals more (Operand a.ty ∷ s))) same (operands_stand (suc m) more (Operand a.ty ∷ s) h)

actuals_stand : (actuals : List ActualCode) (s : List Kind) → HaveOperands (length actuals) (with_actuals actuals s)
actuals_stand actuals s =
    let same : length actuals + 0 ≡ length actuals = omega arith in
    subst (λ n. HaveOperands n (with_actuals actuals s)) same (operands_stand 0 actuals s tt)

-- and no master
as_deep : (actuals : List ActualCode) (s : List Kind) → depth (with_actuals actuals s) ≡ depth s
as_deep [] s = refl
as_deep (a ∷ more) s = as_deep more (Operand a.ty ∷ s)

-- so the masters around a declaration that stand below them stand there
home_under : (counts : Counts) (actuals : List ActualCode) (s : List Kind) (of : Declaration) → HasHome counts s of → HasHome counts (with_actuals actuals s) of
home_under counts [] s of h = h
home_under counts (a ∷ more) s of h = home_under counts more (Operand a.ty ∷ s) of h

-- What stands there with copies -------------------------------------------------------------------

-- some numbers, and then others
over_both : (i n : ℕ) (s : List Kind) → over_numbers (i + n) s ≡ over_numbers n (over_numbers i s)
over_both zero n s = let same : 0 + n ≡ n = omega arith in ap (λ m. over_numbers m s) same
over_both (suc i) n s = let same : suc i + n ≡ suc (i + n) = omega arith in ap (λ m. over_numbers m s) same ∙ over_both i n (Operand Integer ∷ s)

-- each of them is one
number_in : (n j : ℕ) (s : List Kind) → j < n → slice_get (over_numbers n s) j ≡ Some (Operand Integer)
number_in zero j s lt = absurd (omega (arith, lt))
number_in (suc n) zero s lt = ap (λ xs. slice_get xs 0) (numbers_end n s)
number_in (suc n) (suc j) s lt = ap (λ xs. slice_get xs (suc j)) (numbers_end n s) ∙ number_in n j s (omega (arith, lt))

-- and an operand, over so many others
operands_over : (n m : ℕ) (s : List Kind) → HaveOperands m s → HaveOperands (n + m) (over_numbers n s)
operands_over zero m s h = let same : m ≡ 0 + m = omega arith in subst (λ k. HaveOperands k s) same h
operands_over (suc n) m s h =
    let same : n + suc m ≡ suc n + m = omega arith in
    subst (λ k. HaveOperands k (over_numbers n (Operand Integer ∷ s))) same (operands_over n (suc m) (Operand Integer ∷ s) h)

fewer_operands : (n m : ℕ) (s : List Kind) → n ≤ m → HaveOperands m s → HaveOperands n s
fewer_operands zero m s few h = tt
fewer_operands (suc n) zero s few h = absurd (omega (arith, few))
fewer_operands (suc n) (suc m) (Operand t ∷ s) few h = fewer_operands n m s (omega (arith, few)) h
fewer_operands (suc n) (suc m) [] few h = absurd h
fewer_operands (suc n) (suc m) (RecordValue ∷ s) few h = absurd h
fewer_operands (suc n) (suc m) (Block slots ∷ s) few h = absurd h
fewer_operands (suc n) (suc m) (Body level slots number ∷ s) few h = absurd h
fewer_operands (suc n) (suc m) (Default level number ∷ s) few h = absurd h

-- an operand is a cell
height_below : (n : ℕ) (s : List Kind) → HaveOperands n s → height (drop n s) ≡ height s - n
height_below zero s h = omega arith
height_below (suc n) (Operand t ∷ s) h = let e = height_below n s h in omega (arith, e)
height_below (suc n) [] h = absurd h
height_below (suc n) (RecordValue ∷ s) h = absurd h
height_below (suc n) (Block slots ∷ s) h = absurd h
height_below (suc n) (Body level slots number ∷ s) h = absurd h
height_below (suc n) (Default level number ∷ s) h = absurd h

-- What keeps parts --------------------------------------------------------------------------------

-- under so many operands there stand so many numbers
abbrev pub Reserved : ℕ → ℕ → List Kind → Type 0
Reserved over n s = HaveOperands (over + n) s × ((j : ℕ) → j < n → slice_get s (over + j) ≡ Some (Operand Integer))

-- they stand on top before the first actual
reserved_first : (n : ℕ) (s : List Kind) → Reserved 0 n (over_numbers n s)
reserved_first n s =
    let none_over : n + 0 ≡ 0 + n = omega arith in
    (subst (λ k. HaveOperands k (over_numbers n s)) none_over (operands_over n 0 s tt), λ j lt. let same : 0 + j ≡ j = omega arith in ap (slice_get (over_numbers n s)) same ∙ number_in n j s lt)

-- there are none where no copy goes back
reserved_none : (actuals : List ActualCode) (s : List Kind) → goes_back actuals ≡ false → Reserved 0 (numbers_in actuals) s
reserved_none actuals s none =
    let e = none_kept actuals none in
    let nothing : 0 ≡ 0 + numbers_in actuals = omega (arith, e) in
    (subst (λ n. HaveOperands n s) nothing tt, λ j lt. absurd (omega (arith, lt, e)))

-- the first of them are those of an actual, whose operand stands over the others then
reserved_next : (over n m : ℕ) (t : Ty) (s : List Kind) → Reserved over (n + m) s → Reserved (over + (1 + n)) m (Operand t ∷ s)
reserved_next over n m t s h =
    let same : suc (over + (n + m)) ≡ over + (1 + n) + m = omega arith in (
      subst (λ k. HaveOperands k (Operand t ∷ s)) same h.0,
      λ j lt. let e : over + (1 + n) + j ≡ suc (over + (n + j)) = omega arith in ap (slice_get (Operand t ∷ s)) e ∙ h.1 (n + j) (omega (arith, lt)),
    )

-- no more go back than there are actuals
no_more_back : (actuals : List ActualCode) → copies_of actuals ≤ length actuals
no_more_back actuals = by (goes_back actuals)
  where
    by : (b : Bool) → (if b then length actuals else 0) ≤ length actuals
    by true = omega arith
    by false = omega arith

-- a copy may begin with 0
begins_cell : (t : Ty) → Valid.IsScalar t → IsCellOf t 0
begins_cell Integer scalar = tt
begins_cell Count scalar = tt
begins_cell Boolean scalar = omega arith
begins_cell Address scalar = tt
begins_cell Handle scalar = tt
begins_cell (Access a) scalar = tt
begins_cell (Record t) scalar = absurd scalar

-- inside these masters
module _ (code : Code) (env : W.Frames) where
  -- a copy goes back to a variable that is named there, or to a component of a part, if it does
  abbrev pub IsBack : Option Back → Type 0
  IsBack None = Unit {0}
  IsBack (Some (BackOf.Variable v)) = IsNamed env v
  IsBack (Some (BackOf.Part t position)) = Unit {0}

  -- an actual is a new operand of its type, over the numbers that keep where its copy goes back to
  abbrev pub GoodActual : ActualCode → Type 0
  GoodActual a = ((over m : ℕ) (s : List Kind) → Surrounds code env s → Reserved over (numbers_of a.back + m) s → Formed code (a.code over s) s (Some (Operand a.ty ∷ s))) × IsBack a.back

  abbrev pub GoodActuals : List ActualCode → Type 0
  GoodActuals [] = Unit {0}
  GoodActuals (a ∷ more) = GoodActual a × GoodActuals more

  -- Copies that go back ------------------------------------------------------------------------------

  -- one of so many numbers, of which so many stand below it, is the last of those above them
  back_at : (i from n : ℕ) (s : List Kind) → i + from ≡ n → HaveNumbers from (over_numbers n s) × (height s + i ≡ height (drop from (over_numbers n s)))
  back_at i from n s all =
      let same : over_numbers n s ≡ over_numbers from (over_numbers i s) = ap (λ m. over_numbers m s) (sym all) ∙ over_both i from s in
      (subst (HaveNumbers from) (sym same) (have_over from (over_numbers i s)), sym (ap height (ap (drop from) same ∙ below_over from (over_numbers i s)) ∙ height_over i s))

  -- to where this says, from the number that stands over the first `i` of all; what keeps a part stands over the first `j`
  back_formed : (o : Option Back) (i from below j n : ℕ) (s : List Kind) → Surrounds code env s → IsBack o → 1 ≤ from → i + from ≡ n → j + (below + numbers_of o) ≡ n → Formed code (back_to o from (height s + i) below (over_numbers n s)) (over_numbers n s) (Some (over_numbers n s))
  back_formed None i from below j n s agrees named some all kept = none code (over_numbers n s)
  back_formed (Some (BackOf.Variable v)) i from below j n s agrees named some all kept =
      let top = over_numbers n s in
      let at = back_at i from n s all in
      one code (InstrOf.CopyBack from (height s + i) (out_to top v) v.slot) top (Some top) (λ p next. (some, at.0, at.1, next, (surrounds_over code n env s agrees).1 v named.0 named.1))
  back_formed (Some (BackOf.Part t position)) i from below j n s agrees named some all kept =
      let top = over_numbers n s in
      let at = back_at i from n s all in
      let keeps = back_at j (below + 2) n s kept in
      let high = height_over n s in
      let cell : height top - (below + 2) ≡ height s + j = omega (arith, high, kept) in
      one code (InstrOf.CopyBackPart from (height s + i) (below + 2) (height top - (below + 2)) t position) top (Some top) (λ p next. (some, (at.0, at.1), omega arith, (keeps.0, cell ∙ keeps.1), next))

  -- those that are left, over the first `i` of all
  backs_formed : (actuals : List ActualCode) (i below n : ℕ) (s : List Kind) → Surrounds code env s → GoodActuals actuals → i + length actuals ≡ n → below + numbers_in actuals ≡ n → Formed code (backs_code actuals (height s + i) below (over_numbers n s)) (over_numbers n s) (Some (over_numbers n s))
  backs_formed [] i below n s agrees good all kept = none code (over_numbers n s)
  backs_formed (a ∷ more) i below n s agrees good all kept =
      let top = over_numbers n s in
      let from = length more + 1 in
      let under = below + numbers_of a.back in
      let whole : i + from ≡ n = omega (arith, all) in
      let further : i + 1 + length more ≡ n = omega (arith, all) in
      let keeps : numbers_in more + under ≡ n = omega (arith, kept) in
      let others : under + numbers_in more ≡ n = omega (arith, kept) in
      let next : height s + (i + 1) ≡ height s + i + 1 = omega arith in
      both code (back_to a.back from (height s + i) below top) (backs_code more (height s + i + 1) under top) top top (Some top)
      (back_formed a.back i from below (numbers_in more) n s agrees good.0.1 (omega arith) whole keeps)
      (subst (λ at. Formed code (backs_code more at under top) top (Some top)) next (backs_formed more (i + 1) under n s agrees good.1 further others))

  -- all of them, and then they are dropped
  copied_back_formed : (actuals : List ActualCode) (s : List Kind) → Surrounds code env s → GoodActuals actuals → Formed code (copied_back actuals (numbers_in actuals + length actuals) s) (over_numbers (numbers_in actuals + length actuals) s) (Some s)
  copied_back_formed actuals s agrees good =
      let n = numbers_in actuals + length actuals in
      let top = over_numbers n s in
      both code (backs_code actuals (height s + numbers_in actuals) (length actuals) top) ((InstrOf.Discard n, top) ∷ []) top top (Some s)
      (backs_formed actuals (numbers_in actuals) (length actuals) n s agrees good refl (omega arith))
      (one code (InstrOf.Discard n) top (Some s) (λ p next. (have_over n s, subst (Leads code (p + 1)) (sym (below_over n s)) next)))

  copies_formed : (actuals : List ActualCode) (s : List Kind) → Surrounds code env s → GoodActuals actuals → Formed code (copies_code actuals s) (over_numbers (copies_of actuals) (over_numbers (numbers_in actuals) s)) (Some s)
  copies_formed actuals s agrees good = by (goes_back actuals) refl
    where
      by : (b : Bool) → goes_back actuals ≡ b → Formed code (if b then copied_back actuals (numbers_in actuals + length actuals) s else []) (over_numbers (if b then length actuals else 0) (over_numbers (numbers_in actuals) s)) (Some s)
      by true is = subst (λ r. Formed code (copied_back actuals (numbers_in actuals + length actuals) s) r (Some s)) (over_both (numbers_in actuals) (length actuals) s) (copied_back_formed actuals s agrees good)
      by false is = subst (λ m. Formed code [] (over_numbers m s) (Some s)) (sym (none_kept actuals is)) (none code s)

-- Subprograms that are called ---------------------------------------------------------------------

-- one with a result is a function, and one without a procedure (6.1)
abbrev pub kind_by : Option Ty → SubprogramKind
kind_by None = Procedure
kind_by (Some t) = Function

-- each subprogram that can be called in these masters is declared in them, with slots for its formals
abbrev pub MayCall : Code → W.Setting → Type 0
MayCall code k = (env : W.Frames) (f : ℕ) (is : W.Signature) → W.Callable k env f is → IsInScope code (length env) (Some f) × HasFormals code (kind_by is.result) f (length is.formals) × Granted code env (DeclarationOf.Subprogram f)

-- levels count from 1
pub named_level : {env : W.Frames} {v : Var} {h : W.Holding} → W.Names env v h → 1 ≤ v.level
named_level (W.slot found there) = omega arith

-- objects of the type that an access type in view designates can be made for its collection
abbrev pub MayNew : Code → W.Setting → Type 0
MayNew code k = (env : W.Frames) (a : ℕ) (t : Ty) → (to : W.HasAccess k env a) → to.is.designated ≡ t → IsMade code env a t

-- inside these masters
module _ (code : Code) (env : W.Frames) where
  -- Calls ------------------------------------------------------------------------------------------

  actuals_formed : (over : ℕ) (actuals : List ActualCode) (s : List Kind) → Surrounds code env s → Reserved over (numbers_in actuals) s → GoodActuals code env actuals → Formed code (actuals_code over actuals s) s (Some (with_actuals actuals s))
  actuals_formed over [] s agrees reserved good = none code s
  actuals_formed over (a ∷ more) s agrees reserved good =
      let top = Operand a.ty ∷ s in
      let further = over + (1 + numbers_of a.back) in
      both code (a.code over s) (actuals_code further more top) s top (Some (with_actuals more top)) (good.0.0 over (numbers_in more) s agrees reserved)
      (actuals_formed further more top agrees (reserved_next over (numbers_of a.back) (numbers_in more) a.ty s reserved) good.1)

  -- actuals, and an instruction that takes them all
  taking_formed : (i : Instr) (actuals : List ActualCode) (s : List Kind) (after : Option (List Kind)) → Surrounds code env s → Reserved 0 (numbers_in actuals) s → GoodActuals code env actuals → ((p : ℕ) → Behind code (p + 1) after → IsFine code p i (with_actuals actuals s)) → Formed code (taking_actuals i actuals s) s after
  taking_formed i actuals s after agrees reserved good fine =
      let top = with_actuals actuals s in
      both code (actuals_code 0 actuals s) ((i, top) ∷ []) s top after (actuals_formed 0 actuals s agrees reserved good) (one code i top after fine)

  -- they are those of a call
  called : (kind : SubprogramKind) (f : ℕ) (actuals : List ActualCode) (s : List Kind) → Surrounds code env s → IsInScope code (length env) (Some f) → Granted code env (DeclarationOf.Subprogram f) → HasFormals code kind f (length actuals) → IsCalled code kind f (length actuals) (with_actuals actuals s)
  called kind f actuals s agrees scope granted formals =
      (subst (λ n. IsInScope code n (Some f)) (sym (as_deep actuals s ∙ agrees.0)) scope, formals, actuals_stand actuals s, home_under code.homes actuals s (DeclarationOf.Subprogram f) (granted_home code env s (DeclarationOf.Subprogram f) agrees granted))

  -- what keeps parts stands below them
  reserved_formed : (n : ℕ) (s : List Kind) → Formed code (reserved_code n s) s (Some (over_numbers n s))
  reserved_formed zero s = none code s
  reserved_formed (suc n) s = one code (InstrOf.Reserve (suc n) (height s)) s (Some (over_numbers (suc n) s)) (λ p next. (refl, next))

  pub call_formed : (f : ℕ) (actuals : List ActualCode) (s : List Kind) → Surrounds code env s → IsInScope code (length env) (Some f) → Granted code env (DeclarationOf.Subprogram f) → HasFormals code Procedure f (length actuals) → GoodActuals code env actuals → Formed code (calls_code f actuals s) s (Some s)
  call_formed f actuals s agrees scope granted formals good =
      let n = numbers_in actuals in
      let copies = copies_of actuals in
      let i = InstrOf.Call f (length actuals) copies in
      let base = over_numbers n s in
      let top = over_numbers copies base in
      let over = surrounds_over code n env s agrees in
      both code (reserved_code n s ++ taking_actuals i actuals base) (copies_code actuals s) s top (Some s)
      (both code (reserved_code n s) (taking_actuals i actuals base) s base (Some top) (reserved_formed n s)
      (taking_formed i actuals base (Some top) over (reserved_first n s) good
      (λ p next. (called Procedure f actuals base over scope granted formals, no_more_back actuals, subst (λ r. Leads code (p + 1) (over_numbers copies r)) (sym (actuals_left actuals base)) next))))
      (copies_formed code env actuals s agrees good)

  -- the value of a function
  pub function_own : (f : ℕ) (actuals : List ActualCode) (ty : Ty) → Valid.IsScalar ty → IsInScope code (length env) (Some f) → Granted code env (DeclarationOf.Subprogram f) → HasFormals code Function f (length actuals) → goes_back actuals ≡ false → GoodActuals code env actuals → Own code env (function_call f actuals ty) ty
  function_own f actuals ty scalar scope granted formals none_back good =
      own_as code env (function_call f actuals ty) ty refl scalar
      (λ u of_scalar. record {
        scalar = of_scalar;
        formed = λ to s agrees at.
            let top = Operand u ∷ s in
            let left = sym (actuals_left actuals s) in
            both code (evaluates_code f actuals u s) (moved_to to u s) s top (Some (with_put to.named u s))
            (taking_formed (InstrOf.Evaluate f (length actuals) u (height s)) actuals s (Some top) agrees (reserved_none actuals s none_back) good
            (λ p next. (of_scalar, called Function f actuals s agrees scope granted formals, ap height left, subst (λ r. Leads code (p + 1) (Operand u ∷ r)) left next)))
            (moved_formed code to u s of_scalar at);
        constant = λ n is. absurd (cc);
      })

  -- that of one that gives a record
  pub record_call_formed : (f : ℕ) (actuals : List ActualCode) (t : ℕ) (s : List Kind) → Surrounds code env s → IsInScope code (length env) (Some f) → Granted code env (DeclarationOf.Subprogram f) → HasFormals code Function f (length actuals) → goes_back actuals ≡ false → GoodActuals code env actuals → Formed code (record_call_code f actuals t s) s (Some (Operand (Record t) ∷ s))
  record_call_formed f actuals t s agrees scope granted formals none_back good =
      let left = sym (actuals_left actuals s) in
      taking_formed (InstrOf.EvaluateRecord f (length actuals) t (height s)) actuals s (Some (Operand (Record t) ∷ s)) agrees (reserved_none actuals s none_back) good
      (λ p next. (called Function f actuals s agrees scope granted formals, ap height left, subst (λ r. Leads code (p + 1) (Operand (Record t) ∷ r)) left next))

  -- Actuals ----------------------------------------------------------------------------------------

  module _ (records : List RecordType) where
    -- a value of a scalar type
    scalar_used : (x : ValueCode) (k : W.Setting) (t s : Ty) → Covers k t s → (x.runs records ≡ true → Fine code env x s) → (is_run_type t && x.runs records) ≡ true → Usable code env x t
    scalar_used x k t s J.same_type fine runs =
        let e = both_true (is_run_type t) (x.runs records) runs in
        usable_as code env x t (run_scalar t e.0) (fine e.1)
    scalar_used x k t s (J.ancestor descends) fine runs = absurd (cc)

    -- or that of a record, which a function gives
    result_good : (o : Option Reached) (t : ℕ) → IsFoundAt code env records t o → (by_reference (result_of o) (Record t)).runs records ≡ true → GoodActual code env (by_reference (result_of o) (Record t))
    result_good None t found runs = absurd (cc)
    result_good (Some (Variable v)) t found runs = absurd (cc)
    result_good (Some (Part b steps u position)) t found runs = absurd (cc)
    result_good (Some (Object b steps)) t found runs = absurd (cc)
    result_good (Some (Result (OfVariable v))) t found runs = absurd (cc)
    result_good (Some (Result (OfValue started lines))) t found runs = absurd (cc)
    result_good (Some (Result (OfRecord u started lines))) t found runs =
        (λ over m s agrees reserved. part_formed code env (Result (OfRecord u started lines)) t s agrees found.0 (found.1 (part_begun records (Result (OfRecord u started lines)) runs)), tt)

    pub value_good : (x : ValueCode) (k : W.Setting) (t s : Ty) → Covers k t s → (x.runs records ≡ true → Fine code env x s) → ((u : ℕ) → IsFoundAt code env records u (copied u x)) → (by_value x t).runs records ≡ true → GoodActual code env (by_value x t)
    value_good x k (Record u) s covers fine found runs = result_good (copied u x) u (found u) runs
    value_good x k Integer s covers fine found runs = let u = scalar_used x k Integer s covers fine runs in (λ over m stack agrees reserved. u.formed (new_operand stack) stack agrees refl, tt)
    value_good x k Count s covers fine found runs = let u = scalar_used x k Count s covers fine runs in (λ over m stack agrees reserved. u.formed (new_operand stack) stack agrees refl, tt)
    value_good x k Boolean s covers fine found runs = let u = scalar_used x k Boolean s covers fine runs in (λ over m stack agrees reserved. u.formed (new_operand stack) stack agrees refl, tt)
    value_good x k Address s covers fine found runs = let u = scalar_used x k Address s covers fine runs in (λ over m stack agrees reserved. u.formed (new_operand stack) stack agrees refl, tt)
    value_good x k Handle s covers fine found runs = let u = scalar_used x k Handle s covers fine runs in (λ over m stack agrees reserved. u.formed (new_operand stack) stack agrees refl, tt)
    value_good x k (Access a) s covers fine found runs = let u = scalar_used x k (Access a) s covers fine runs in (λ over m stack agrees reserved. u.formed (new_operand stack) stack agrees refl, tt)

    pub reference_good : (o : Option Reached) (t : Ty) → IsFound code env records o → (by_reference o t).runs records ≡ true → GoodActual code env (by_reference o t)
    reference_good None t found runs = absurd (cc)
    reference_good (Some o) (Record t) found runs = (λ over m s agrees reserved. part_formed code env o t s agrees (found.0 t) (found.1 (part_begun records o runs)), tt)
    reference_good (Some o) Integer found runs = absurd (cc)
    reference_good (Some o) Count found runs = absurd (cc)
    reference_good (Some o) Boolean found runs = absurd (cc)
    reference_good (Some o) Address found runs = absurd (cc)
    reference_good (Some o) Handle found runs = absurd (cc)
    reference_good (Some o) (Access a) found runs = absurd (cc)

    -- what a copy of a variable begins with
    begins_good : (begins : CopyStart) (v : Var) (t : Ty) → IsNamed env v → (read (Some (Variable v)) t).runs records ≡ true → (s : List Kind) → Surrounds code env s → Formed code (begins_code begins v t s) s (Some (Operand t ∷ s))
    begins_good CopyStartOf.Actual v t named runs s agrees = ((read_own code env records (Some (Variable v)) t ((λ u. (refl, tt)), λ h. named) runs).usable t (inl refl)).formed (new_operand s) s agrees refl
    begins_good CopyStartOf.Beginning v t named runs s agrees = one code (InstrOf.Set 0 t (new_operand s)) s (Some (Operand t ∷ s)) (λ p next. (begins_cell t (run_scalar t runs), puts code p (new_operand s) t s refl next))

    -- a part is kept, and what the copy of its component begins with takes its place
    keeping_good : (t position : ℕ) (begins : CopyStart) (ty : Ty) (over m : ℕ) (s : List Kind) → Valid.IsScalar ty → Reserved over (2 + m) s → Formed code (keeping_code t position begins ty over s) (Operand (Record t) ∷ s) (Some (Operand ty ∷ s))
    keeping_good t position begins ty over m s scalar h =
        let top = Operand (Record t) ∷ s in
        let have : HaveOperands (over + 2) s = fewer_operands (over + 2) (over + (2 + m)) s (omega arith) h.0 in
        let deep : suc (over + 2) ≡ over + 3 = omega arith in
        let first : over + 3 - 2 ≡ suc (over + 0) = omega arith in
        let second : over + 3 - 1 ≡ suc (over + 1) = omega arith in
        one code (InstrOf.KeepPart t position begins ty (over + 3) (height s - (over + 2)) (height s)) top (Some (Operand ty ∷ s))
        (λ p next. (scalar, (omega arith, subst (λ n. HaveOperands n top) deep have, ap (slice_get top) first ∙ h.1 0 (omega arith), ap (slice_get top) second ∙ h.1 1 (omega arith), sym (ap (λ n. height (drop n top)) (sym deep) ∙ height_below (over + 2) s have)), (s, refl, (refl, next))))

    kept_good : (b : Start) (steps : List Step) (t position : ℕ) (begins : CopyStart) (ty : Ty) (over m : ℕ) (s : List Kind) → Valid.IsScalar ty → Follows b steps t → IsBegun code env b → Surrounds code env s → Reserved over (2 + m) s → Formed code (kept_code b steps t position begins ty over s) s (Some (Operand ty ∷ s))
    kept_good b steps t position begins ty over m s scalar followed begun agrees h =
        both code (located_code b steps t s) (keeping_code t position begins ty over s) s (Operand (Record t) ∷ s) (Some (Operand ty ∷ s))
        (located_formed code env b steps t s agrees followed begun)
        (keeping_good t position begins ty over m s scalar h)

    pub copy_good : (o : Option Reached) (t : Ty) (begins : CopyStart) → IsFound code env records o → (by_copy o t begins).runs records ≡ true → GoodActual code env (by_copy o t begins)
    copy_good None t begins found runs = absurd (cc)
    copy_good (Some (Part b steps u position)) t begins found runs =
        let e = both_true (is_run_type t) (parts_run records b steps u) runs in
        let begun = found.1 (both_true _ _ e.1).0 in
        (λ over m s agrees h. kept_good b steps u position begins t over m s (run_scalar t e.0) (found.0 u) begun agrees h, tt)
    copy_good (Some (Object b steps)) t begins found runs =
        let e = both_true (is_run_type t) (part_runs (Object b steps) records) runs in
        let begun = found.1 (both_true _ _ e.1).0 in
        (λ over m s agrees h. kept_good b steps any_type first_position begins t over m s (run_scalar t e.0) (found.0 any_type) begun agrees h, tt)
    copy_good (Some (Result b)) t begins found runs = absurd (cc)
    copy_good (Some (Variable v)) t begins found runs = (λ over m s agrees h. begins_good begins v t (found.1 refl) runs s agrees, found.1 refl)

    -- another name of the same actual
    pub good_as : (a b : ActualCode) → a ≡ b → (b.runs records ≡ true → GoodActual code env b) → a.runs records ≡ true → GoodActual code env a
    good_as a b same h = subst (λ (x : ActualCode). x.runs records ≡ true → GoodActual code env x) (sym same) h
