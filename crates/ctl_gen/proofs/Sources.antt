-- What it means to find what is copied: a value or an actual that is a name, or the value of a function.
use Rattle.std.proofs.Common.{◌≡◌, ℕ, List, [], Option, Some, None, Bool, true, false, ◌⊎◌, inl, inr, refl, sym, ap, ◌∙◌, subst}
use Rattle.std.specs.Prelude.{◌&&◌, if◌then◌else◌}
use Rattle.std.proofs.lemmas.Bool.{eqb-true}
use Rattle.ctl_program.specs.declared.types.Ty.{Ty}
use Rattle.ctl_program.specs.declared.types.Ty.TheVariants.{Integer, Count, Boolean, Address, Handle, Access, Record}
use Rattle.ctl_program.specs.declared.expression.Expr.{Expr}
use Rattle.ctl_program.specs.declared.expression.Name.{Name}
use Rattle.ctl_program.specs.declared.expression.Actual.{Actual, out-Actual, roll-Actual, roll-out-Actual}
use Rattle.ctl_program.specs.declared.expression.Operand.{Operand}
use Rattle.ctl_program.specs.declared.expression.Actual.TheOpen.{Actual-F, Expr-F}
use Rattle.ctl_meaning.specs.World.{Log, World}
use Rattle.ctl_meaning.specs.Choice.{Ask}
use Rattle.ctl_meaning.specs.Outcome.{Act, add, bind, on_goes, ◌>>=◌, done, ticked, opened_outcome}
use Rattle.ctl_meaning.specs.Types.{Tables, Composite, category_of, cells_of}
use Rattle.ctl_meaning.specs.Names.{Alone, Call, Default, Found, Tools, begins_as, read_found, walk}
use Rattle.ctl_meaning.specs.Expressions.{Supplied, Valued, eval, eval_name, eval_step, actual_step as actual_meaning, supply}
use Rattle.ctl_meaning.proofs.Trees.{actual_roll as supply_roll}
use Rattle.ctl_code.specs.declared.code.Code.{Code}
use Rattle.ctl_layout.specs.Parts.{OfVariable, OfValue, OfRecord, Reached, Variable, Part, Object, Result, are_followed}
use Rattle.ctl_layout.specs.Values.{ActualCode, ValueCode, by_reference, by_value, copied, given as start_by, given_by as start_from, is_of, is_result, reached_by, reached_if, read, result_of, sourced, value_code}
use Rattle.ctl_program.specs.declared.expression.Actual.TheVariants.{rolls-Part}
use Rattle.ctl_layout.proofs.TreeLayers.{actual_roll}
use Rattle.ctl_layout.proofs.Layers.{called_is, called_whole, part_source}
use Rattle.ctl_gen.proofs.Known.{both_true}
use Rattle.ctl_gen.proofs.Follow.{add_none}
use Rattle.ctl_gen.proofs.LastSteps.{nothing_more}
use Rattle.ctl_gen.proofs.Parts.{begins_value, composite_leads, find_by, given_by, name_leads}
use Rattle.ctl_emitter.proofs.Walked.{copy_reaches, start_of, steps_before, steps_of}
use Rattle.ctl_gen.proofs.Begun.{Starts}
use Rattle.ctl_gen.proofs.Setting.{tools_with}

-- the value of this type that is found so
abbrev pub read_by : Tools → Ty → (List ℕ → Act Found) → List ℕ → Act (List ℕ)
read_by K ty find d = ticked (find d >>= read_found (cells_of K.tables ty))

is_record : (t : ℕ) (ty : Ty) → is_of t (Some ty) ≡ true → ty ≡ Record t
is_record t (Record u) h = ap Record (eqb-true u t h)
is_record t Integer h = absurd (cc h)
is_record t Count h = absurd (cc h)
is_record t Boolean h = absurd (cc h)
is_record t Address h = absurd (cc h)
is_record t Handle h = absurd (cc h)
is_record t (Access a) h = absurd (cc h)

-- a part of an object, or a variable
abbrev pub IsPart : Reached → Type 0
IsPart (Result b) = ⊥
IsPart x = Unit {0}

-- what is copied is what the name denotes, and of the type: no value alone
part_read : (o : Option Reached) (ty : Ty) (t : ℕ) (x : Reached) → copied t (read o ty) ≡ Some x → (o ≡ Some x) × (ty ≡ Record t) × IsPart x
part_read o ty t x is = by o (is_of t (read o ty).own) refl is
  where
    By : Option Reached → Bool → Type 0
    By o b = is_of t (read o ty).own ≡ b → reached_if (read o ty).reached b ≡ Some x → (o ≡ Some x) × (ty ≡ Record t) × IsPart x

    found : (y : Reached) → IsPart y → is_of t (Some ty) ≡ true → Some y ≡ Some x → (Some y ≡ Some x) × (ty ≡ Record t) × IsPart x
    found y part e h = let same : y ≡ x = cc h in (h, is_record t ty e, subst IsPart same part)

    by : (o : Option Reached) (b : Bool) → By o b
    by None true e h = absurd (cc h)
    by (Some (Variable v)) true e h = found (Variable v) tt e h
    by (Some (Part v steps u position)) true e h = found (Part v steps u position) tt e h
    by (Some (Object v steps)) true e h = found (Object v steps) tt e h
    by (Some (Result v)) true e h = absurd (cc h)
    by o false e h = absurd (cc h)

-- what gives the value of a record gives what a name begins with
pub is_alone : (t : ℕ) (x : ValueCode) (y : Reached) → result_of (copied t x) ≡ Some y → (y ≡ Result (start_by x)) × (are_followed (start_by x) [] ≡ true)
is_alone t x y is = by (is_result (copied t x)) (sym (called_whole t x) ∙ is) (called_is t x)
  where
    followed : (o : Option Reached) → is_result o ≡ true → are_followed (start_from o x) [] ≡ true
    followed None h = absurd (cc h)
    followed (Some (Variable v)) h = absurd (cc h)
    followed (Some (Part v steps u position)) h = absurd (cc h)
    followed (Some (Object v steps)) h = absurd (cc h)
    followed (Some (Result (OfVariable v))) h = absurd (cc h)
    followed (Some (Result (OfValue runs lines))) h = absurd (cc h)
    followed (Some (Result (OfRecord u runs lines))) h = refl

    by : (b : Bool) → (if b then Some (Result (start_by x)) else None) ≡ Some y → b ≡ (is_of t x.own && is_result x.reached) → (y ≡ Result (start_by x)) × (are_followed (start_by x) [] ≡ true)
    by true h both = let same : Result (start_by x) ≡ y = cc h in (sym same, followed x.reached (both_true _ _ (sym both)).1)
    by false h both = absurd (cc h)

-- in the worlds since an earlier one, while no more than the bound is on the clock
module _ (ask : Ask) (k : Tables) (code : Code) (call : Call) (default : Default) (bound : ℕ) (w0 : World) where
  abbrev V : Tools
  V = tools_with ask k call default

  -- a value of this record type that is read from this part, or that of a function
  abbrev pub ReadsBy : ℕ → Reached → Valued → (List ℕ → Act (List ℕ)) → Type 0
  ReadsBy t (Result (OfVariable v)) m given = ⊥
  ReadsBy t (Result (OfValue runs lines)) m given = ⊥
  ReadsBy t (Result (OfRecord u runs lines)) m given = (u ≡ t) × (m V ≡ given)
  ReadsBy t x m given = m V ≡ read_by V (Record t) (find_by V given (steps_of x) (start_of x))

  reads_part : (t : ℕ) (x : Reached) (m : Valued) (given : List ℕ → Act (List ℕ)) → IsPart x → m V ≡ read_by V (Record t) (find_by V given (steps_of x) (start_of x)) → ReadsBy t x m given
  reads_part t (Variable v) m given part is = is
  reads_part t (Part b steps u position) m given part is = is
  reads_part t (Object b steps) m given part is = is
  reads_part t (Result b) m given part is = absurd part

  -- the part is found from what its name begins with, whose code does what that means
  pub record Reads (t : ℕ) (x : Reached) (m : Valued) : Type 0 where
    pub given : List ℕ → Act (List ℕ)
    pub begun : Starts ask k code bound w0 (start_of x) given
    pub walked : are_followed (start_of x) (steps_before x) ≡ true
    pub reads : ReadsBy t x m given

  pub name_reads : (n : Name) (ty : Ty) (t : ℕ) (x : Reached) → copied t (read (reached_by n) ty) ≡ Some x → (reached_by n ≡ Some x → Starts ask k code bound w0 (start_of x) (given_by n V)) → Reads t x (eval_step (Expr-F.Read (eval_name n) ty))
  unfolding eval_step category_of
  name_reads n ty t x is begun =
      let h = part_read (reached_by n) ty t x is in
      let leads = name_leads V n x h.0 in
      record {
        given = given_by n V;
        begun = begun h.0;
        walked = leads.walked;
        reads = reads_part t x (eval_step (Expr-F.Read (eval_name n) ty)) (given_by n V) h.2
            (ap (λ (u : Ty). read_by V u (eval_name n (category_of u) V)) h.1 ∙ ap (read_by V (Record t)) (composite_leads V x (given_by n V) (eval_name n) leads));
      }

module _ (K : Tools) where
  -- what a name begins with, or the value of a function
  abbrev pub IsGivenBy : Reached → (List ℕ → Act (List ℕ)) → Type 0
  IsGivenBy x act = ((n : Name) × (reached_by n ≡ Some x) × (act ≡ given_by n K)) ⊎ ((e : Expr) × (start_of x ≡ start_by (value_code e)) × (act ≡ eval e K))

  -- what is found of an actual: a name is an expression node of its own, with a tick
  pub record IsSource (x : Reached) (m : Supplied) : Type 0 where
    pub given : List ℕ → Act (List ℕ)
    pub by : IsGivenBy x given
    pub walked : are_followed (start_of x) (steps_before x) ≡ true
    pub ticks : ℕ
    pub finds : (d : List ℕ) (c : ℕ) (l : Log) (w : World) → m.source K d c l w ≡ add ticks (find_by K given (steps_of x) (start_of x) d c l w)

  is_source : (n : Name) (ty : Ty) (x : Reached) → reached_by n ≡ Some x → IsSource x (actual_meaning (Actual-F.Part (eval_name n) ty))
  unfolding actual_meaning opened_outcome
  is_source n ty x is =
      let h = name_leads K n x is in
      record {
        given = given_by n K;
        by = inl (n, is, refl);
        walked = h.walked;
        ticks = 1;
        finds = λ d c l w. ap (λ (find : List ℕ → Act Found). add 1 (find d c l w)) (composite_leads K x (given_by n K) (eval_name n) h);
      }

  -- the value of a function is found alone
  pub value_found : (x : ValueCode) (act : List ℕ → Act (List ℕ)) (d : List ℕ) (c : ℕ) (l : Log) (w : World) → (act d >>= (λ v. done (Alone v))) c l w ≡ add 0 (find_by K act [] (start_by x) d c l w)
  unfolding begins_as walk opened_outcome
  value_found x act d c l w =
      nothing_more ((act d >>= (λ v. done (Alone v))) c l w)
      ∙ ap (λ (f : List ℕ → Act Found). bind (f d c l w) (on_goes (walk K []))) (sym (begins_value x act Composite))
      ∙ sym (add_none (find_by K act [] (start_by x) d c l w))

  -- a value whose type is elementary is no source
  elementary_value : (x : ValueCode) (ty : Ty) (y : Reached) → (by_value x ty).reached ≡ Some y → (t : ℕ) × (ty ≡ Record t) × (result_of (copied t x) ≡ Some y)
  elementary_value x Integer y is = absurd (cc is)
  elementary_value x Count y is = absurd (cc is)
  elementary_value x Boolean y is = absurd (cc is)
  elementary_value x Address y is = absurd (cc is)
  elementary_value x Handle y is = absurd (cc is)
  elementary_value x (Access a) y is = absurd (cc is)
  elementary_value x (Record t) y is = (t, refl, referred (result_of (copied t x)) is)
    where
      referred : (o : Option Reached) → (by_reference o (Record t)).reached ≡ Some y → o ≡ Some y
      referred None h = absurd (cc h)
      referred (Some z) h = h

  value_source : (e : Expr) (ty : Ty) (x : Reached) → (by_value (value_code e) ty).reached ≡ Some x → IsSource x (actual_meaning (Actual-F.ByValue (eval e) ty))
  unfolding actual_meaning
  value_source e ty x is =
      let h = elementary_value (value_code e) ty x is in
      let alone = is_alone h.0 (value_code e) x h.2 in
      subst (λ y. IsSource y (actual_meaning (Actual-F.ByValue (eval e) ty))) (sym alone.0)
      (record { given = eval e K; by = inr (e, refl, refl); walked = alone.1; ticks = 0; finds = value_found (value_code e) (eval e K) })

  actual_rolled : (y : Actual-F Actual Expr Name Operand) (x : Reached) → sourced (roll-Actual y) ≡ Some x → IsSource x (supply (roll-Actual y))
  actual_rolled (Actual-F.Part n ty) x is = subst (IsSource x) (sym (supply_roll (Actual-F.Part n ty))) (is_source n ty x (sym (part_source n ty) ∙ sym (ap (λ (a : Actual). sourced a) (rolls-Part n ty)) ∙ is))
  actual_rolled (Actual-F.ByValue e ty) x is = subst (IsSource x) (sym (supply_roll (Actual-F.ByValue e ty))) (value_source e ty x (sym (ap (λ (y : ActualCode). y.reached) (actual_roll (Actual-F.ByValue e ty))) ∙ is))
  actual_rolled (Actual-F.Copied n ty begins) x is = absurd (let e1 = sym (copy_reaches (reached_by n) ty begins) ∙ sym (ap (λ (y : ActualCode). y.reached) (actual_roll (Actual-F.Copied n ty begins))) ∙ is in cc e1)

  pub source_means : (a : Actual) (x : Reached) → sourced a ≡ Some x → IsSource x (supply a)
  source_means a = subst (λ b. (x : Reached) → sourced b ≡ Some x → IsSource x (supply b)) (roll-out-Actual a) (actual_rolled (out-Actual a))
