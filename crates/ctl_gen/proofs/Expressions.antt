-- The code of an expression puts the expression's value where it is wanted, or leaves the statement. An expression is an act that gives one
-- cell, in the worlds since an earlier one in which its display is seen, and with no more than the bound on the clock: nothing else is said of
-- what it does.
use Rattle.std.proofs.Common.{◌≡◌, ℕ, ◌+◌, ◌≤◌, List, [], ◌∷◌, ◌++◌, length, Option, Some, None, Bool, true, false, refl, sym, ap, ◌∙◌, subst, arith, length-append}
use Rattle.std.specs.Prelude.{slice_get}
use Rattle.ctl_program.specs.declared.types.Ty.{Ty}
use Rattle.ctl_program.specs.declared.types.Ty.TheVariants.{Integer, Count, Boolean, Address, Handle, Access, Record}
use Rattle.ctl_program.specs.declared.types.RecordType.{RecordType}
use Rattle.ctl_program.specs.declared.types.Var.{Var}
use Rattle.ctl_program.specs.declared.operators.UnaryOp.{UnaryOp}
use Rattle.ctl_program.specs.declared.operators.UnaryOp.TheVariants.{Plus}
use Rattle.ctl_program.specs.declared.operators.Shortcut.{Shortcut}
use Rattle.ctl_meaning.specs.World.{Log, World}
use Rattle.ctl_meaning.specs.Lists.{opened_lists}
use Rattle.ctl_meaning.specs.Objects.{first_cells}
use Rattle.ctl_meaning.specs.Activations.{master_of}
use Rattle.ctl_meaning.specs.Choice.{Ask}
use Rattle.ctl_meaning.specs.Outcome.{constraint_error, ByRaise, Result, Goes, Leaves, Out, Gives, Stops, Cut, Act, add, bind, on_goes, ◌>>=◌, done, ticked, either, opened_outcome}
use Rattle.ctl_meaning.specs.Numbers.{unary, binary, converted}
use Rattle.ctl_meaning.specs.Types.{Tables, cells_of}
use Rattle.ctl_meaning.specs.Names.{Found, InVariable, scalar_of, read_found, or_constraint_error, opened_names}
use Rattle.ctl_meaning.specs.Expressions.{apply_each, decides, join_each, Applied, Valued}
use Rattle.ctl_meaning.specs.Names.{Tools}
use Rattle.ctl_code.specs.declared.code.Named.{Named}
use Rattle.ctl_code.specs.declared.code.Named.TheVariants.{Operand, Variable}
use Rattle.ctl_code.specs.declared.code.Cell.{Cell}
use Rattle.ctl_code.specs.declared.code.Instr.TheVariants as InstrOf
use Rattle.ctl_code.specs.declared.code.Code.{Code}
use Rattle.ctl_code.specs.declared.kinds.Kind.{Kind}
use Rattle.ctl_code.specs.declared.kinds.Kind.TheVariants as KindOf
use Rattle.ctl_code.specs.States.{Word, Scalar, Frame, State}
use Rattle.ctl_code.specs.Table.{by_result, by_binary, by_decision, cell_at}
use Rattle.ctl_code.specs.Steps.{moved, step}
use Rattle.ctl_code.specs.Windows.{height}
use Rattle.ctl_layout.specs.Parts as Parts
use Rattle.ctl_layout.specs.declared.right.Right.{Right}
use Rattle.ctl_layout.specs.declared.right.Right.TheVariants as RightOf
use Rattle.ctl_layout.specs.Records.{is_number}
use Rattle.ctl_layout.specs.Around.{Line, new_operand, local_at, local_cell, out_to, read_from}
use Rattle.ctl_layout.specs.Values.{ValueCode, OperatorCode, Held, held, held_by, evaluated, in_cell, left_held, operator_for, binary_code, operator_by, operator_code, operators_code, other_code, others_code, moved_to, constant, read, applied, unary_code, convert, value_type, chain, first_type, short}
use Rattle.ctl_gen.proofs.Known.{IsScalar}
use Rattle.ctl_gen.proofs.Values.{scalar_cells}
use Rattle.ctl_gen.proofs.Place.{Laid, laid_front, laid_back}
use Rattle.ctl_gen.proofs.Cells.{here, by_code, landed, landed_leaves, put_is, waiting, Stays, held_in, taking_is, value_of, cell_is, OneCell, Any}
use Rattle.ctl_gen.proofs.Worlds.{Since}
use Rattle.ctl_gen.proofs.Setting.{IsSeen}
use Rattle.ctl_gen.proofs.Entered.{IsAsLong, entered_there}
use Rattle.ctl_gen.proofs.Worth.{both_cell, then_paid}
use Rattle.ctl_gen.proofs.Follow.{RunsTo, at, transferred, added_to, within_to, one_step_to, last_step_to, no_step_to, arriving_to, weaker_to, bind_add}

-- what finds an elementary variable, in one tick
abbrev pub Uses : Var → (List ℕ → Act Found) → Type 0
Uses x find = (d : List ℕ) (c : ℕ) (l : Log) (w : World) → find d c l w ≡ Gives (Goes (InVariable (master_of d x) x.slot)) 1 c l w

module _ (ask : Ask) (k : Tables) (code : Code) (bound : ℕ) (w0 : World) where
  abbrev Fits : World → Type 0
  Fits w = Since k code w0 w

  -- an evaluation gives one cell in a world that fits, of which this is true, or raises
  abbrev pub Gets : (ℕ → World → Type 0) → ℕ → ℕ → State → ℕ → (Result (List ℕ) → Log → World → State) → Out (List ℕ) → Type 0
  Gets P b h s c next o = RunsTo ask code (OneCell Fits P) b h s c next o

  -- one whose first tick pays all but eight of its steps
  pub record Begins (P : ℕ → World → Type 0) (s : State) (c : ℕ) (next : Result (List ℕ) → Log → World → State) (o : Out (List ℕ)) : Type 0 where
    pub out : Out (List ℕ)
    pub is : o ≡ add 1 out
    pub runs : Gets P 8 8 s c next out

  -- the code of an expression does what it means, wherever it stands and its value is wanted; and so does an operator that takes it
  pub record Value (x : ValueCode) (act : List ℕ → Act (List ℕ)) : Type 0 where
    pub begins : (to : Cell) (ty : Ty) (s : List Kind) (d : List ℕ) (place : ℕ) (ks : List Frame) (ops : List Word) (c : ℕ) (l : Log) (w : World) → c ≤ bound → Fits w → IsSeen w0 d s → Laid code place (x.code to ty s) → Begins Any (at d place ks ops l w) c (landed to.named d (place + length (x.code to ty s)) ks ops) (act d c l w)
    pub constant : (n : ℕ) → x.right ≡ RightOf.Constant n → (d : List ℕ) (c : ℕ) (l : Log) (w : World) → act d c l w ≡ Gives (Goes (n ∷ [])) 1 c l w
    pub variable : (y : Var) → x.right ≡ RightOf.Variable y → (d : List ℕ) (c : ℕ) (l : Log) (w : World) → act d c l w ≡ Gives (Goes (value_of d y w ∷ [])) 2 c l w

  -- Results -----------------------------------------------------------------------------------------

  -- a result, or Constraint_Error
  result_runs : (x : Option ℕ) (to : Named) (d : List ℕ) (place : ℕ) (ks : List Frame) (ops : List Word) (c : ℕ) (l : Log) (w : World) (s0 : State) → Fits w → step ask code s0 ≡ moved l (by_result x to ops (here d place ks w)) → Gets Any 1 1 s0 c (landed to d (place + 1) ks ops) (or_constraint_error x c l w)
  unfolding opened_names opened_outcome
  result_runs None to d place ks ops c l w s0 fits first = last_step_to ask code (OneCell Fits Any) 1 1 s0 c 0 (landed to d (place + 1) ks ops) (Leaves (ByRaise constraint_error)) l w (omega arith) (fits, tt) (first ∙ landed_leaves to d (place + 1) ks ops (ByRaise constraint_error) l w)
  result_runs (Some n) to d place ks ops c l w s0 fits first = last_step_to ask code (OneCell Fits Any) 1 1 s0 c 0 (landed to d (place + 1) ks ops) (Goes (n ∷ [])) l w (omega arith) (fits, (n, refl, tt)) (first ∙ put_is to n d place ks ops l w)

  -- what leaves an operand leaves the expression
  leaves_it : (b h : ℕ) (to : Named) (d : List ℕ) (place : ℕ) (ks : List Frame) (ops : List Word) (y c : ℕ) (l : Log) (w : World) → Fits w → Gets Any b h (transferred (ByRaise y) ks l w) c (landed to d place ks ops) (Gives (Leaves (ByRaise y)) 0 c l w)
  leaves_it b h to d place ks ops y c l w fits = no_step_to ask code (OneCell Fits Any) b h _ c 0 (landed to d place ks ops) (Leaves (ByRaise y)) l w (fits, tt) (landed_leaves to d place ks ops (ByRaise y) l w)

  -- Constants and variables -------------------------------------------------------------------------

  pub constant_value : (n : ℕ) → Value (constant n) (λ d. ticked (done (n ∷ [])))
  unfolding opened_outcome
  constant_value n = record {
    begins = λ to ty s d place ks ops c l w le fits long has. record {
      out = Gives (Goes (n ∷ [])) 0 c l w;
      is = refl;
      runs = last_step_to ask code (OneCell Fits Any) 8 8 _ c 0 (landed to.named d (place + 1) ks ops) (Goes (n ∷ [])) l w (omega arith) (fits, (n, refl, tt)) (by_code ask code d place ks ops l w (InstrOf.Set n ty to) has.0 ∙ put_is to.named n d place ks ops l w);
    };
    constant = λ m is d c l w. let same : n ≡ m = cc in ap (λ a. Gives (Goes (a ∷ [])) 1 c l w) same;
    variable = λ y is d c l w. absurd (cc);
  }

  reads_it : (x : Var) (find : List ℕ → Act Found) → Uses x find → (ty : Ty) → IsScalar ty → (d : List ℕ) (c : ℕ) (l : Log) (w : World) → ticked (find d >>= read_found (cells_of k ty)) c l w ≡ Gives (Goes (value_of d x w ∷ [])) 2 c l w
  unfolding opened_outcome read_found first_cells
  reads_it x find uses ty scalar d c l w =
      ap (λ o. add 1 (bind o (on_goes (read_found (cells_of k ty))))) (uses d c l w)
      ∙ ap (λ n. add 1 (add 1 (read_found n (InVariable (master_of d x) x.slot) c l w))) (scalar_cells k ty scalar)

  -- a variable of this window, or of a body around, goes where it is wanted
  pub read_step : (at' : Option ℕ) (v : Var) (ty : Ty) (to : Cell) (s : List Kind) (d : List ℕ) (place : ℕ) (ks : List Frame) (ops : List Word) (l : Log) (w : World) → local_at s v ≡ at' → IsAsLong d s → slice_get code.instructions.items place ≡ Some (read_from at' v ty to s) → step ask code (at d place ks ops l w) ≡ landed to.named d (place + 1) ks ops (Goes (value_of d v w ∷ [])) l w
  read_step (Some n) v ty to s d place ks ops l w there long has = by_code ask code d place ks ops l w (InstrOf.Move (local_cell s v n) ty to) has ∙ put_is to.named (cell_at d (out_to s v) v.slot w) d place ks ops l w ∙ ap (λ x. landed to.named d (place + 1) ks ops (Goes (x ∷ [])) l w) (cell_is d s v w (long.1 (entered_there s (out_to s v) v.slot n there)))
  read_step None v ty to s d place ks ops l w there long has = by_code ask code d place ks ops l w (InstrOf.Fetch v ty to) has ∙ put_is to.named (value_of d v w) d place ks ops l w

  pub read_value : (x : Var) (find : List ℕ → Act Found) → Uses x find → (ty : Ty) → IsScalar ty → Value (read (Some (Parts.Variable x)) ty) (λ d. ticked (find d >>= read_found (cells_of k ty)))
  unfolding opened_outcome
  read_value x find uses ty scalar = record {
    begins = λ to t s d place ks ops c l w le fits long has. record {
      out = Gives (Goes (value_of d x w ∷ [])) 1 c l w;
      is = reads_it x find uses ty scalar d c l w;
      runs = last_step_to ask code (OneCell Fits Any) 8 8 _ c 1 (landed to.named d (place + 1) ks ops) (Goes (value_of d x w ∷ [])) l w (omega arith) (fits, (value_of d x w, refl, tt)) (read_step (local_at s x) x t to s d place ks ops l w refl long.2 has.0);
    };
    constant = λ n is d c l w. absurd (cc);
    variable = λ y is d c l w. let same : x ≡ y = cc in reads_it x find uses ty scalar d c l w ∙ ap (λ (z : Var). Gives (Goes (value_of d z w ∷ [])) 2 c l w) same;
  }

  -- Operands ------------------------------------------------------------------------------------------

  one_less : (o : Out (List ℕ)) (n c : ℕ) (l : Log) (w : World) → add 1 o ≡ Gives (Goes (n ∷ [])) 2 c l w → o ≡ Gives (Goes (n ∷ [])) 1 c l w
  unfolding add
  one_less (Gives r t c1 l1 w1) n c l w e =
      let e0 : 1 + t ≡ 2 = cc e in
      let e1 : r ≡ Goes (n ∷ []) = cc e in
      let e2 : c1 ≡ c = cc e in
      let e3 : l1 ≡ l = cc e in
      let e4 : w1 ≡ w = cc e in
      let e5 : t ≡ 1 = omega (arith, e0) in
      cc (e1, e2, e3, e4, e5)
  one_less (Stops s t l1) n c l w e = absurd (cc e)
  one_less (Cut t c1 l1) n c l w e = absurd (cc e)

  -- an operand is where it is held
  abbrev pub Holds : Held → (ℕ → World → Type 0) → (List ℕ → Act (List ℕ)) → List ℕ → ℕ → List Frame → List Word → ℕ → Log → World → Type 0
  Holds h P act d place ks ops c l w = Begins P (at d place ks ops l w) c (held_in h.cell.named d (place + length h.code) ks ops) (act d c l w)

  -- less is true of it
  holds_less : (P Q : ℕ → World → Type 0) → ((n : ℕ) (w : World) → P n w → Q n w) → (s : State) (c : ℕ) (next : Result (List ℕ) → Log → World → State) (o : Out (List ℕ)) → Begins P s c next o → Begins Q s c next o
  holds_less P Q f s c next o y = record { out = y.out; is = y.is; runs = weaker_to ask code (OneCell Fits P) (OneCell Fits Q) 8 8 s c next y.out by y.runs }
    where
      by : (r : Result (List ℕ)) (w : World) → OneCell Fits P r w → OneCell Fits Q r w
      by (Goes u) w h = (h.0, (h.1.0, h.1.1, f h.1.0 w h.1.2))
      by (Leaves y) w h = h

  evaluated_holds : (x : ValueCode) (act : List ℕ → Act (List ℕ)) → Value x act → (ty : Ty) (s : List Kind) (d : List ℕ) (place : ℕ) (ks : List Frame) (ops : List Word) (c : ℕ) (l : Log) (w : World) → c ≤ bound → Fits w → IsSeen w0 d s → Laid code place (evaluated x ty s).code → Holds (evaluated x ty s) Any act d place ks ops c l w
  evaluated_holds x act value ty s d place ks ops c l w le fits long has =
      let y = value.begins (new_operand s) ty s d place ks ops c l w le fits long has in
      record { out = y.out; is = y.is; runs = arriving_to ask code (OneCell Fits Any) 8 8 _ c _ _ y.out same y.runs }
    where
      q : ℕ
      q = place + length (x.code (new_operand s) ty s)

      same : (r : Result (List ℕ)) (l1 : Log) (w1 : World) → landed Operand d q ks ops r l1 w1 ≡ held_in Operand d q ks ops r l1 w1
      same (Goes u) l1 w1 = refl
      same (Leaves y) l1 w1 = refl

  -- a variable: what is true of the world stays so
  variable_holds : (x : ValueCode) (act : List ℕ → Act (List ℕ)) → Value x act → (v : Var) → x.right ≡ RightOf.Variable v → (P : World → Type 0) (at' : Option ℕ) (ty : Ty) (s : List Kind) (d : List ℕ) (place : ℕ) (ks : List Frame) (ops : List Word) (c : ℕ) (l : Log) (w : World) → c ≤ bound → Fits w → P w → local_at s v ≡ at' → IsSeen w0 d s → Laid code place (in_cell at' v x ty s).code → Holds (in_cell at' v x ty s) (λ n w1. Stays (in_cell at' v x ty s).cell.named n d w1 × P w1) act d place ks ops c l w
  unfolding add
  variable_holds x act value v is P (Some n) ty s d place ks ops c l w le fits true_of there long has =
      let e : place ≡ place + 0 = omega arith in
      record {
        out = Gives (Goes (value_of d v w ∷ [])) 1 c l w;
        is = value.variable v is d c l w;
        runs = no_step_to ask code (OneCell Fits (λ m w1. Stays (Variable (out_to s v) v.slot) m d w1 × P w1)) 8 8 _ c 1 (held_in (Variable (out_to s v) v.slot) d (place + 0) ks ops) (Goes (value_of d v w ∷ [])) l w (fits, (value_of d v w, refl, (cell_is d s v w (long.2.1 (entered_there s (out_to s v) v.slot n there)), true_of))) (ap (λ p. at d p ks ops l w) e);
      }
  variable_holds x act value v is P None ty s d place ks ops c l w le fits true_of there long has =
      let y = evaluated_holds x act value ty s d place ks ops c l w le fits long has in
      let e = one_less y.out (value_of d v w) c l w (sym y.is ∙ value.variable v is d c l w) in
      let next = held_in Operand d (place + length (evaluated x ty s).code) ks ops in
      let z = subst (λ o. Gets Any 8 8 (at d place ks ops l w) c next o) e y.runs in
      record {
        out = Gives (Goes (value_of d v w ∷ [])) 1 c l w;
        is = value.variable v is d c l w;
        runs = record { n = z.n; falls = z.falls; enough = z.enough; in_time = z.in_time; comes = z.comes; fits = (z.fits.0, (value_of d v w, refl, (tt, true_of))) };
      }

  -- an operand stays where it is, or is evaluated
  pub held_holds : (r : Right) (x : ValueCode) (act : List ℕ → Act (List ℕ)) → x.right ≡ r → Value x act → (ty : Ty) (s : List Kind) (d : List ℕ) (place : ℕ) (ks : List Frame) (ops : List Word) (c : ℕ) (l : Log) (w : World) → c ≤ bound → Fits w → IsSeen w0 d s → Laid code place (held_by r x ty s).code → Holds (held_by r x ty s) (λ n w1. Stays (held_by r x ty s).cell.named n d w1) act d place ks ops c l w
  held_holds (RightOf.Constant m) x act is value ty s d place ks ops c l w le fits long has = evaluated_holds x act value ty s d place ks ops c l w le fits long has
  held_holds RightOf.Evaluated x act is value ty s d place ks ops c l w le fits long has = evaluated_holds x act value ty s d place ks ops c l w le fits long has
  held_holds (RightOf.Variable v) x act is value ty s d place ks ops c l w le fits long has =
      holds_less (λ n w1. Stays (in_cell (local_at s v) v x ty s).cell.named n d w1 × Unit {0}) (λ n w1. Stays (in_cell (local_at s v) v x ty s).cell.named n d w1) (λ n w1 h. h.0) _ c _ _ (variable_holds x act value v is (λ w1. Unit {0}) (local_at s v) ty s d place ks ops c l w le fits tt refl long has)

  -- what follows an operand that is held
  pub held_then : {B : Type 0} (Ends : Result B → World → Type 0) (h : Held) (P : ℕ → World → Type 0) (act : List ℕ → Act (List ℕ)) (d : List ℕ) (place : ℕ) (ks : List Frame) (ops : List Word) (c : ℕ) (l : Log) (w : World) (next : Result B → Log → World → State) (f : Result (List ℕ) → Act B) → Holds h P act d place ks ops c l w → ((n c1 : ℕ) (l1 : Log) (w1 : World) → c1 ≤ c → Fits w1 → P n w1 → RunsTo ask code Ends 8 8 (at d (place + length h.code) ks (waiting h.cell.named n ops) l1 w1) c1 next (f (Goes (n ∷ [])) c1 l1 w1)) → ((y c1 : ℕ) (l1 : Log) (w1 : World) → c1 ≤ c → Fits w1 → RunsTo ask code Ends 8 8 (transferred (ByRaise y) ks l1 w1) c1 next (f (Leaves (ByRaise y)) c1 l1 w1)) → RunsTo ask code Ends 0 0 (at d place ks ops l w) c next (bind (act d c l w) f)
  unfolding scalar_of opened_lists
  held_then Ends h P act d place ks ops c l w next f x goes leaves = then_paid ask code Fits Ends P _ c (held_in h.cell.named d (place + length h.code) ks ops) next (act d c l w) x.out f x.is x.runs goes leaves

  -- Operators with one operand ----------------------------------------------------------------------

  pub applied_value : (runs : List RecordType → Bool) (op : UnaryOp) (operand ty : Ty) (x : ValueCode) (act : List ℕ → Act (List ℕ)) → Value x act → Value (applied runs op operand ty x) (λ d. ticked (act d >>= (λ u. or_constraint_error (unary op ty (scalar_of u)))))
  unfolding opened_outcome scalar_of opened_lists
  applied_value runs op operand ty x act value = record {
    begins = λ to t s d place ks ops c l w le fits long has.
        let h = held x operand s in
        let e : place + length h.code + 1 ≡ place + length (unary_code op operand ty to h) = omega (arith, length-append h.code ((InstrOf.Unary op operand ty h.cell to, h.after) ∷ [])) in
        let first = held_holds x.right x act refl value operand s d place ks ops c l w le fits long (laid_front code place h.code ((InstrOf.Unary op operand ty h.cell to, h.after) ∷ []) has) in
        let there = (laid_back code place h.code ((InstrOf.Unary op operand ty h.cell to, h.after) ∷ []) has).0 in
        record {
          out = (act d >>= (λ u. or_constraint_error (unary op ty (scalar_of u)))) c l w;
          is = refl;
          runs =
              within_to ask code (OneCell Fits Any) 0 0 8 8 _ c _ _ (omega arith) (omega arith)
              (held_then (OneCell Fits Any) h (λ n w1. Stays h.cell.named n d w1) act d place ks ops c l w (landed to.named d (place + length (unary_code op operand ty to h)) ks ops) (on_goes (λ u. or_constraint_error (unary op ty (scalar_of u)))) first
              (λ n c1 l1 w1 lo fits1 p.
              within_to ask code (OneCell Fits Any) 1 1 8 8 _ c1 _ _ (omega arith) (omega arith)
              (subst (λ q. Gets Any 1 1 (at d (place + length h.code) ks (waiting h.cell.named n ops) l1 w1) c1 (landed to.named d q ks ops) (or_constraint_error (unary op ty n) c1 l1 w1)) e
              (result_runs (unary op ty n) to.named d (place + length h.code) ks ops c1 l1 w1 _ fits1
              (by_code ask code d (place + length h.code) ks (waiting h.cell.named n ops) l1 w1 (InstrOf.Unary op operand ty h.cell to) there
              ∙ ap (moved l1) (taking_is h.cell.named n (λ y rest. by_result (unary op ty y) to.named rest (here d (place + length h.code) ks w1)) ops d (place + length h.code) ks w1 p)))))
              (λ y c1 l1 w1 lo fits1. leaves_it 8 8 to.named d (place + length (unary_code op operand ty to h)) ks ops y c1 l1 w1 fits1));
        };
    constant = λ n is d c l w. absurd (cc);
    variable = λ y is d c l w. absurd (cc);
  }

  -- a conversion keeps a number, or Constraint_Error is raised, as `+` does (4.6)
  pub convert_value : (ty : Ty) (x : ValueCode) (act : List ℕ → Act (List ℕ)) → is_number ty ≡ true → Value x act → Value (convert ty x) (λ d. ticked (act d >>= (λ u. or_constraint_error (converted ty (scalar_of u)))))
  unfolding converted unary
  convert_value Integer x act number value = applied_value (convert Integer x).runs Plus (value_type x) Integer x act value
  convert_value Count x act number value = applied_value (convert Count x).runs Plus (value_type x) Count x act value
  convert_value Boolean x act number value = absurd (cc)
  convert_value Address x act number value = absurd (cc)
  convert_value Handle x act number value = absurd (cc)
  convert_value (Access a) x act number value = absurd (cc)
  convert_value (Record t) x act number value = absurd (cc)

  -- Operators with two operands ---------------------------------------------------------------------

  -- a left operand may stay in its cell where the right one is not evaluated
  abbrev pub MayStay : Named → Right → Type 0
  MayStay Operand r = Unit {0}
  MayStay (Variable out slot) (RightOf.Constant n) = Unit {0}
  MayStay (Variable out slot) (RightOf.Variable v) = Unit {0}
  MayStay (Variable out slot) RightOf.Evaluated = ⊥

  -- an operator goes on from a left operand, wherever that is held
  abbrev pub Further : OperatorCode → (List ℕ → List ℕ → Act (List ℕ)) → Type 0
  Further o more = (left : Cell) (ty : Ty) (to : Cell) (s : List Kind) → MayStay left.named o.right.right → (n : ℕ) (d : List ℕ) (place : ℕ) (ks : List Frame) (ops : List Word) (c : ℕ) (l : Log) (w : World) → c ≤ bound → Fits w → IsSeen w0 d s → Stays left.named n d w → Laid code place (operator_code o left ty to s) → Gets Any 0 0 (at d place ks (waiting left.named n ops) l w) c (landed to.named d (place + length (operator_code o left ty to s)) ks ops) (more d (n ∷ []) c l w)

  abbrev combined : OperatorCode → (List ℕ → Act (List ℕ)) → List ℕ → List ℕ → Act (List ℕ)
  combined o act d u = ticked (act d >>= (λ z. or_constraint_error (binary o.op o.ty (scalar_of u) (scalar_of z))))

  -- the operator, behind its right operand
  binary_runs : (o : OperatorCode) (act : List ℕ → Act (List ℕ)) (left : Cell) (ty : Ty) (to : Cell) (h : Held) (n : ℕ) (d : List ℕ) (place : ℕ) (ks : List Frame) (ops : List Word) (c : ℕ) (l : Log) (w : World) → Laid code place (binary_code o left ty to h) → Holds h (λ m w1. Stays h.cell.named m d w1 × Stays left.named n d w1) act d place ks (waiting left.named n ops) c l w → Gets Any 0 0 (at d place ks (waiting left.named n ops) l w) c (landed to.named d (place + length (binary_code o left ty to h)) ks ops) (combined o act d (n ∷ []) c l w)
  unfolding opened_outcome scalar_of opened_lists
  binary_runs o act left ty to h n d place ks ops c l w has first =
      let e : place + length h.code + 1 ≡ place + length (binary_code o left ty to h) = omega (arith, length-append h.code ((InstrOf.Binary (operator_for o ty) left h.cell to, h.after) ∷ [])) in
      let there = (laid_back code place h.code ((InstrOf.Binary (operator_for o ty) left h.cell to, h.after) ∷ []) has).0 in
      added_to ask code (OneCell Fits Any) 1 0 0 0 0 _ c _ _ (omega arith) (omega arith)
      (held_then (OneCell Fits Any) h (λ m w1. Stays h.cell.named m d w1 × Stays left.named n d w1) act d place ks (waiting left.named n ops) c l w (landed to.named d (place + length (binary_code o left ty to h)) ks ops) (on_goes (λ z. or_constraint_error (binary o.op o.ty n (scalar_of z)))) first
      (λ m c1 l1 w1 lo fits1 p.
      within_to ask code (OneCell Fits Any) 1 1 8 8 _ c1 _ _ (omega arith) (omega arith)
      (subst (λ q. Gets Any 1 1 (at d (place + length h.code) ks (waiting h.cell.named m (waiting left.named n ops)) l1 w1) c1 (landed to.named d q ks ops) (or_constraint_error (binary o.op o.ty n m) c1 l1 w1)) e
      (result_runs (binary o.op o.ty n m) to.named d (place + length h.code) ks ops c1 l1 w1 _ fits1
      (by_code ask code d (place + length h.code) ks (waiting h.cell.named m (waiting left.named n ops)) l1 w1 (InstrOf.Binary (operator_for o ty) left h.cell to) there
      ∙ ap (moved l1) (taking_is h.cell.named m (λ b rest. by_binary (operator_for o ty) b left.named to.named rest (here d (place + length h.code) ks w1)) (waiting left.named n ops) d (place + length h.code) ks w1 p.0)
      ∙ ap (moved l1) (taking_is left.named n (λ a rest. by_result (binary o.op o.ty a m) to.named rest (here d (place + length h.code) ks w1)) ops d (place + length h.code) ks w1 p.1)))))
      (λ y c1 l1 w1 lo fits1. leaves_it 8 8 to.named d (place + length (binary_code o left ty to h)) ks ops y c1 l1 w1 fits1))

  -- an evaluated right operand, over a left one that is an operand
  both_hold : (x : ValueCode) (act : List ℕ → Act (List ℕ)) → Value x act → (left : Named) → MayStay left RightOf.Evaluated → (n : ℕ) (ty : Ty) (s : List Kind) (d : List ℕ) (place : ℕ) (ks : List Frame) (ops : List Word) (c : ℕ) (l : Log) (w : World) → c ≤ bound → Fits w → IsSeen w0 d s → Laid code place (evaluated x ty s).code → Holds (evaluated x ty s) (λ m w1. Stays Operand m d w1 × Stays left n d w1) act d place ks ops c l w
  both_hold x act value Operand stay n ty s d place ks ops c l w le fits long has =
      holds_less Any (λ m w1. Unit {0} × Unit {0}) (λ m w1 h. (tt, tt)) _ c _ _ (evaluated_holds x act value ty s d place ks ops c l w le fits long has)
  both_hold x act value (Variable out slot) stay n ty s d place ks ops c l w le fits long has = absurd stay

  operator_runs : (r : Right) (o : OperatorCode) (act : List ℕ → Act (List ℕ)) → o.right.right ≡ r → Value o.right act → (left : Cell) (ty : Ty) (to : Cell) (s : List Kind) → MayStay left.named r → (n : ℕ) (d : List ℕ) (place : ℕ) (ks : List Frame) (ops : List Word) (c : ℕ) (l : Log) (w : World) → c ≤ bound → Fits w → IsSeen w0 d s → Stays left.named n d w → Laid code place (operator_by r o left ty to s) → Gets Any 0 0 (at d place ks (waiting left.named n ops) l w) c (landed to.named d (place + length (operator_by r o left ty to s)) ks ops) (combined o act d (n ∷ []) c l w)
  unfolding opened_outcome scalar_of opened_lists
  operator_runs (RightOf.Constant m) o act is value left ty to s stay n d place ks ops c l w le fits long stays has =
      subst (λ q. Gets Any 0 0 (at d place ks (waiting left.named n ops) l w) c (landed to.named d (place + 1) ks ops) (add 1 (bind q (on_goes (λ z. or_constraint_error (binary o.op o.ty n (scalar_of z))))))) (sym (value.constant m is d c l w))
      (added_to ask code (OneCell Fits Any) 1 0 0 0 0 _ c _ _ (omega arith) (omega arith)
      (added_to ask code (OneCell Fits Any) 1 1 1 0 0 _ c _ _ (omega arith) (omega arith)
      (result_runs (binary o.op o.ty n m) to.named d place ks ops c l w _ fits
      (by_code ask code d place ks (waiting left.named n ops) l w (InstrOf.BinaryConstant (operator_for o ty) left m to) has.0
      ∙ ap (moved l) (taking_is left.named n (λ a rest. by_result (binary o.op o.ty a m) to.named rest (here d place ks w)) ops d place ks w stays)))))
  operator_runs (RightOf.Variable v) o act is value left ty to s stay n d place ks ops c l w le fits long stays has =
      let h = in_cell (local_at s v) v o.right ty s in
      subst (λ (r : Right). Laid code place (binary_code o left ty to (held_by r o.right ty s)) → Gets Any 0 0 (at d place ks (waiting left.named n ops) l w) c (landed to.named d (place + length (binary_code o left ty to (held_by r o.right ty s))) ks ops) (combined o act d (n ∷ []) c l w)) (sym is)
      (λ has1. binary_runs o act left ty to h n d place ks ops c l w has1
      (variable_holds o.right act value v is (λ w1. Stays left.named n d w1) (local_at s v) ty s d place ks (waiting left.named n ops) c l w le fits stays refl long (laid_front code place h.code ((InstrOf.Binary (operator_for o ty) left h.cell to, h.after) ∷ []) has1))) has
  operator_runs RightOf.Evaluated o act is value left ty to s stay n d place ks ops c l w le fits long stays has =
      let h = evaluated o.right ty s in
      subst (λ (r : Right). Laid code place (binary_code o left ty to (held_by r o.right ty s)) → Gets Any 0 0 (at d place ks (waiting left.named n ops) l w) c (landed to.named d (place + length (binary_code o left ty to (held_by r o.right ty s))) ks ops) (combined o act d (n ∷ []) c l w)) (sym is)
      (λ has1. binary_runs o act left ty to h n d place ks ops c l w has1
      (both_hold o.right act value left.named stay n ty s d place ks (waiting left.named n ops) c l w le fits long (laid_front code place h.code ((InstrOf.Binary (operator_for o ty) left h.cell to, h.after) ∷ []) has1))) has

  pub operator_further : (o : OperatorCode) (act : List ℕ → Act (List ℕ)) → Value o.right act → Further o (combined o act)
  operator_further o act value = operator_runs o.right.right o act refl value

  -- operators, each with what it does
  abbrev pub Operators : Tools → List OperatorCode → List Applied → Type 0
  Operators K [] [] = Unit {0}
  Operators K (o ∷ os) (m ∷ ms) = Further o (m K) × Operators K os ms
  Operators K _ _ = ⊥

  -- the last of them puts its value where it is wanted
  operators_run : (K : Tools) (o : OperatorCode) (os : List OperatorCode) (m : Applied) (ms : List Applied) → Operators K (o ∷ os) (m ∷ ms) → (base : List Kind) (left : Cell) (s : List Kind) (ty : Ty) (to : Cell) → MayStay left.named o.right.right → (n : ℕ) (d : List ℕ) (place : ℕ) (ks : List Frame) (ops : List Word) (c : ℕ) (l : Log) (w : World) → c ≤ bound → Fits w → IsSeen w0 d base → IsSeen w0 d s → Stays left.named n d w → Laid code place (operators_code base left s ty (o ∷ os) to) → Gets Any 0 0 (at d place ks (waiting left.named n ops) l w) c (landed to.named d (place + length (operators_code base left s ty (o ∷ os) to)) ks ops) (apply_each K d (m ∷ ms) (n ∷ []) c l w)
  unfolding apply_each opened_outcome scalar_of opened_lists
  operators_run K o [] m (m2 ∷ ms) h base left s ty to stay n d place ks ops c l w le fits long0 long stays has = absurd h.1
  operators_run K o (p ∷ ps) m [] h base left s ty to stay n d place ks ops c l w le fits long0 long stays has = absurd h.1
  operators_run K o [] m [] h base left s ty to stay n d place ks ops c l w le fits long0 long stays has =
      let is = operator_code o left ty to s in
      let e : place + length is ≡ place + length (is ++ []) = omega (arith, length-append is []) in
      subst (λ q. Gets Any 0 0 (at d place ks (waiting left.named n ops) l w) c (landed to.named d q ks ops) (bind (m K d (n ∷ []) c l w) (on_goes (λ v. done v)))) e
      (both_cell ask code Fits (OneCell Fits Any) Any 0 0 0 0 0 0 _ c (landed to.named d (place + length is) ks ops) (landed to.named d (place + length is) ks ops) (m K d (n ∷ []) c l w) (on_goes (λ v. done v)) (omega arith) (omega arith) (omega arith)
      (h.0 left ty to s stay n d place ks ops c l w le fits long stays (laid_front code place is [] has))
      (λ n1 c1 l1 w1 lo fits1 p. no_step_to ask code (OneCell Fits Any) 0 0 _ c1 0 (landed to.named d (place + length is) ks ops) (Goes (n1 ∷ [])) l1 w1 (fits1, (n1, refl, tt)) refl)
      (λ y c1 l1 w1 lo fits1. no_step_to ask code (OneCell Fits Any) 0 0 _ c1 0 (landed to.named d (place + length is) ks ops) (Leaves (ByRaise y)) l1 w1 (fits1, tt) refl))
  operators_run K o (p ∷ ps) m (m2 ∷ ms) h base left s ty to stay n d place ks ops c l w le fits long0 long stays has =
      let is = operator_code o left ty (new_operand base) s in
      let js = operators_code base (new_operand base) (KindOf.Operand o.ty ∷ base) o.ty (p ∷ ps) to in
      let e : place + length is + length js ≡ place + length (is ++ js) = omega (arith, length-append is js) in
      subst (λ q. Gets Any 0 0 (at d place ks (waiting left.named n ops) l w) c (landed to.named d q ks ops) (bind (m K d (n ∷ []) c l w) (on_goes (apply_each K d (m2 ∷ ms))))) e
      (both_cell ask code Fits (OneCell Fits Any) Any 0 0 0 0 0 0 _ c (landed Operand d (place + length is) ks ops) (landed to.named d (place + length is + length js) ks ops) (m K d (n ∷ []) c l w) (on_goes (apply_each K d (m2 ∷ ms))) (omega arith) (omega arith) (omega arith)
      (h.0 left ty (new_operand base) s stay n d place ks ops c l w le fits long stays (laid_front code place is js has))
      (λ n1 c1 l1 w1 lo fits1 x. operators_run K p ps m2 ms h.1 base (new_operand base) (KindOf.Operand o.ty ∷ base) o.ty to tt n1 d (place + length is) ks ops c1 l1 w1 (omega (arith, lo, le)) fits1 long0 long0 tt (laid_back code place is js has))
      (λ y c1 l1 w1 lo fits1. leaves_it 0 0 to.named d (place + length is + length js) ks ops y c1 l1 w1 fits1))

  -- the left operand of a chain
  held_seen : (r : Right) (x : ValueCode) (ty : Ty) (s : List Kind) (d : List ℕ) → IsSeen w0 d s → IsSeen w0 d (held_by r x ty s).after
  held_seen (RightOf.Constant n) x ty s d h = h
  held_seen RightOf.Evaluated x ty s d h = h
  held_seen (RightOf.Variable v) x ty s d h = by (local_at s v)
    where
      by : (o : Option ℕ) → IsSeen w0 d (in_cell o v x ty s).after
      by (Some n) = h
      by None = h

  left_seen : (r : Right) (x : ValueCode) (ty : Ty) (s : List Kind) (d : List ℕ) → IsSeen w0 d s → IsSeen w0 d (left_held r x ty s).after
  left_seen (RightOf.Constant n) x ty s d h = held_seen x.right x ty s d h
  left_seen (RightOf.Variable v) x ty s d h = held_seen x.right x ty s d h
  left_seen RightOf.Evaluated x ty s d h = h

  constant_stays : (x : Named) (n : ℕ) → MayStay x (RightOf.Constant n)
  constant_stays Operand n = tt
  constant_stays (Variable out slot) n = tt

  variable_stays : (x : Named) (v : Var) → MayStay x (RightOf.Variable v)
  variable_stays Operand v = tt
  variable_stays (Variable out slot) v = tt

  left_stays : (r : Right) (x : ValueCode) (ty : Ty) (s : List Kind) → MayStay (left_held r x ty s).cell.named r
  left_stays (RightOf.Constant n) x ty s = constant_stays (held x ty s).cell.named n
  left_stays (RightOf.Variable v) x ty s = variable_stays (held x ty s).cell.named v
  left_stays RightOf.Evaluated x ty s = tt

  left_holds : (r : Right) (x : ValueCode) (act : List ℕ → Act (List ℕ)) → Value x act → (ty : Ty) (s : List Kind) (d : List ℕ) (place : ℕ) (ks : List Frame) (ops : List Word) (c : ℕ) (l : Log) (w : World) → c ≤ bound → Fits w → IsSeen w0 d s → Laid code place (left_held r x ty s).code → Holds (left_held r x ty s) (λ n w1. Stays (left_held r x ty s).cell.named n d w1) act d place ks ops c l w
  left_holds (RightOf.Constant m) x act value ty s d place ks ops c l w le fits long has = held_holds x.right x act refl value ty s d place ks ops c l w le fits long has
  left_holds (RightOf.Variable v) x act value ty s d place ks ops c l w le fits long has = held_holds x.right x act refl value ty s d place ks ops c l w le fits long has
  left_holds RightOf.Evaluated x act value ty s d place ks ops c l w le fits long has = evaluated_holds x act value ty s d place ks ops c l w le fits long has

  -- what follows an expression begins with its first tick
  begins_with : (h : Held) (P : ℕ → World → Type 0) (act : List ℕ → Act (List ℕ)) (more : List ℕ → Act (List ℕ)) (d : List ℕ) (place : ℕ) (ks : List Frame) (ops : List Word) (c : ℕ) (l : Log) (w : World) (to : Named) (end : ℕ) → Holds h P act d place ks ops c l w → ((n c1 : ℕ) (l1 : Log) (w1 : World) → c1 ≤ c → Fits w1 → P n w1 → Gets Any 0 0 (at d (place + length h.code) ks (waiting h.cell.named n ops) l1 w1) c1 (landed to d end ks ops) (more (n ∷ []) c1 l1 w1)) → Begins Any (at d place ks ops l w) c (landed to d end ks ops) (bind (act d c l w) (on_goes more))
  unfolding opened_outcome scalar_of opened_lists
  begins_with h P act more d place ks ops c l w to end x goes = record {
    out = bind x.out (on_goes more);
    is = ap (λ o. bind o (on_goes more)) x.is ∙ bind_add 1 x.out (on_goes more);
    runs = both_cell ask code Fits (OneCell Fits Any) P 8 8 0 0 8 8 _ c (held_in h.cell.named d (place + length h.code) ks ops) (landed to d end ks ops) x.out (on_goes more) (omega arith) (omega arith) (omega arith) x.runs goes (λ y c1 l1 w1 lo fits1. leaves_it 0 0 to d end ks ops y c1 l1 w1 fits1);
  }

  pub chain_value : (K : Tools) (x : ValueCode) (act : List ℕ → Act (List ℕ)) → Value x act → (o : OperatorCode) (os : List OperatorCode) (m : Applied) (ms : List Applied) → Operators K (o ∷ os) (m ∷ ms) → Value (chain x o os) (λ d. act d >>= apply_each K d (m ∷ ms))
  unfolding opened_outcome scalar_of opened_lists
  chain_value K x act value o os m ms each = record {
    begins = λ to t s d place ks ops c l w le fits long has.
        let ty = first_type x o in
        let h = left_held o.right.right x ty s in
        let js = operators_code s h.cell h.after ty (o ∷ os) to in
        let e : place + length h.code + length js ≡ place + length (h.code ++ js) = omega (arith, length-append h.code js) in
        subst (λ q. Begins Any (at d place ks ops l w) c (landed to.named d q ks ops) (bind (act d c l w) (on_goes (apply_each K d (m ∷ ms))))) e
        (begins_with h (λ n w1. Stays h.cell.named n d w1) act (apply_each K d (m ∷ ms)) d place ks ops c l w to.named (place + length h.code + length js)
        (left_holds o.right.right x act value ty s d place ks ops c l w le fits long (laid_front code place h.code js has))
        (λ n c1 l1 w1 lo fits1 p. operators_run K o os m ms each s h.cell h.after ty to (left_stays o.right.right x ty s) n d (place + length h.code) ks ops c1 l1 w1 (omega (arith, lo, le)) fits1 long (left_seen o.right.right x ty s d long) p (laid_back code place h.code js has)));
    constant = λ n is d c l w. absurd (cc);
    variable = λ y is d c l w. absurd (cc);
  }

  -- Short-circuit forms -------------------------------------------------------------------------------

  -- values, each with what it means
  abbrev pub EachValue : Tools → List ValueCode → List Valued → Type 0
  EachValue K [] [] = Unit {0}
  EachValue K (x ∷ xs) (m ∷ ms) = Value x (m K) × EachValue K xs ms
  EachValue K _ _ = ⊥

  -- a value as an operand
  pub value_runs : (x : ValueCode) (act : List ℕ → Act (List ℕ)) → Value x act → (to : Cell) (ty : Ty) (s : List Kind) (d : List ℕ) (place : ℕ) (ks : List Frame) (ops : List Word) (c : ℕ) (l : Log) (w : World) → c ≤ bound → Fits w → IsSeen w0 d s → Laid code place (x.code to ty s) → Gets Any 0 0 (at d place ks ops l w) c (landed to.named d (place + length (x.code to ty s)) ks ops) (act d c l w)
  value_runs x act value to ty s d place ks ops c l w le fits long has =
      let y = value.begins to ty s d place ks ops c l w le fits long has in
      let next = landed to.named d (place + length (x.code to ty s)) ks ops in
      subst (λ o. Gets Any 0 0 (at d place ks ops l w) c next o) (sym y.is) (added_to ask code (OneCell Fits Any) 1 8 8 0 0 _ c next y.out (omega arith) (omega arith) y.runs)

  -- a further operand, whose tick pays
  other_runs : (form : Shortcut) (x : ValueCode) (act : List ℕ → Act (List ℕ)) → Value x act → (s : List Kind) (n : ℕ) (d : List ℕ) (place : ℕ) (ks : List Frame) (ops : List Word) (c : ℕ) (l : Log) (w : World) → c ≤ bound → Fits w → IsSeen w0 d s → Laid code place (other_code form x s) → Gets Any 1 1 (at d place ks (Scalar n ∷ ops) l w) c (landed Operand d (place + length (other_code form x s)) ks ops) (either (decides form (n ∷ [])) (done (n ∷ [])) (act d) c l w)
  unfolding opened_outcome scalar_of opened_lists
  other_runs form x act value s n d place ks ops c l w le fits long has =
      let e : place + 1 + length is ≡ place + length (other_code form x s) = omega arith in
      subst (λ q. Gets Any 1 1 (at d place ks (Scalar n ∷ ops) l w) c (landed Operand d q ks ops) (either (decides form (n ∷ [])) (done (n ∷ [])) (act d) c l w)) e
      (by (decides form (n ∷ [])) refl)
    where
      is : List Line
      is = x.code (new_operand s) Boolean s

      first : step ask code (at d place ks (Scalar n ∷ ops) l w) ≡ moved l (by_decision (decides form (n ∷ [])) (length (x.code (new_operand s) Boolean s)) n ops (here d place ks w))
      first = by_code ask code d place ks (Scalar n ∷ ops) l w (InstrOf.Decide form (height s) (length (x.code (new_operand s) Boolean s))) has.0

      by : (b : Bool) → decides form (n ∷ []) ≡ b → Gets Any 1 1 (at d place ks (Scalar n ∷ ops) l w) c (landed Operand d (place + 1 + length (x.code (new_operand s) Boolean s)) ks ops) (either (decides form (n ∷ [])) (done (n ∷ [])) (act d) c l w)
      by true b = subst (λ y. Gets Any 1 1 (at d place ks (Scalar n ∷ ops) l w) c (landed Operand d (place + 1 + length is) ks ops) (either y (done (n ∷ [])) (act d) c l w)) (sym b)
          (last_step_to ask code (OneCell Fits Any) 1 1 _ c 0 (landed Operand d (place + 1 + length is) ks ops) (Goes (n ∷ [])) l w (omega arith) (fits, (n, refl, tt)) (first ∙ ap (λ y. moved l (by_decision y (length is) n ops (here d place ks w))) b))
      by false b = subst (λ y. Gets Any 1 1 (at d place ks (Scalar n ∷ ops) l w) c (landed Operand d (place + 1 + length is) ks ops) (either y (done (n ∷ [])) (act d) c l w)) (sym b)
          (one_step_to ask code (OneCell Fits Any) 0 0 1 1 _ _ c c _ _ (omega arith) (omega arith) (omega arith) (omega arith) (first ∙ ap (λ y. moved l (by_decision y (length is) n ops (here d place ks w))) b)
          (value_runs x act value (new_operand s) Boolean s d (place + 1) ks ops c l w le fits long has.2))

  -- an operand of this type goes where it is wanted
  pub moved_by : (a : ℕ) (to : Named) (ty : Ty) (s : List Kind) (n : ℕ) (d : List ℕ) (place : ℕ) (ks : List Frame) (ops : List Word) (c : ℕ) (l : Log) (w : World) → Fits w → Laid code place (moved_to (record { at = a; named = to }) ty s) → Gets Any 1 1 (at d place ks (Scalar n ∷ ops) l w) c (landed to d (place + length (moved_to (record { at = a; named = to }) ty s)) ks ops) (Gives (Goes (n ∷ [])) 0 c l w)
  unfolding scalar_of opened_lists
  moved_by a Operand ty s n d place ks ops c l w fits has = let e : place ≡ place + 0 = omega arith in no_step_to ask code (OneCell Fits Any) 1 1 _ c 0 (landed Operand d (place + 0) ks ops) (Goes (n ∷ [])) l w (fits, (n, refl, tt)) (ap (λ p. at d p ks (Scalar n ∷ ops) l w) e)
  moved_by a (Variable out slot) ty s n d place ks ops c l w fits has = last_step_to ask code (OneCell Fits Any) 1 1 _ c 0 (landed (Variable out slot) d (place + 1) ks ops) (Goes (n ∷ [])) l w (omega arith) (fits, (n, refl, tt)) (by_code ask code d place ks (Scalar n ∷ ops) l w (InstrOf.Move (new_operand s) ty (record { at = a; named = Variable out slot })) has.0)

  -- the steps that no tick pays where no operand follows
  abbrev spare : List ValueCode → ℕ
  spare [] = 1
  spare (x ∷ xs) = 0

  spare_least : (xs : List ValueCode) → spare xs ≤ 1
  spare_least [] = omega arith
  spare_least (x ∷ xs) = omega arith

  others_run : (K : Tools) (form : Shortcut) (xs : List ValueCode) (ms : List Valued) → EachValue K xs ms → (to : Cell) (s : List Kind) (n : ℕ) (d : List ℕ) (place : ℕ) (ks : List Frame) (ops : List Word) (c : ℕ) (l : Log) (w : World) → c ≤ bound → Fits w → IsSeen w0 d s → Laid code place (others_code form xs s) → Laid code (place + length (others_code form xs s)) (moved_to to Boolean s) → Gets Any (spare xs) (spare xs) (at d place ks (Scalar n ∷ ops) l w) c (landed to.named d (place + length (others_code form xs s) + length (moved_to to Boolean s)) ks ops) (join_each K d form ms (n ∷ []) c l w)
  unfolding join_each opened_outcome scalar_of opened_lists
  others_run K form [] [] h to s n d place ks ops c l w le fits long has last =
      let e : place + 0 ≡ place = omega arith in
      subst (λ q. Gets Any 1 1 (at d q ks (Scalar n ∷ ops) l w) c (landed to.named d (place + 0 + length (moved_to to Boolean s)) ks ops) (Gives (Goes (n ∷ [])) 0 c l w)) e
      (moved_by to.at to.named Boolean s n d (place + 0) ks ops c l w fits last)
  others_run K form [] (m ∷ ms) h to s n d place ks ops c l w le fits long has last = absurd h
  others_run K form (x ∷ xs) [] h to s n d place ks ops c l w le fits long has last = absurd h
  others_run K form (x ∷ xs) (m ∷ ms) h to s n d place ks ops c l w le fits long has last =
      let is = other_code form x s in
      let js = others_code form xs s in
      let e0 : place + length (is ++ js) ≡ place + length is + length js = omega (arith, length-append is js) in
      let e : place + length is + length js + length (moved_to to Boolean s) ≡ place + length (is ++ js) + length (moved_to to Boolean s) = omega (arith, e0) in
      subst (λ q. Gets Any 0 0 (at d place ks (Scalar n ∷ ops) l w) c (landed to.named d q ks ops) (bind (ticked (either (decides form (n ∷ [])) (done (n ∷ [])) (m K d)) c l w) (on_goes (join_each K d form ms)))) e
      (subst (λ o. Gets Any 0 0 (at d place ks (Scalar n ∷ ops) l w) c (landed to.named d (place + length is + length js + length (moved_to to Boolean s)) ks ops) o) (sym (bind_add 1 (either (decides form (n ∷ [])) (done (n ∷ [])) (m K d) c l w) (on_goes (join_each K d form ms))))
      (added_to ask code (OneCell Fits Any) 1 2 2 0 0 _ c _ _ (omega arith) (omega arith)
      (both_cell ask code Fits (OneCell Fits Any) Any 1 1 1 1 2 2 _ c (landed Operand d (place + length is) ks ops) (landed to.named d (place + length is + length js + length (moved_to to Boolean s)) ks ops) _ (on_goes (join_each K d form ms)) (omega arith) (omega arith) (omega arith)
      (other_runs form x (m K) h.0 s n d place ks ops c l w le fits long (laid_front code place is js has))
      (λ n1 c1 l1 w1 lo fits1 p.
      within_to ask code (OneCell Fits Any) (spare xs) (spare xs) 1 1 _ c1 _ _ (spare_least xs) (spare_least xs)
      (others_run K form xs ms h.1 to s n1 d (place + length is) ks ops c1 l1 w1 (omega (arith, lo, le)) fits1 long (laid_back code place is js has) (subst (λ q. Laid code q (moved_to to Boolean s)) e0 last)))
      (λ y c1 l1 w1 lo fits1. leaves_it 1 1 to.named d (place + length is + length js + length (moved_to to Boolean s)) ks ops y c1 l1 w1 fits1))))

  pub short_value : (K : Tools) (form : Shortcut) (x : ValueCode) (act : List ℕ → Act (List ℕ)) → Value x act → (y : ValueCode) (ys : List ValueCode) (m : Valued) (ms : List Valued) → EachValue K (y ∷ ys) (m ∷ ms) → Value (short form x y ys) (λ d. act d >>= join_each K d form (m ∷ ms))
  unfolding opened_outcome scalar_of opened_lists
  short_value K form x act value y ys m ms each = record {
    begins = λ to t s d place ks ops c l w le fits long has.
        let h = evaluated x Boolean s in
        let js = others_code form (y ∷ ys) s in
        let front = laid_front code place (h.code ++ js) (moved_to to Boolean s) has in
        let e0 : place + length (h.code ++ js) ≡ place + length h.code + length js = omega (arith, length-append h.code js) in
        let e : place + length h.code + length js + length (moved_to to Boolean s) ≡ place + length ((h.code ++ js) ++ moved_to to Boolean s) = omega (arith, length-append (h.code ++ js) (moved_to to Boolean s), length-append h.code js) in
        let last = subst (λ q. Laid code q (moved_to to Boolean s)) e0 (laid_back code place (h.code ++ js) (moved_to to Boolean s) has) in
        subst (λ q. Begins Any (at d place ks ops l w) c (landed to.named d q ks ops) (bind (act d c l w) (on_goes (join_each K d form (m ∷ ms))))) e
        (begins_with h Any act (join_each K d form (m ∷ ms)) d place ks ops c l w to.named (place + length h.code + length js + length (moved_to to Boolean s))
        (evaluated_holds x act value Boolean s d place ks ops c l w le fits long (laid_front code place h.code js front))
        (λ n c1 l1 w1 lo fits1 p. others_run K form (y ∷ ys) (m ∷ ms) each to s n d (place + length h.code) ks ops c1 l1 w1 (omega (arith, lo, le)) fits1 long (laid_back code place h.code js front) last));
    constant = λ n is d c l w. absurd (cc);
    variable = λ z is d c l w. absurd (cc);
  }
