-- From what a name begins with to a part (4.1): a variable, or a value that is evaluated first, an access value or that of a record. What
-- follows is said of each world that the value may leave.
use Rattle.std.proofs.Common.{◌≡◌, ℕ, ◌+◌, ◌≤◌, List, [], ◌∷◌, ◌++◌, length, Bool, true, false, refl, sym, ap, ◌∙◌, subst, arith, length-append}
use Rattle.std.specs.Prelude.{not}
use Rattle.std.proofs.lemmas.Bool.{not-true}
use Rattle.ctl_program.specs.declared.types.Ty.TheVariants.{Record}
use Rattle.ctl_program.specs.declared.types.RecordType.{RecordType}
use Rattle.ctl_program.specs.declared.expression.Step.{Step}
use Rattle.ctl_program.specs.declared.expression.Step.TheVariants.{Component, Dereference, Narrow}
use Rattle.ctl_meaning.specs.World.{Log, World}
use Rattle.ctl_meaning.specs.Objects.{first_cells}
use Rattle.ctl_meaning.specs.Choice.{Ask}
use Rattle.ctl_meaning.specs.Outcome.{constraint_error, ByRaise, Result, Goes, Leaves, Out, Act, add, bind, on_goes, done, opened_outcome}
use Rattle.ctl_meaning.specs.Types.{Tables, offset_in, placed}
use Rattle.ctl_meaning.specs.Names.{Found, Alone, Call, Default, Tools, dereferenced, walk}
use Rattle.ctl_code.specs.declared.code.Instr.TheVariants as InstrOf
use Rattle.ctl_code.specs.declared.code.Named.TheVariants as NamedOf
use Rattle.ctl_code.specs.declared.code.Code.{Code}
use Rattle.ctl_code.specs.declared.kinds.Kind.{Kind}
use Rattle.ctl_code.specs.declared.kinds.Kind.TheVariants.{Operand}
use Rattle.ctl_code.specs.States.{Word, Scalar, Cells, Frame, State, whole_spot}
use Rattle.ctl_code.specs.Table.{component_in, size_of}
use Rattle.ctl_code.specs.Windows.{height}
use Rattle.ctl_layout.specs.Around.{Line, new_operand}
use Rattle.ctl_layout.specs.Parts.{Start, OfVariable, OfValue, OfRecord, Reached, Variable, Part, Object, Result as ResultOf, access_value, are_followed, are_walked, first_type, is_dereferenced, located_code, onward_code, part_code, selects_code}
use Rattle.ctl_layout.specs.Values.{ValueCode}
use Rattle.ctl_emitter.proofs.Walked.{start_of, steps_before, steps_of}
use Rattle.ctl_gen.proofs.Place.{Laid, laid_front, laid_back}
use Rattle.ctl_gen.proofs.Known.{both_true}
use Rattle.ctl_gen.proofs.Worlds.{Since}
use Rattle.ctl_gen.proofs.Setting.{IsSeen, tools_with}
use Rattle.ctl_gen.proofs.Cells.{Any, OneRecord, by_code, landed, landed_record}
use Rattle.ctl_gen.proofs.Worth.{both_cell}
use Rattle.ctl_gen.proofs.Expressions.{Begins, Value}
use Rattle.ctl_gen.proofs.Parts.{Agree, AgreePart, OfCells, OfObject, Puts, component_at, component_found, component_is, component_word, dereferences_value, designates, find_by, found_at, on_top, selects, stepping, variable_from, word}
use Rattle.ctl_gen.proofs.Follow.{RunsTo, added_to, at, bind_add, bind_bind, both_to, by_raise, one_step_to, transferred}

-- a value that is dereferenced, of which the tick of the dereference is left
paid_once : {A : Type 0} (o : Out Found) (f : Result Found → Act Found) (g : Result Found → Act A) → bind (add 0 (bind (add 1 (add 0 o)) f)) g ≡ add 0 (add 1 (add 0 (bind (bind o f) g)))
paid_once o f g =
    ap (λ z. bind (add 0 z) g) (bind_add 1 (add 0 o) f ∙ ap (add 1) (bind_add 0 o f))
    ∙ bind_add 0 (add 1 (add 0 (bind o f))) g
    ∙ ap (add 0) (bind_add 1 (add 0 (bind o f)) g ∙ ap (add 1) (bind_add 0 (bind o f) g))

-- nothing is taken of the whole where no dereference comes first
none_first : (steps : List Step) (t : ℕ) (s : List Kind) → is_dereferenced steps ≡ false → onward_code steps t s ≡ selects_code steps t s
none_first [] t s h = refl
none_first (Component u i ∷ steps) t s h = refl
none_first (Narrow u ∷ steps) t s h = refl
none_first (Dereference ∷ steps) t s h = absurd (cc h)

-- in the worlds since an earlier one, while no more than the bound is on the clock
module _ (ask : Ask) (k : Tables) (code : Code) (bound : ℕ) (w0 : World) where
  -- an evaluation of a record, whose first tick pays all but eight of its steps
  pub record BeginsRecord (n : ℕ) (s : State) (c : ℕ) (next : Result (List ℕ) → Log → World → State) (o : Out (List ℕ)) : Type 0 where
    pub out : Out (List ℕ)
    pub is : o ≡ add 1 out
    pub runs : RunsTo ask code (OneRecord (Since k code w0) n) 8 8 s c next out

  -- the lines of a value put as a new operand what this act gives: the one cell of an access value, or those of a record
  abbrev pub Starts : Start → (List ℕ → Act (List ℕ)) → Type 0
  Starts (OfVariable v) act = Unit {0}
  Starts (OfValue runs lines) act = (s : List Kind) (d : List ℕ) (place : ℕ) (ks : List Frame) (ops : List Word) (c : ℕ) (l : Log) (w : World) → c ≤ bound → Since k code w0 w → IsSeen w0 d s → Laid code place (lines s) → Begins ask k code bound w0 Any (at d place ks ops l w) c (landed NamedOf.Operand d (place + length (lines s)) ks ops) (act d c l w)
  Starts (OfRecord t runs lines) act = (s : List Kind) (d : List ℕ) (place : ℕ) (ks : List Frame) (ops : List Word) (c : ℕ) (l : Log) (w : World) → c ≤ bound → Since k code w0 w → IsSeen w0 d s → Laid code place (lines s) → BeginsRecord (size_of code t) (at d place ks ops l w) c (landed_record d (place + length (lines s)) ks ops) (act d c l w)

  -- as those of a value do
  pub value_starts : (runs : List RecordType → Bool) (x : ValueCode) (act : List ℕ → Act (List ℕ)) → Value ask k code bound w0 x act → Starts (OfValue runs (λ s. x.code (new_operand s) access_value s)) act
  value_starts runs x act value s d place ks ops c l w le fits long has = value.begins (new_operand s) access_value s d place ks ops c l w le fits long has

  -- what follows the value of a record of so many cells, or where it leaves
  record_then : {B : Type 0} (Ends : Result B → World → Type 0) (n b h d e : ℕ) (s : State) (c : ℕ) (mid : Result (List ℕ) → Log → World → State) (next : Result B → Log → World → State) (o : Out (List ℕ)) (f : Result (List ℕ) → Act B) → 8 + b ≤ d → 8 ≤ e → 8 + h ≤ e → RunsTo ask code (OneRecord (Since k code w0) n) 8 8 s c mid o
      → ((v : List ℕ) (c1 : ℕ) (l : Log) (w : World) → c1 ≤ c → Since k code w0 w → first_cells n v ≡ v → RunsTo ask code Ends b h (mid (Goes v) l w) c1 next (f (Goes v) c1 l w))
      → ((y c1 : ℕ) (l : Log) (w : World) → c1 ≤ c → Since k code w0 w → RunsTo ask code Ends b h (mid (Leaves (ByRaise y)) l w) c1 next (f (Leaves (ByRaise y)) c1 l w))
      → RunsTo ask code Ends d e s c next (bind o f)
  record_then Ends n b h d e s c mid next o f le he fe a z y = both_to ask code (OneRecord (Since k code w0) n) Ends 8 8 b h d e s c mid next o f le he fe a by
    where
      by : (r : Result (List ℕ)) (c1 : ℕ) (l : Log) (w : World) → c1 ≤ c → OneRecord (Since k code w0) n r w → RunsTo ask code Ends b h (mid r l w) c1 next (f r c1 l w)
      by (Goes u) c1 l w lo is = z u c1 l w lo is.0 is.1
      by (Leaves x) c1 l w lo is = by_raise (λ v. RunsTo ask code Ends b h (mid (Leaves v) l w) c1 next (f (Leaves v) c1 l w)) (λ v. y v c1 l w lo is.0) x is.1

  -- from its first line to what takes it: its first tick pays for that too
  pub record_taken : {B : Type 0} (Ends : Result B → World → Type 0) (next : Result B → Log → World → State) (f : Result (List ℕ) → Act B) (d : List ℕ) (ks : List Frame) (ops : List Word) (b h : ℕ) → b ≤ 48 → h ≤ 48 → (u : ℕ) (runs : List RecordType → Bool) (lines : List Kind → List Line) (act : List ℕ → Act (List ℕ)) → Starts (OfRecord u runs lines) act → (s : List Kind) (place c : ℕ) (l : Log) (w : World) → c ≤ bound → Since k code w0 w → IsSeen w0 d s → Laid code place (lines s)
      → ((v : List ℕ) (c1 : ℕ) (l1 : Log) (w1 : World) → c1 ≤ c → Since k code w0 w1 → first_cells (size_of code u) v ≡ v → RunsTo ask code Ends b h (at d (place + length (lines s)) ks (Cells v ∷ ops) l1 w1) c1 next (f (Goes v) c1 l1 w1))
      → ((y c1 : ℕ) (l1 : Log) (w1 : World) → c1 ≤ c → Since k code w0 w1 → RunsTo ask code Ends b h (transferred (ByRaise y) ks l1 w1) c1 next (f (Leaves (ByRaise y)) c1 l1 w1))
      → RunsTo ask code Ends 0 0 (at d place ks ops l w) c next (bind (act d c l w) f)
  record_taken Ends next f d ks ops b h lb lh u runs lines act begun s place c l w le fits long has then left =
      let x = begun s d place ks ops c l w le fits long has in
      let s0 = at d place ks ops l w in
      subst (RunsTo ask code Ends 0 0 s0 c next) (sym (ap (λ o. bind o f) x.is ∙ bind_add 1 x.out f))
      (added_to ask code Ends 1 (b + 8) (h + 8) 0 0 s0 c next (bind x.out f) (omega (arith, lb)) (omega (arith, lh))
      (record_then Ends (size_of code u) b h (b + 8) (h + 8) s0 c (landed_record d (place + length (lines s)) ks ops) next x.out f (omega arith) (omega arith) (omega arith) x.runs then left))

  module _ (call : Call) (default : Default) {A : Type 0} (Ends : Result A → World → Type 0) (next : Result A → Log → World → State) where
    abbrev K : Tools
    K = tools_with ask k call default

    module _ (g : Result Found → Act A) (d : List ℕ) (ks : List Frame) (ops : List Word) where
      -- what follows a name, in each world since then: the part is on top, or an exception is under way
      abbrev pub Follows : ℕ → ℕ → ℕ → ℕ → Type 0
      Follows c b h place = (c1 : ℕ) (l1 : Log) (w1 : World) → c1 ≤ c → Since k code w0 w1 → Puts ask code K Ends next g d ks ops c1 l1 w1 b h place

      abbrev pub Left : ℕ → ℕ → ℕ → Type 0
      Left c b h = (y c1 : ℕ) (l1 : Log) (w1 : World) → c1 ≤ c → Since k code w0 w1 → RunsTo ask code Ends b h (transferred (ByRaise y) ks l1 w1) c1 next (g (Leaves (ByRaise y)) c1 l1 w1)

      -- what follows the value of a name
      abbrev behind_value : List Step → Result (List ℕ) → Act A
      behind_value steps r c l w = bind (bind (on_goes (λ v. done (Alone v)) r c l w) (on_goes (walk K steps))) g

      -- its dereference, and the steps behind that
      dereferences : (b h n : ℕ) (steps : List Step) (t : ℕ) (s : List Kind) (place c : ℕ) (l : Log) (w : World) → Since k code w0 w → are_walked steps ≡ true → Agree k code (Dereference ∷ steps) → Laid code place (selects_code (Dereference ∷ steps) t s) → Follows c b h (place + length (selects_code (Dereference ∷ steps) t s)) → Left c b h → RunsTo ask code Ends b h (at d place ks (Scalar n ∷ ops) l w) c next (behind_value (Dereference ∷ steps) (Goes (n ∷ [])) c l w)
      unfolding opened_outcome
      dereferences b h n steps t s place c l w fits walked agree has then left =
          let s0 = at d place ks (Scalar n ∷ ops) l w in
          let o = dereferenced n c l w in
          let raises = left constraint_error c l w (omega arith) fits in
          let e : place + length (selects_code (Dereference ∷ steps) t s) ≡ place + 1 + length (onward_code steps t s) = omega arith in
          let puts = subst (Puts ask code K Ends next g d ks ops c l w b h) e (then c l w (omega arith) fits) in
          subst (RunsTo ask code Ends b h s0 c next) (sym (ap (λ z. bind (add 0 z) g) (dereferences_value K n steps c l w) ∙ paid_once o (on_goes (walk K steps)) g))
          (added_to ask code Ends 0 b h b h s0 c next _ (omega arith) (omega arith)
          (added_to ask code Ends 1 (b + 3) (h + 3) b h s0 c next _ (omega arith) (omega arith)
          (added_to ask code Ends 0 (b + 3) (h + 3) (b + 3) (h + 3) s0 c next _ (omega arith) (omega arith)
          (designates ask code K Ends next g d ks ops c l w b h n (first_type steps t) (height s) place (walk K steps) has.0
          (λ m. selects ask code K Ends next g d ks ops c l w b h steps t s (OfObject (whole_spot m)) (place + 1) walked agree.1 has.2 puts raises) raises))))

      -- the value, whose first tick pays for its steps, and then that
      value_from : (b h : ℕ) (runs : List RecordType → Bool) (lines : List Kind → List Line) (act : List ℕ → Act (List ℕ)) → Starts (OfValue runs lines) act → (steps : List Step) (t : ℕ) (s : List Kind) (place c : ℕ) (l : Log) (w : World) → are_walked steps ≡ true → Agree k code (Dereference ∷ steps) → c ≤ bound → Since k code w0 w → IsSeen w0 d s → Laid code place (lines s ++ selects_code (Dereference ∷ steps) t s) → Follows c b h (place + length (lines s ++ selects_code (Dereference ∷ steps) t s)) → Left c b h → RunsTo ask code Ends b h (at d place ks ops l w) c next (bind (act d c l w) (behind_value (Dereference ∷ steps)))
      unfolding opened_outcome
      value_from b h runs lines act begun steps t s place c l w walked agree le fits long has then left =
          let front = lines s in
          let back = selects_code (Dereference ∷ steps) t s in
          let x = begun s d place ks ops c l w le fits long (laid_front code place front back has) in
          let there = place + length front in
          let rest = laid_back code place front back has in
          let f = behind_value (Dereference ∷ steps) in
          let s0 = at d place ks ops l w in
          let e : place + length (front ++ back) ≡ there + length back = omega (arith, length-append front back) in
          subst (RunsTo ask code Ends b h s0 c next) (sym (ap (λ o. bind o f) x.is ∙ bind_add 1 x.out f))
          (added_to ask code Ends 1 (b + 8) (h + 8) b h s0 c next (bind x.out f) (omega arith) (omega arith)
          (both_cell ask code (Since k code w0) Ends Any 8 8 b h (b + 8) (h + 8) s0 c (landed NamedOf.Operand d there ks ops) next x.out f (omega arith) (omega arith) (omega arith) x.runs
          (λ n c1 l1 w1 lo fits1 p.
          subst (λ z. RunsTo ask code Ends b h z c1 next (f (Goes (n ∷ [])) c1 l1 w1)) (sym (on_top n d there ks ops l1 w1))
          (dereferences b h n steps t s there c1 l1 w1 fits1 walked agree rest
          (λ c2 l2 w2 lo2 fits2. subst (Puts ask code K Ends next g d ks ops c2 l2 w2 b h) e (then c2 l2 w2 (omega (arith, lo, lo2)) fits2))
          (λ y c2 l2 w2 lo2 fits2. left y c2 l2 w2 (omega (arith, lo, lo2)) fits2)))
          (λ y c1 l1 w1 lo fits1. added_to ask code Ends 0 b h b h _ c1 next (g (Leaves (ByRaise y)) c1 l1 w1) (omega arith) (omega arith) (left y c1 l1 w1 lo fits1))))

      -- the value of a record, and its components
      record_from : (b h : ℕ) (u : ℕ) (runs : List RecordType → Bool) (lines : List Kind → List Line) (act : List ℕ → Act (List ℕ)) → Starts (OfRecord u runs lines) act → (steps : List Step) (t : ℕ) (s : List Kind) (place c : ℕ) (l : Log) (w : World) → are_walked steps ≡ true → is_dereferenced steps ≡ false → Agree k code steps → c ≤ bound → Since k code w0 w → IsSeen w0 d s → Laid code place (lines s ++ selects_code steps t s) → Follows c b h (place + length (lines s ++ selects_code steps t s)) → Left c b h → RunsTo ask code Ends b h (at d place ks ops l w) c next (bind (act d c l w) (behind_value steps))
      unfolding opened_outcome
      record_from b h u runs lines act begun steps t s place c l w walked whole agree le fits long has then left =
          let front = lines s in
          let back = selects_code steps t s in
          let x = begun s d place ks ops c l w le fits long (laid_front code place front back has) in
          let there = place + length front in
          let onward : onward_code steps t s ≡ back = none_first steps t s whole in
          let rest = subst (Laid code there) (sym onward) (laid_back code place front back has) in
          let f = behind_value steps in
          let s0 = at d place ks ops l w in
          let e : place + length (front ++ back) ≡ there + length (onward_code steps t s) = let long1 = length-append front back in let same = ap length onward in omega (arith, long1, same) in
          subst (RunsTo ask code Ends b h s0 c next) (sym (ap (λ o. bind o f) x.is ∙ bind_add 1 x.out f))
          (added_to ask code Ends 1 (b + 8) (h + 8) b h s0 c next (bind x.out f) (omega arith) (omega arith)
          (record_then Ends (size_of code u) b h (b + 8) (h + 8) s0 c (landed_record d there ks ops) next x.out f (omega arith) (omega arith) (omega arith) x.runs
          (λ v c1 l1 w1 lo fits1 whole1.
          let puts = subst (Puts ask code K Ends next g d ks ops c1 l1 w1 b h) e (then c1 l1 w1 lo fits1) in
          let o = walk K steps (Alone v) c1 l1 w1 in
          let s1 = at d there ks (Cells v ∷ ops) l1 w1 in
          subst (RunsTo ask code Ends b h s1 c1 next) (sym (bind_add 0 o g))
          (added_to ask code Ends 0 b h b h s1 c1 next (bind o g) (omega arith) (omega arith)
          (selects ask code K Ends next g d ks ops c1 l1 w1 b h steps t s (OfCells v) there walked agree rest puts (left constraint_error c1 l1 w1 lo fits1))))
          (λ y c1 l1 w1 lo fits1. added_to ask code Ends 0 b h b h _ c1 next (g (Leaves (ByRaise y)) c1 l1 w1) (omega arith) (omega arith) (left y c1 l1 w1 lo fits1))))

      -- what a name begins with, and the steps behind it
      pub located_then : (b h : ℕ) (first : Start) (act : List ℕ → Act (List ℕ)) → Starts first act → (steps : List Step) (t : ℕ) (s : List Kind) (place c : ℕ) (l : Log) (w : World) → are_followed first steps ≡ true → Agree k code steps → c ≤ bound → Since k code w0 w → IsSeen w0 d s → Laid code place (located_code first steps t s) → Follows c b h (place + length (located_code first steps t s)) → Left c b h → RunsTo ask code Ends b h (at d place ks ops l w) c next (bind (find_by K act steps first d c l w) g)
      unfolding opened_outcome
      located_then b h (OfVariable v) act begun steps t s place c l w followed agree le fits long has then left = variable_from ask code K Ends next g d ks ops c l w b h v steps t s place followed agree long.2 has (then c l w (omega arith) fits) (left constraint_error c l w (omega arith) fits)
      located_then b h (OfValue runs lines) act begun (Dereference ∷ steps) t s place c l w followed agree le fits long has then left =
          let s0 = at d place ks ops l w in
          let alone : Result (List ℕ) → Act Found = on_goes (λ v. done (Alone v)) in
          let walks : Result Found → Act Found = on_goes (walk K (Dereference ∷ steps)) in
          subst (RunsTo ask code Ends b h s0 c next) (sym (ap (λ z. bind z g) (bind_bind (act d c l w) alone walks) ∙ bind_bind (act d c l w) (λ r c1 l1 w1. bind (alone r c1 l1 w1) walks) g))
          (value_from b h runs lines act begun steps t s place c l w followed agree le fits long has then left)
      located_then b h (OfRecord u runs lines) act begun steps t s place c l w followed agree le fits long has then left =
          let s0 = at d place ks ops l w in
          let alone : Result (List ℕ) → Act Found = on_goes (λ v. done (Alone v)) in
          let walks : Result Found → Act Found = on_goes (walk K steps) in
          let both = both_true (not (is_dereferenced steps)) (are_walked steps) followed in
          subst (RunsTo ask code Ends b h s0 c next) (sym (ap (λ z. bind z g) (bind_bind (act d c l w) alone walks) ∙ bind_bind (act d c l w) (λ r c1 l1 w1. bind (alone r c1 l1 w1) walks) g))
          (record_from b h u runs lines act begun steps t s place c l w both.1 (not-true _ both.0) agree le fits long has then left)
      located_then b h (OfValue runs lines) act begun [] t s place c l w followed agree le fits long has then left = absurd (cc followed)
      located_then b h (OfValue runs lines) act begun (Component u i ∷ steps) t s place c l w followed agree le fits long has then left = absurd (cc followed)
      located_then b h (OfValue runs lines) act begun (Narrow u ∷ steps) t s place c l w followed agree le fits long has then left = absurd (cc followed)

    -- the same of the part that a name denotes
    module _ (g : Result Found → Act A) (d : List ℕ) (ks : List Frame) (ops : List Word) where
      pub part_then : (b h : ℕ) (x : Reached) (act : List ℕ → Act (List ℕ)) → Starts (start_of x) act → (t : ℕ) (s : List Kind) (place c : ℕ) (l : Log) (w : World) → are_followed (start_of x) (steps_before x) ≡ true → AgreePart k code x → c ≤ bound → Since k code w0 w → IsSeen w0 d s → Laid code place (part_code x t s) → Follows g d ks ops c b h (place + length (part_code x t s)) → Left g d ks ops c b h → RunsTo ask code Ends b h (at d place ks ops l w) c next (bind (find_by K act (steps_of x) (start_of x) d c l w) g)
      unfolding opened_outcome
      part_then b h (Variable v) act begun t s place c l w followed agree le fits long has then left = located_then g d ks ops b h (OfVariable v) act begun [] t s place c l w followed tt le fits long has then left
      part_then b h (Object first steps) act begun t s place c l w followed agree le fits long has then left = located_then g d ks ops b h first act begun steps t s place c l w followed agree le fits long has then left
      part_then b h (ResultOf first) act begun t s place c l w followed agree le fits long has then left = located_then g d ks ops b h first act begun [] t s place c l w followed tt le fits long has then left
      part_then b h (Part first steps u position) act begun t s place c l w followed agree le fits long has then left =
          let front = located_code first steps u s in
          let last : List Line = (InstrOf.Select u position t, Operand (Record u) ∷ s) ∷ [] in
          let end : place + length (part_code (Part first steps u position) t s) ≡ place + length front + 1 = omega (arith, length-append front last) in
          let offset = offset_in position (placed k u) in
          let selected : Result Found → Act A = λ r c1 l1 w1. bind (on_goes (stepping k u position) r c1 l1 w1) g in
          subst (RunsTo ask code Ends b h (at d place ks ops l w) c next) (sym (ap (λ o. bind o g) (component_found K act first steps u position d c l w) ∙ bind_bind (find_by K act steps first d c l w) (on_goes (stepping k u position)) g))
          (located_then selected d ks ops b h first act begun steps u s place c l w followed agree.0 le fits long (laid_front code place front last has)
          (λ c1 l1 w1 lo fits1 p.
          let q = component_at p offset position in
          let s0 = at d (place + length front) ks (word p ∷ ops) l1 w1 in
          subst (λ x. RunsTo ask code Ends b h s0 c1 next (add 1 (g (Goes x) c1 l1 w1))) (sym (component_is p offset position))
          (added_to ask code Ends 1 (b + 1) (h + 1) b h s0 c1 next _ (omega arith) (omega arith)
          (one_step_to ask code Ends b h (b + 1) (h + 1) s0 (at d (place + length front + 1) ks (word q ∷ ops) l1 w1) c1 c1 next _ (omega arith) (omega arith) (omega arith) (omega arith)
          (by_code ask code d (place + length front) ks (word p ∷ ops) l1 w1 (InstrOf.Select u position t) (laid_back code place front last has).0
          ∙ ap (λ j. at d (place + length front + 1) ks (component_in (word p) j position ∷ ops) l1 w1) agree.1
          ∙ ap (λ y. at d (place + length front + 1) ks (y ∷ ops) l1 w1) (component_word p offset position))
          (subst (λ z. RunsTo ask code Ends b h (at d z ks (word q ∷ ops) l1 w1) c1 next (g (Goes (found_at q)) c1 l1 w1)) end (then c1 l1 w1 lo fits1 q)))))
          (λ y c1 l1 w1 lo fits1. added_to ask code Ends 0 b h b h _ c1 next (g (Leaves (ByRaise y)) c1 l1 w1) (omega arith) (omega arith) (left y c1 l1 w1 lo fits1)))
