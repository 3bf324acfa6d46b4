-- Allocators as values: the code of one creates an object for the collection of its access type, by default or with a value, and puts the access
-- value where it is wanted, or raises, as it means (4.8).
use Rattle.std.proofs.Common.{◌≡◌, ℕ, zero, suc, ◌+◌, ◌≤◌, List, [], ◌∷◌, ◌++◌, length, append_assoc, length-append, Option, Some, None, true, refl, sym, ap, ◌∙◌, subst, arith, inl}
use Rattle.std.specs.Prelude.{slice_get}
use Rattle.ctl_program.specs.declared.types.Ty.{Ty}
use Rattle.ctl_program.specs.declared.types.Ty.TheVariants.{Record}
use Rattle.ctl_program.specs.declared.expression.Actual.TheOpen.{Expr-F}
use Rattle.ctl_tree.specs.declared.ending.Stop.TheVariants.{UseAfterFree}
use Rattle.ctl_meaning.specs.World.{Object, Log, World}
use Rattle.ctl_meaning.specs.Lists.{opened_lists}
use Rattle.ctl_meaning.specs.Objects.{cells_at, first_cells}
use Rattle.ctl_meaning.specs.Changes.{object_at}
use Rattle.ctl_meaning.specs.Choice.{Ask}
use Rattle.ctl_meaning.specs.Outcome.{ByRaise, Result, Goes, Leaves, Out, Gives, Stops, Cut, Act, add, bind, on_goes, ◌>>=◌, done, spend, opened_outcome}
use Rattle.ctl_meaning.specs.Types.{Tables}
use Rattle.ctl_meaning.specs.Names.{OfAllocator, Returned, Call, Default, Tools, scalar_of}
use Rattle.ctl_meaning.specs.Expressions.{Valued, eval_step, opened_expressions}
use Rattle.ctl_code.specs.declared.code.Cell.{Cell}
use Rattle.ctl_code.specs.declared.code.Code.{Code}
use Rattle.ctl_code.specs.declared.code.Instr.{Instr}
use Rattle.ctl_code.specs.declared.code.Instr.TheVariants as InstrOf
use Rattle.ctl_code.specs.declared.kinds.Kind.{Kind}
use Rattle.ctl_code.specs.declared.kinds.Kind.TheVariants.{Operand, RecordValue}
use Rattle.ctl_code.specs.States.{Word, Scalar, Located, Cells, AfterFunction, Frame, State}
use Rattle.ctl_code.specs.Table as Table
use Rattle.ctl_code.specs.Table.{pool_in, set_seen, size_of as code_size}
use Rattle.ctl_code.specs.Steps.{moved, step}
use Rattle.ctl_code.specs.Valid.{IsAllocable, over_numbers}
use Rattle.ctl_code.specs.Windows.{depth, height}
use Rattle.ctl_layout.specs.Around.{Line, new_operand}
use Rattle.ctl_layout.specs.Parts.{Reached, part_code, part_runs}
use Rattle.ctl_layout.specs.Values.{ValueCode, address_numbers, allocator_code, moved_to, new, new_copy, new_given}
use Rattle.ctl_gen.proofs.Known.{IsPlainType, IsScalar}
use Rattle.ctl_gen.proofs.Worlds.{Since}
use Rattle.ctl_gen.proofs.Allocable.{may_allocate}
use Rattle.ctl_gen.proofs.Setting.{Setting, Allocates, Calls, IsGiven, IsSeen, IsServed, Made, ByDefault, Copied, made_type, made_value, allocator_steps, behind_allocator, by_allocator, returned_to, tools_with}
use Rattle.ctl_gen.proofs.Allocators.{steps_enough}
use Rattle.ctl_gen.proofs.Cells.{Any, OneCell, by_code, here, landed, landed_leaves}
use Rattle.ctl_gen.proofs.Place.{Laid, laid_front, laid_back}
use Rattle.ctl_gen.proofs.Calls.{point_at}
use Rattle.ctl_gen.proofs.Expressions.{Value, moved_by}
use Rattle.ctl_gen.proofs.Worth.{both_cell}
use Rattle.ctl_gen.proofs.Sources.{Reads}
use Rattle.ctl_gen.proofs.Parts.{OfCells, OfObject, RecordOperand, word}
use Rattle.ctl_gen.proofs.PartValues.{taken, taken_from, value_then}
use Rattle.ctl_gen.proofs.Follow.{RunsTo, add_none, added_to, at, bind_add, both_to, by_raise, no_step_to, one_step_to, stop_step_to, transferred, within_to}

module _ (ask : Ask) (k : Tables) (code : Code) (setting : Setting k code) (call : Call) (default : Default) (bound : ℕ) (calls : Calls ask k code setting bound call) (w0 : World) (access : ℕ) where
  abbrev V : Tools
  V = tools_with ask k call default

  -- its one cell
  abbrev cells : Returned → Act (List ℕ)
  cells r = done r.cells

  -- a new operand, and then where it is wanted
  value_runs : (to : Cell) (ty : Ty) (s : List Kind) (d : List ℕ) (place : ℕ) (ks : List Frame) (ops : List Word) → Laid code place (moved_to to ty s) → (r : Result Returned) (c : ℕ) (l : Log) (w : World) → Allocates k code w0 r w → RunsTo ask code (OneCell (Since k code w0) Any) 1 1 (returned_to (AfterFunction None (point_at d place ops)) ks r l w) c (landed to.named d (place + length (moved_to to ty s)) ks ops) (on_goes cells r c l w)
  unfolding opened_outcome scalar_of opened_lists
  value_runs to ty s d place ks ops has (Goes r) c l w h = by r.cells h.0.0 h.0.1
    where
      one : (n : ℕ) → RunsTo ask code (OneCell (Since k code w0) Any) 1 1 (at d place ks (Scalar (scalar_of (n ∷ [])) ∷ ops) l w) c (landed to.named d (place + length (moved_to to ty s)) ks ops) (Gives (Goes (n ∷ [])) 0 c l w)
      one n = moved_by ask k code bound w0 to.at to.named ty s n d place ks ops c l w h.1 has

      by : (u : List ℕ) (n : ℕ) → u ≡ n ∷ [] → RunsTo ask code (OneCell (Since k code w0) Any) 1 1 (at d place ks (Scalar (scalar_of u) ∷ ops) l w) c (landed to.named d (place + length (moved_to to ty s)) ks ops) (Gives (Goes u) 0 c l w)
      by u n is =
          subst (λ v. RunsTo ask code (OneCell (Since k code w0) Any) 1 1 (at d place ks (Scalar (scalar_of v) ∷ ops) l w) c (landed to.named d (place + length (moved_to to ty s)) ks ops) (Gives (Goes v) 0 c l w)) (sym is)
          (one n)
  value_runs to ty s d place ks ops has (Leaves y) c l w h =
      by_raise (λ v. RunsTo ask code (OneCell (Since k code w0) Any) 1 1 (transferred v ks l w) c (landed to.named d (place + length (moved_to to ty s)) ks ops) (Gives (Leaves v) 0 c l w))
      (λ e. no_step_to ask code (OneCell (Since k code w0) Any) 1 1 _ c 0 (landed to.named d (place + length (moved_to to ty s)) ks ops) (Leaves (ByRaise e)) l w (h.1, tt) (landed_leaves to.named d (place + length (moved_to to ty s)) ks ops (ByRaise e) l w)) y h.0

  -- what it is once its value is there, behind the one that it takes from the clock
  abbrev allocated : Ty → List ℕ → Option (List ℕ) → Act (List ℕ)
  allocated of d value = call (OfAllocator access of None value) d >>= cells

  -- from its step, with the operands that it leaves, to where its value is wanted
  step_runs : (m : Made) → IsPlainType k (made_type m) → (to : Cell) (ty : Ty) (s : List Kind) (d : List ℕ) (place : ℕ) (ks : List Frame) (ops : List Word) (c : ℕ) (l : Log) (w : World) (s0 : State) → c + 1 ≤ bound → Since k code w0 w → IsSeen w0 d s → IsAllocable code (depth s) access (made_type m) → IsServed code m place → Laid code (behind_allocator place) (moved_to to ty s) → step ask code s0 ≡ moved l (by_allocator code m (pool_in (slice_get code.accesses.items access)) (set_seen (slice_get code.accesses.items access) d w) ops (here d place ks w)) → RunsTo ask code (OneCell (Since k code w0) Any) 7 (allocator_steps m) s0 c (landed to.named d (behind_allocator place + length (moved_to to ty s)) ks ops) (allocated (made_type m) d (made_value m) c l w)
  unfolding opened_outcome
  step_runs m plain to ty s d place ks ops c l w s0 le fits long allocable served has first =
      let p = behind_allocator place in
      both_to ask code (Allocates k code w0) (OneCell (Since k code w0) Any) 6 (allocator_steps m) 1 1 7 (allocator_steps m) s0 c (returned_to (AfterFunction None (point_at d p ops)) ks) (landed to.named d (p + length (moved_to to ty s)) ks ops) (call (OfAllocator access (made_type m) None (made_value m)) d c l w) (on_goes cells) (omega arith) (omega arith) (steps_enough m)
      (calls.allocates access m plain w0 d place ks ops c l w s0 le fits (may_allocate k code access (made_type m) d s w0 w allocable long fits) served first)
      (λ r c1 l1 w1 lo1 h. value_runs to ty s d p ks ops has r c1 l1 w1 h)

  -- By default ----------------------------------------------------------------------------------------

  module _ (of : Ty) (plain : IsPlainType k of) where
    means : (d : List ℕ) (c : ℕ) (l : Log) (w : World) → eval_step (Expr-F.New access of None None) V d c l w ≡ add 1 (spend (allocated of d None) c l w)
    unfolding opened_expressions opened_outcome
    means d zero l w = refl
    means d (suc c) l w = ap (λ o. add 1 (bind o (on_goes cells))) (add_none (call (OfAllocator access of None None) d c l w))

    runs : (to : Cell) (ty : Ty) (s : List Kind) (d : List ℕ) (place : ℕ) (ks : List Frame) (ops : List Word) (c : ℕ) (l : Log) (w : World) → c ≤ bound → Since k code w0 w → IsSeen w0 d s → Laid code place ((new access of None None).code to ty s) → RunsTo ask code (OneCell (Since k code w0) Any) 8 8 (at d place ks ops l w) c (landed to.named d (place + length ((new access of None None).code to ty s)) ks ops) (spend (allocated of d None) c l w)
    unfolding opened_outcome
    runs to ty s d place ks ops zero l w le fits long has = record { n = 0; in_time = omega arith; logged = refl; going = tt; why = inl (omega arith) }
    runs to ty s d place ks ops (suc c) l w le fits long has =
        let i = InstrOf.New access of ty (height s) in
        let rest = has.2 in
        let served : IsServed code (ByDefault of) (place + 1) = (ty, height s, rest.2.0) in
        let end : place + 1 + 1 + 1 + length (moved_to to ty s) ≡ place + length ((new access of None None).code to ty s) = omega arith in
        let skipped : place + 1 + 0 ≡ place + 1 = omega arith in
        subst (λ q. RunsTo ask code (OneCell (Since k code w0) Any) 8 8 (at d place ks ops l w) (suc c) (landed to.named d q ks ops) (allocated of d None c l w)) end
        (one_step_to ask code (OneCell (Since k code w0) Any) 7 7 8 8 (at d place ks ops l w) (at d (place + 1) ks ops l w) (suc c) c (landed to.named d (place + 1 + 1 + 1 + length (moved_to to ty s)) ks ops) (allocated of d None c l w) (omega arith) (omega arith) (omega arith) (omega arith)
        (by_code ask code d place ks ops l w (InstrOf.Skip 0) has.0 ∙ ap (λ q. at d q ks ops l w) skipped)
        (step_runs (ByDefault of) plain to ty s d (place + 1) ks ops c l w _ (omega (arith, le)) fits long (setting.valid.each (place + 1) i s rest.0 rest.1).1 served rest.2.2 (by_code ask code d (place + 1) ks ops l w i rest.0)))

    pub new_value : Value ask k code bound w0 (new access of None None) (eval_step (Expr-F.New access of None None) V)
    new_value = record {
      begins = λ to ty s d place ks ops c l w le fits long has. record { out = spend (allocated of d None) c l w; is = means d c l w; runs = runs to ty s d place ks ops c l w le fits long has };
      constant = λ n is d c l w. absurd (cc);
      variable = λ y is d c l w. absurd (cc);
    }

  -- With a value --------------------------------------------------------------------------------------

  module _ (of : Ty) (m : Valued) where
    -- the value, and then the allocator
    abbrev valued : List ℕ → Act (List ℕ)
    valued d = m V d >>= (λ v. allocated of d (Some v))

    valued_is : (d : List ℕ) (o : Out (List ℕ)) → bind (bind (add 0 (bind (bind o (on_goes (λ v. done (Some v)))) (on_goes (λ v. done (None, v))))) (on_goes (λ (p : Option (List ℕ) × Option (List ℕ)). call (OfAllocator access of p.0 p.1) d))) (on_goes cells) ≡ bind o (on_goes (λ v. allocated of d (Some v)))
    unfolding opened_outcome
    valued_is d (Gives (Goes v) n c l w) =
        let e : 0 + (n + 0 + 0) ≡ n = omega arith in
        bind_add (0 + (n + 0 + 0)) (call (OfAllocator access of None (Some v)) d c l w) (on_goes cells) ∙ ap (λ i. add i (allocated of d (Some v) c l w)) e
    valued_is d (Gives (Leaves y) n c l w) = let e : 0 + (n + 0 + 0) + 0 + 0 ≡ n + 0 = omega arith in ap (λ i. Gives (Leaves y) i c l w) e
    valued_is d (Stops why n l) = let e : 0 + n ≡ n = omega arith in ap (λ i. Stops why i l) e
    valued_is d (Cut n c l) = let e : 0 + n ≡ n = omega arith in ap (λ i. Cut i c l) e

    value_means : (d : List ℕ) (c : ℕ) (l : Log) (w : World) → eval_step (Expr-F.New access of None (Some m)) V d c l w ≡ add 1 (spend (valued d) c l w)
    unfolding opened_expressions opened_outcome
    value_means d zero l w = refl
    value_means d (suc c) l w = ap (add 1) (valued_is d (m V d c l w))

  -- Of a record type, with the value of a part, or of a function ----------------------------------------

  module _ (t : ℕ) (plain : IsPlainType k (Record t)) (m : Valued) (x : Reached) (known : Reads ask k code call default bound w0 t x m) (walks : part_runs x k.records ≡ true) where
    -- over the part whose value it is, or that value
    over_part : (q : RecordOperand) (to : Cell) (ty : Ty) (s : List Kind) (d : List ℕ) (place : ℕ) (ks : List Frame) (ops : List Word) (c : ℕ) (l : Log) (w : World) → c + 1 ≤ bound → Since k code w0 w → IsSeen w0 d s → Laid code place ((InstrOf.NewCopy access t ty (height s), Operand (Record t) ∷ s) ∷ (InstrOf.NewCopyIn t ty (height s), over_numbers address_numbers (RecordValue ∷ s)) ∷ moved_to to ty s) → RunsTo ask code (OneCell (Since k code w0) Any) 8 8 (at d place ks (word q ∷ ops) l w) c (landed to.named d (place + 1 + 1 + length (moved_to to ty s)) ks ops) (taken ask k code setting call default t plain (λ v. allocated (Record t) d (Some v)) q c l w)
    over_part (OfCells v) to ty s d place ks ops c l w le fits long has =
        let i = InstrOf.NewCopy access t ty (height s) in
        let s0 = at d place ks (Cells v ∷ ops) l w in
        within_to ask code (OneCell (Since k code w0) Any) 7 8 8 8 s0 c (landed to.named d (place + 1 + 1 + length (moved_to to ty s)) ks ops) _ (omega arith) (omega arith)
        (step_runs (Copied t (first_cells (code_size code t) v)) plain to ty s d place ks ops c l w s0 le fits long (setting.valid.each place i (Operand (Record t) ∷ s) has.0 has.1).1 (ty, height s, has.2.0) has.2.2 (by_code ask code d place ks (Cells v ∷ ops) l w i has.0))
    over_part (OfObject q) to ty s d place ks ops c l w le fits long has = by (object_at q.object w) (by_code ask code d place ks (Located q ∷ ops) l w i has.0)
      where
        i : Instr
        i = InstrOf.NewCopy access t ty (height s)

        s0 : State
        s0 = at d place ks (Located q ∷ ops) l w

        by : (o : Option Object) → step ask code s0 ≡ moved l (Table.new_from code t q.offset o (pool_in (slice_get code.accesses.items access)) (set_seen (slice_get code.accesses.items access) d w) ops (here d place ks w)) → RunsTo ask code (OneCell (Since k code w0) Any) 8 8 s0 c (landed to.named d (place + 1 + 1 + length (moved_to to ty s)) ks ops) (taken_from ask k code setting call default t plain (λ v. allocated (Record t) d (Some v)) q.offset o c l w)
        by None go = stop_step_to ask code (OneCell (Since k code w0) Any) 8 8 s0 _ c 0 (landed to.named d (place + 1 + 1 + length (moved_to to ty s)) ks ops) UseAfterFree l (omega arith) go refl refl
        by (Some o) go =
            within_to ask code (OneCell (Since k code w0) Any) 7 8 8 8 s0 c (landed to.named d (place + 1 + 1 + length (moved_to to ty s)) ks ops) _ (omega arith) (omega arith)
            (step_runs (Copied t (cells_at q.offset (code_size code t) o)) plain to ty s d place ks ops c l w s0 le fits long (setting.valid.each place i (Operand (Record t) ∷ s) has.0 has.1).1 (ty, height s, has.2.0) has.2.2 go)

    copy_runs : (to : Cell) (ty : Ty) (s : List Kind) (d : List ℕ) (place : ℕ) (ks : List Frame) (ops : List Word) (c : ℕ) (l : Log) (w : World) → c ≤ bound → Since k code w0 w → IsSeen w0 d s → Laid code place ((new_copy access t (Some x)).code to ty s) → RunsTo ask code (OneCell (Since k code w0) Any) 8 8 (at d place ks ops l w) c (landed to.named d (place + length ((new_copy access t (Some x)).code to ty s)) ks ops) (spend (valued (Record t) m d) c l w)
    unfolding opened_outcome
    copy_runs to ty s d place ks ops zero l w le fits long has = record { n = 0; in_time = omega arith; logged = refl; going = tt; why = inl (omega arith) }
    copy_runs to ty s d place ks ops (suc c) l w le fits long has =
        let Ends = OneCell (Since k code w0) Any in
        let front = part_code x t s in
        let last : List Line = (InstrOf.NewCopy access t ty (height s), Operand (Record t) ∷ s) ∷ (InstrOf.NewCopyIn t ty (height s), over_numbers address_numbers (RecordValue ∷ s)) ∷ [] in
        let whole = (front ++ last) ++ moved_to to ty s in
        let p = place + 1 in
        let next = landed to.named d (p + length whole) ks ops in
        let here = laid_back code p front (last ++ moved_to to ty s) (subst (Laid code p) (append_assoc front last (moved_to to ty s)) has.2) in
        let end : p + length front + 1 + 1 + length (moved_to to ty s) ≡ p + length whole = omega (arith, length-append (front ++ last) (moved_to to ty s), length-append front last) in
        let behind : p + length whole ≡ place + length ((new_copy access t (Some x)).code to ty s) = omega arith in
        let skipped : p + 0 ≡ p = omega arith in
        subst (λ n. RunsTo ask code Ends 8 8 (at d place ks ops l w) (suc c) (landed to.named d n ks ops) (valued (Record t) m d c l w)) behind
        (one_step_to ask code Ends 0 0 8 8 (at d place ks ops l w) (at d p ks ops l w) (suc c) c next (valued (Record t) m d c l w) (omega arith) (omega arith) (omega arith) (omega arith)
        (by_code ask code d place ks ops l w (InstrOf.Skip 0) has.0 ∙ ap (λ q. at d q ks ops l w) skipped)
        (value_then ask k code setting call default t plain (λ v. allocated (Record t) d (Some v)) bound w0 Ends next 8 8 (omega arith) (omega arith) s d p ks ops c l w m x known walks (omega (arith, le)) fits long (laid_front code p front last (laid_front code p (front ++ last) (moved_to to ty s) has.2))
        (λ q c1 l1 w1 lo fits1.
        subst (λ n. RunsTo ask code Ends 8 8 (at d (p + length front) ks (word q ∷ ops) l1 w1) c1 (landed to.named d n ks ops) (taken ask k code setting call default t plain (λ v. allocated (Record t) d (Some v)) q c1 l1 w1)) end
        (over_part q to ty s d (p + length front) ks ops c1 l1 w1 (omega (arith, lo, le)) fits1 long here))
        (λ y c1 l1 w1 lo fits1. no_step_to ask code Ends 8 8 _ c1 0 next (Leaves (ByRaise y)) l1 w1 (fits1, tt) (landed_leaves to.named d (p + length whole) ks ops (ByRaise y) l1 w1))))

    pub copied_value : Value ask k code bound w0 (new_copy access t (Some x)) (eval_step (Expr-F.New access (Record t) None (Some m)) V)
    copied_value = record {
      begins = λ to ty s d place ks ops c l w le fits long has. record { out = spend (valued (Record t) m d) c l w; is = value_means (Record t) m d c l w; runs = copy_runs to ty s d place ks ops c l w le fits long has };
      constant = λ n is d c l w. absurd (cc);
      variable = λ y is d c l w. absurd (cc);
    }

  -- Of an elementary type -----------------------------------------------------------------------------

  module _ (of : Ty) (scalar : IsScalar of) (m : Valued) (x : ValueCode) (value : Value ask k code bound w0 x (m V)) where
    -- over its value
    over_value : (n : ℕ) (to : Cell) (ty : Ty) (s : List Kind) (d : List ℕ) (place : ℕ) (ks : List Frame) (ops : List Word) (c : ℕ) (l : Log) (w : World) → c + 1 ≤ bound → Since k code w0 w → IsSeen w0 d s → Laid code place (allocator_code access of ty (Operand of ∷ s) ++ (InstrOf.GiveValue of ty (height s), Operand ty ∷ Operand of ∷ s) ∷ moved_to to ty s) → RunsTo ask code (OneCell (Since k code w0) Any) 8 10 (at d place ks (Scalar n ∷ ops) l w) c (landed to.named d (place + 1 + 1 + 1 + length (moved_to to ty s)) ks ops) (allocated of d (Some (n ∷ [])) c l w)
    unfolding opened_outcome
    over_value n to ty s d place ks ops c l w le fits long has =
        let Ends = OneCell (Since k code w0) Any in
        let i = InstrOf.New access of ty (height (Operand of ∷ s)) in
        let p = behind_allocator place + 1 in
        let given : IsGiven code of place = ((ty, height (Operand of ∷ s), has.2.0), (ty, height s, has.2.2.0)) in
        both_to ask code (Allocates k code w0) Ends 7 9 1 1 8 10 (at d place ks (Scalar n ∷ ops) l w) c (returned_to (AfterFunction None (point_at d p ops)) ks) (landed to.named d (p + length (moved_to to ty s)) ks ops) (call (OfAllocator access of None (Some (n ∷ []))) d c l w) (on_goes cells) (omega arith) (omega arith) (omega arith)
        (calls.gives_value access of scalar n w0 d place ks ops c l w (at d place ks (Scalar n ∷ ops) l w) le fits (may_allocate k code access of d s w0 w (setting.valid.each place i (Operand of ∷ s) has.0 has.1).1 long fits) given (by_code ask code d place ks (Scalar n ∷ ops) l w i has.0))
        (λ r c1 l1 w1 lo h. value_runs to ty s d p ks ops has.2.2.2 r c1 l1 w1 h)

    -- its code, behind that of its value, whose first tick pays for both
    given_runs : (to : Cell) (ty : Ty) (s : List Kind) (d : List ℕ) (place : ℕ) (ks : List Frame) (ops : List Word) (c : ℕ) (l : Log) (w : World) → c ≤ bound → Since k code w0 w → IsSeen w0 d s → Laid code place ((new_given access of x).code to ty s) → RunsTo ask code (OneCell (Since k code w0) Any) 8 8 (at d place ks ops l w) c (landed to.named d (place + length ((new_given access of x).code to ty s)) ks ops) (spend (valued of m d) c l w)
    unfolding opened_outcome scalar_of opened_lists
    given_runs to ty s d place ks ops zero l w le fits long has = record { n = 0; in_time = omega arith; logged = refl; going = tt; why = inl (omega arith) }
    given_runs to ty s d place ks ops (suc c) l w le fits long has =
        let Ends = OneCell (Since k code w0) Any in
        let front = x.code (new_operand s) of s in
        let makes = allocator_code access of ty (Operand of ∷ s) in
        let gives : List Line = (InstrOf.GiveValue of ty (height s), Operand ty ∷ Operand of ∷ s) ∷ [] in
        let last = makes ++ gives in
        let whole = (front ++ last) ++ moved_to to ty s in
        let together : (front ++ makes) ++ gives ≡ front ++ last = append_assoc front makes gives in
        let laid = subst (λ (xs : List Line). Laid code (place + 1) (xs ++ moved_to to ty s)) together has.2 in
        let p = place + 1 in
        let q = p + length front in
        let next = landed to.named d (p + length whole) ks ops in
        let more = laid_back code p front (last ++ moved_to to ty s) (subst (Laid code p) (append_assoc front last (moved_to to ty s)) laid) in
        let end : q + 1 + 1 + 1 + length (moved_to to ty s) ≡ p + length whole = omega (arith, length-append (front ++ last) (moved_to to ty s), length-append front last) in
        let long_as = ap (λ (xs : List Line). length (xs ++ moved_to to ty s)) together in
        let behind : p + length whole ≡ place + length ((new_given access of x).code to ty s) = omega (arith, long_as) in
        let skipped : p + 0 ≡ p = omega arith in
        let begun = value.begins (new_operand s) of s d p ks ops c l w (omega (arith, le)) fits long (laid_front code p front last (laid_front code p (front ++ last) (moved_to to ty s) laid)) in
        subst (λ n. RunsTo ask code Ends 8 8 (at d place ks ops l w) (suc c) (landed to.named d n ks ops) (valued of m d c l w)) behind
        (one_step_to ask code Ends 0 0 8 8 (at d place ks ops l w) (at d p ks ops l w) (suc c) c next (valued of m d c l w) (omega arith) (omega arith) (omega arith) (omega arith)
        (by_code ask code d place ks ops l w (InstrOf.Skip 0) has.0 ∙ ap (λ n. at d n ks ops l w) skipped)
        (subst (RunsTo ask code Ends 0 0 (at d p ks ops l w) c next) (sym (ap (λ o. bind o (on_goes (λ v. allocated of d (Some v)))) begun.is ∙ bind_add 1 begun.out (on_goes (λ v. allocated of d (Some v)))))
        (added_to ask code Ends 1 16 18 0 0 (at d p ks ops l w) c next (bind begun.out (on_goes (λ v. allocated of d (Some v)))) (omega arith) (omega arith)
        (both_cell ask code (Since k code w0) Ends Any 8 8 8 10 16 18 (at d p ks ops l w) c (landed (new_operand s).named d q ks ops) next begun.out (on_goes (λ v. allocated of d (Some v))) (omega arith) (omega arith) (omega arith) begun.runs
        (λ n c1 l1 w1 lo fits1 any.
        subst (λ i. RunsTo ask code Ends 8 10 (at d q ks (Scalar n ∷ ops) l1 w1) c1 (landed to.named d i ks ops) (allocated of d (Some (n ∷ [])) c1 l1 w1)) end
        (over_value n to ty s d q ks ops c1 l1 w1 (omega (arith, lo, le)) fits1 long more))
        (λ y c1 l1 w1 lo fits1. no_step_to ask code Ends 8 10 _ c1 0 next (Leaves (ByRaise y)) l1 w1 (fits1, tt) (landed_leaves to.named d (p + length whole) ks ops (ByRaise y) l1 w1))))))

    pub given_value : Value ask k code bound w0 (new_given access of x) (eval_step (Expr-F.New access of None (Some m)) V)
    given_value = record {
      begins = λ to ty s d place ks ops c l w le fits long has. record { out = spend (valued of m d) c l w; is = value_means of m d c l w; runs = given_runs to ty s d place ks ops c l w le fits long has };
      constant = λ n is d c l w. absurd (cc);
      variable = λ y is d c l w. absurd (cc);
    }
