-- Actual parameters: the code of each puts a new operand, from left to right, and its formal takes what stands there (6.2, 6.4.1).
use Rattle.std.proofs.Common.{◌≡◌, ℕ, suc, ◌+◌, ◌-◌, ◌≤◌, List, [], ◌∷◌, ◌++◌, length, Option, Some, None, true, refl, sym, ap, ◌∙◌, subst, arith, length-append, append-nil, append_assoc}
use Rattle.std.specs.Prelude.{slice_get}
use Rattle.ctl_program.specs.declared.types.Ty.{Ty}
use Rattle.ctl_program.specs.declared.types.Ty.TheVariants.{Integer, Count, Boolean, Address, Handle, Access, Record}
use Rattle.ctl_program.specs.declared.types.Var.{Var}
use Rattle.ctl_program.specs.declared.operators.CopyStart.{CopyStart}
use Rattle.ctl_program.specs.declared.operators.CopyStart.TheVariants as CopyStartOf
use Rattle.ctl_program.specs.declared.expression.Step.{Step}
use Rattle.ctl_tree.specs.declared.ending.Stop.TheVariants.{UseAfterFree}
use Rattle.ctl_meaning.specs.World.{Object as ObjectOf, Log, World}
use Rattle.ctl_meaning.specs.Lists.{opened_lists}
use Rattle.ctl_meaning.specs.Objects.{cells_at, first_cells, opened_objects}
use Rattle.ctl_meaning.specs.Changes.{object_at}
use Rattle.ctl_meaning.specs.Finalization.{Spot}
use Rattle.ctl_meaning.specs.Activations.{master_of}
use Rattle.ctl_meaning.specs.Choice.{Ask}
use Rattle.ctl_meaning.specs.Outcome.{ByRaise, Result, Goes, Leaves, Out, Gives, Act, add, bind, on_goes, ◌>>=◌, done, ticked, on_some, opened_outcome}
use Rattle.ctl_meaning.specs.Types.{Tables, Category, Elementary, Composite, category_of, cells_of}
use Rattle.ctl_meaning.specs.Names.{Alone, InObject, InVariable, Found, Call, Default, Tools, existing, gone, on_variable, read_found, read_part, scalar_of, opened_names}
use Rattle.ctl_meaning.specs.Expressions.{Formal, Naming, Passed, Supplied, copied, no_actuals, going_back, pass_each, with_formal}
use Rattle.ctl_meaning.specs.Expressions.{bound as bound_slot, by_copy as takes_copy, by_value as takes_value, by_reference as takes_reference}
use Rattle.ctl_code.specs.declared.code.Instr.TheVariants as InstrOf
use Rattle.ctl_code.specs.declared.code.Named.TheVariants as NamedOf
use Rattle.ctl_code.specs.declared.code.Code.{Code}
use Rattle.ctl_code.specs.declared.kinds.Kind.{Kind}
use Rattle.ctl_code.specs.declared.kinds.Kind.TheVariants as KindOf
use Rattle.ctl_code.specs.States.{Word, Scalar, Located, Cells, Frame, State}
use Rattle.ctl_code.specs.Steps.{moved, step}
use Rattle.ctl_code.specs.Table.{by_begin_copy, fetched, formal_of, keeping, offset_of, with_values}
use Rattle.ctl_code.specs.Windows.{depth}
use Rattle.ctl_code.proofs.Keeping.{words_of}
use Rattle.ctl_layout.specs.Around.{Line, local_at, new_operand}
use Rattle.ctl_layout.specs.Parts.{Reached, Object, Part, Result as ResultOf, Start, Variable, any_type, are_followed, first_position, is_begun, located_code, part_code, part_runs}
use Rattle.ctl_layout.specs.declared.copies.Back.{Back}
use Rattle.ctl_layout.specs.declared.copies.Back.TheVariants as BackOf
use Rattle.ctl_layout.specs.Values.{ActualCode, ValueCode, actuals_code, begins_code, by_copy, by_reference, by_value, copied as copied_from, given as start_by, kept_code, keeping_code, numbers_in, numbers_of, result_of, with_actuals}
use Rattle.ctl_gen.proofs.Known.{IsScalar, both_true, scalar_elementary, scalar_if}
use Rattle.ctl_gen.proofs.Values.{scalar_cells}
use Rattle.ctl_gen.proofs.Place.{Laid, laid_front, laid_back}
use Rattle.ctl_gen.proofs.Worlds.{Since}
use Rattle.ctl_gen.proofs.Setting.{Setting, tools_with, IsSeen}
use Rattle.ctl_gen.proofs.Entered.{IsAsLong}
use Rattle.ctl_gen.proofs.Cells.{Any, by_code, here, landed, put_is, value_of}
use Rattle.ctl_gen.proofs.Cells.{put_there as value_there}
use Rattle.ctl_gen.proofs.Formals.{IsBackOf, Taken, back_found, backs_of, formal, keeps, kept_after, none_taken, one_taken, operands_and, operands_of, others_kept, part_of, same_kept, word_of}
use Rattle.ctl_gen.proofs.Parts.{Agree, Leads, OfCells, OfObject, RecordOperand, agree_part, agree_run, composite_leads, find_by, found_at, word}
use Rattle.ctl_gen.proofs.Reached.{Reaches}
use Rattle.ctl_gen.proofs.LastSteps.{Ends as NameEnds, Last, itself, itself_ends, selected, selector_ends}
use Rattle.ctl_gen.proofs.Sources.{is_alone, value_found}
use Rattle.ctl_gen.proofs.Begun.{Starts, located_then, part_then}
use Rattle.ctl_emitter.proofs.Walked.{part_begun, start_of, steps_before, steps_of}
use Rattle.ctl_gen.proofs.Worth.{both_cell}
use Rattle.ctl_gen.proofs.Expressions.{Uses, Value, read_step, value_runs}
use Rattle.ctl_gen.proofs.Follow.{IsRaise, RunsTo, by_raise, at, transferred, added_to, both_to, last_step_to, no_step_to, stop_step_to, within_to, bind_add, bind_bind}

-- where an actual leads: to its new operand, over those in which a part was kept for its copy, or out of the statement
abbrev pub put_there : Code → List ℕ → ℕ → Option Back → ℕ → List Frame → List Word → Result Formal → Log → World → State
put_there code d place back over ks ops (Goes x) l w = at d place ks (word_of x.slot ∷ kept_after code back over x.back ops) l w
put_there code d place back over ks ops (Leaves y) l w = transferred y ks l w

-- operands are no masters
pub depth_with : (xs : List ActualCode) (s : List Kind) → depth (with_actuals xs s) ≡ depth s
depth_with [] s = refl
depth_with (x ∷ xs) s = depth_with xs (KindOf.Operand x.ty ∷ s)

-- the value that a copy begins with: that of the variable, or 0
abbrev begins_with : CopyStart → List ℕ → Var → World → ℕ
begins_with CopyStartOf.Actual d v w = value_of d v w
begins_with CopyStartOf.Beginning d v w = 0

-- in the worlds since an earlier one, a formal takes an operand, and its copy goes back there, if it does; or an exception leaves
abbrev pub OneFormal : Tables → Code → World → List ℕ → Option Back → Result Formal → World → Type 0
OneFormal k code w0 d back (Goes f) w = Since k code w0 w × ((x : Word) × (g : Option Found) × (f ≡ formal x g) × IsBackOf code d back g)
OneFormal k code w0 d back (Leaves y) w = Since k code w0 w × IsRaise y

-- in those, while no more than the bound is on the clock
module _ (ask : Ask) (k : Tables) (code : Code) (setting : Setting k code) (call : Call) (default : Default) (bound : ℕ) (w0 : World) where
  abbrev K : Tools
  K = tools_with ask k call default

  -- One actual ---------------------------------------------------------------------------------------

  -- lines that put one new operand, which is what the formal takes, and whose copy goes back there, if it does
  abbrev pub Puts : (ℕ → List Kind → List Line) → Option Back → (List ℕ → Act Formal) → Type 0
  Puts lines back give =
      (over : ℕ) (s : List Kind) (d : List ℕ) (place : ℕ) (ks : List Frame) (ops : List Word) (c : ℕ) (l : Log) (w : World) → c ≤ bound → Since k code w0 w → IsSeen w0 d s → Laid code place (lines over s) →
      RunsTo ask code (OneFormal k code w0 d back) 0 0 (at d place ks ops l w) c (put_there code d (place + length (lines over s)) back over ks ops) (give d c l w)

  -- its own tick is not taken for that
  abbrev pub Passes : ActualCode → Supplied → Type 0
  Passes x m = Puts x.code x.back (λ d. m.source K d >>= m.taken K)

  -- a value
  value_puts : (x : ValueCode) (act : List ℕ → Act (List ℕ)) (ty : Ty) → Value ask k code bound w0 x act → Puts (λ over s. x.code (new_operand s) ty s) None (λ d. (act d >>= (λ v. done (Alone v))) >>= takes_value Elementary)
  unfolding opened_outcome opened_names opened_lists opened_objects takes_value
  value_puts x act ty value over s d place ks ops c l w le fits long has =
      let Ends = OneFormal k code w0 d None in
      let there = place + length (x.code (new_operand s) ty s) in
      let next = put_there code d there None over ks ops in
      subst (RunsTo ask code Ends 0 0 (at d place ks ops l w) c next)
      (sym (bind_bind (act d c l w) (on_goes (λ v. done (Alone v))) (on_goes (takes_value Elementary))))
      (both_cell ask code (Since k code w0) Ends Any 0 0 0 0 0 0 _ c (landed NamedOf.Operand d there ks ops) next (act d c l w) _ (omega arith) (omega arith) (omega arith)
      (value_runs ask k code bound w0 x act value (new_operand s) ty s d place ks ops c l w le fits long has)
      (λ n c1 l1 w1 lo fits1 p. no_step_to ask code Ends 0 0 (at d there ks (Scalar n ∷ ops) l1 w1) c1 0 next (Goes (formal (Scalar n) None)) l1 w1 (fits1, (Scalar n, None, refl, refl)) refl)
      (λ y c1 l1 w1 lo fits1. no_step_to ask code Ends 0 0 (transferred (ByRaise y) ks l1 w1) c1 0 next (Leaves (ByRaise y)) l1 w1 (fits1, tt) refl))

  pub value_passes : (x : ValueCode) (act : List ℕ → Act (List ℕ)) (ty : Ty) → IsScalar ty → Value ask k code bound w0 x act → Puts (λ over s. x.code (new_operand s) ty s) None (λ d. (act d >>= (λ v. done (Alone v))) >>= takes_value (category_of ty))
  value_passes x act ty scalar value = subst (λ (c : Category). Puts (λ over s. x.code (new_operand s) ty s) None (λ d. (act d >>= (λ v. done (Alone v))) >>= takes_value c)) (sym (scalar_elementary ty scalar)) (value_puts x act ty value)

  -- what stands there is what the formal takes
  refers : (p : RecordOperand) (d : List ℕ) (place over : ℕ) (ks : List Frame) (ops : List Word) (c : ℕ) (l : Log) (w : World) → Since k code w0 w → RunsTo ask code (OneFormal k code w0 d None) 0 0 (at d place ks (word p ∷ ops) l w) c (put_there code d place None over ks ops) (takes_reference (found_at p) c l w)
  unfolding opened_outcome takes_reference bound_slot
  refers (OfObject p) d place over ks ops c l w fits = no_step_to ask code (OneFormal k code w0 d None) 0 0 _ c 0 (put_there code d place None over ks ops) (Goes (formal (Located p) None)) l w (fits, (Located p, None, refl, refl)) refl
  refers (OfCells v) d place over ks ops c l w fits = no_step_to ask code (OneFormal k code w0 d None) 0 0 _ c 0 (put_there code d place None over ks ops) (Goes (formal (Cells v) None)) l w (fits, (Cells v, None, refl, refl)) refl

  -- a part, by reference
  reference_puts : (x : Reached) (t : ℕ) (act : List ℕ → Act (List ℕ)) → Starts ask k code bound w0 (start_of x) act → are_followed (start_of x) (steps_before x) ≡ true → part_runs x k.records ≡ true → Puts (λ over. part_code x t) None (λ d. ticked (find_by K act (steps_of x) (start_of x) d) >>= takes_reference)
  unfolding opened_outcome takes_reference bound_slot
  reference_puts x t act begun walked runs over s d place ks ops c l w le fits long has =
      let Ends = OneFormal k code w0 d None in
      let o = find_by K act (steps_of x) (start_of x) d c l w in
      let next = put_there code d (place + length (part_code x t s)) None over ks ops in
      subst (RunsTo ask code Ends 0 0 (at d place ks ops l w) c next)
      (sym (bind_add 1 o (on_goes takes_reference)))
      (added_to ask code Ends 1 0 0 0 0 _ c next _ (omega arith) (omega arith)
      (part_then ask k code bound w0 call default Ends next (on_goes takes_reference) d ks ops 0 0 x act begun t s place c l w walked (agree_part k code setting.places x runs) le fits long has
      (λ c1 l1 w1 lo fits1 p. refers p d (place + length (part_code x t s)) over ks ops c1 l1 w1 fits1)
      (λ y c1 l1 w1 lo fits1. no_step_to ask code Ends 0 0 _ c1 0 next (Leaves (ByRaise y)) l1 w1 (fits1, tt) refl)))

  pub reference_passes : (o : Option Reached) (ty : Ty) (act : List ℕ → Act (List ℕ)) (find : Naming) → ((x : Reached) → o ≡ Some x → Leads K x act find) → ((x : Reached) → o ≡ Some x → is_begun (start_of x) k.records ≡ true → Starts ask k code bound w0 (start_of x) act) → (by_reference o ty).runs k.records ≡ true → Puts (by_reference o ty).code (by_reference o ty).back (λ d. ticked (find Composite K d) >>= takes_reference)
  reference_passes None ty act find leads begun runs = absurd (cc)
  reference_passes (Some x) (Record t) act find leads begun runs =
      let h = leads x refl in
      subst (λ (g : List ℕ → Act Found). Puts (λ over. part_code x t) None (λ d. ticked (g d) >>= takes_reference)) (sym (composite_leads K x act find h)) (reference_puts x t act (begun x refl (part_begun k.records x runs)) h.walked runs)
  reference_passes (Some x) Integer act find leads begun runs = absurd (cc)
  reference_passes (Some x) Count act find leads begun runs = absurd (cc)
  reference_passes (Some x) Boolean act find leads begun runs = absurd (cc)
  reference_passes (Some x) Address act find leads begun runs = absurd (cc)
  reference_passes (Some x) Handle act find leads begun runs = absurd (cc)
  reference_passes (Some x) (Access a) act find leads begun runs = absurd (cc)

  -- the value of a record, which a function gives, as a copy
  record_puts : (x : ValueCode) (t : ℕ) (act : List ℕ → Act (List ℕ)) → Starts ask k code bound w0 (start_by x) act → are_followed (start_by x) [] ≡ true → Puts (λ over. part_code (ResultOf (start_by x)) t) None (λ d. (act d >>= (λ v. done (Alone v))) >>= takes_value Composite)
  unfolding opened_outcome takes_value
  record_puts x t act begun walked over s d place ks ops c l w le fits long has =
      let Ends = OneFormal k code w0 d None in
      let o = find_by K act [] (start_by x) d c l w in
      let code1 = part_code (ResultOf (start_by x)) t s in
      let next = put_there code d (place + length code1) None over ks ops in
      subst (RunsTo ask code Ends 0 0 (at d place ks ops l w) c next)
      (sym (ap (λ z. bind z (on_goes (takes_value Composite))) (value_found K x act d c l w) ∙ bind_add 0 o (on_goes (takes_value Composite))))
      (added_to ask code Ends 0 0 0 0 0 _ c next _ (omega arith) (omega arith)
      (part_then ask k code bound w0 call default Ends next (on_goes (takes_value Composite)) d ks ops 0 0 (ResultOf (start_by x)) act begun t s place c l w walked tt le fits long has
      (λ c1 l1 w1 lo fits1 p. refers p d (place + length code1) over ks ops c1 l1 w1 fits1)
      (λ y c1 l1 w1 lo fits1. no_step_to ask code Ends 0 0 _ c1 0 next (Leaves (ByRaise y)) l1 w1 (fits1, tt) refl)))

  pub record_passes : (x : ValueCode) (act : List ℕ → Act (List ℕ)) (t : ℕ) → (is_begun (start_by x) k.records ≡ true → Starts ask k code bound w0 (start_by x) act) → (by_value x (Record t)).runs k.records ≡ true → Puts (by_value x (Record t)).code (by_value x (Record t)).back (λ d. (act d >>= (λ v. done (Alone v))) >>= takes_value (category_of (Record t)))
  unfolding category_of
  record_passes x act t begun runs = by (result_of (copied_from t x)) refl runs
    where
      Is : Option Reached → Type 0
      Is o = (by_reference o (Record t)).runs k.records ≡ true → Puts (by_reference o (Record t)).code (by_reference o (Record t)).back (λ d. (act d >>= (λ v. done (Alone v))) >>= takes_value Composite)

      by : (o : Option Reached) → result_of (copied_from t x) ≡ o → Is o
      by None e h = absurd (cc h)
      by (Some y) e h =
          let alone = is_alone t x y e in
          subst (λ z. Is (Some z)) (sym alone.0) (λ h1. record_puts x t act (begun h1) alone.1) h

  -- a copy of a variable: what its formal takes
  copy_gives : (begins : CopyStart) (v : Var) (d : List ℕ) (c : ℕ) (l : Log) (w : World) → takes_copy 1 begins (InVariable (master_of d v) v.slot) c l w ≡ Gives (Goes (formal (Scalar (begins_with begins d v w)) (Some (InVariable (master_of d v) v.slot)))) 0 c l w
  unfolding opened_outcome opened_names opened_lists takes_copy copied first_cells
  copy_gives CopyStartOf.Actual v d c l w = refl
  copy_gives CopyStartOf.Beginning v d c l w = refl

  copy_is : (begins : CopyStart) (v : Var) (ty : Ty) (find : List ℕ → Act Found) → Uses v find → IsScalar ty → (d : List ℕ) (c : ℕ) (l : Log) (w : World) → (ticked (find d) >>= takes_copy (cells_of k ty) begins) c l w ≡ Gives (Goes (formal (Scalar (begins_with begins d v w)) (Some (InVariable (master_of d v) v.slot)))) 2 c l w
  unfolding opened_outcome
  copy_is begins v ty find uses scalar d c l w =
      ap (λ o. bind (add 1 o) (on_goes (takes_copy (cells_of k ty) begins))) (uses d c l w)
      ∙ ap (λ n. add 2 (takes_copy n begins (InVariable (master_of d v) v.slot) c l w)) (scalar_cells k ty scalar)
      ∙ ap (add 2) (copy_gives begins v d c l w)

  -- and the step that puts it
  copy_step : (begins : CopyStart) (v : Var) (ty : Ty) (over : ℕ) (s : List Kind) (d : List ℕ) (place : ℕ) (ks : List Frame) (ops : List Word) (c : ℕ) (l : Log) (w : World) → Since k code w0 w → IsAsLong d s → Laid code place (begins_code begins v ty s) →
      RunsTo ask code (OneFormal k code w0 d (Some (BackOf.Variable v))) 0 0 (at d place ks ops l w) c (put_there code d (place + length (begins_code begins v ty s)) (Some (BackOf.Variable v)) over ks ops) (Gives (Goes (formal (Scalar (begins_with begins d v w)) (Some (InVariable (master_of d v) v.slot)))) 2 c l w)
  unfolding opened_names opened_lists
  copy_step CopyStartOf.Actual v ty over s d place ks ops c l w fits long has =
      let g = InVariable (master_of d v) v.slot in
      last_step_to ask code (OneFormal k code w0 d (Some (BackOf.Variable v))) 0 0 _ c 2 (put_there code d (place + 1) (Some (BackOf.Variable v)) over ks ops) (Goes (formal (Scalar (value_of d v w)) (Some g))) l w (omega arith) (fits, (Scalar (value_of d v w), Some g, refl, refl))
      (read_step ask k code bound w0 (local_at s v) v ty (new_operand s) s d place ks ops l w refl long has.0)
  copy_step CopyStartOf.Beginning v ty over s d place ks ops c l w fits long has =
      let g = InVariable (master_of d v) v.slot in
      last_step_to ask code (OneFormal k code w0 d (Some (BackOf.Variable v))) 0 0 _ c 2 (put_there code d (place + 1) (Some (BackOf.Variable v)) over ks ops) (Goes (formal (Scalar 0) (Some g))) l w (omega arith) (fits, (Scalar 0, Some g, refl, refl))
      (by_code ask code d place ks ops l w (InstrOf.Set 0 ty (new_operand s)) has.0 ∙ put_is NamedOf.Operand 0 d place ks ops l w)

  copy_puts : (begins : CopyStart) (v : Var) (ty : Ty) (find : List ℕ → Act Found) → Uses v find → IsScalar ty → Puts (λ over. begins_code begins v ty) (Some (BackOf.Variable v)) (λ d. ticked (find d) >>= takes_copy (cells_of k ty) begins)
  copy_puts begins v ty find uses scalar over s d place ks ops c l w le fits long has =
      subst (RunsTo ask code (OneFormal k code w0 d (Some (BackOf.Variable v))) 0 0 (at d place ks ops l w) c (put_there code d (place + length (begins_code begins v ty s)) (Some (BackOf.Variable v)) over ks ops)) (sym (copy_is begins v ty find uses scalar d c l w))
      (copy_step begins v ty over s d place ks ops c l w fits long.2 has)

  -- a copy of the component at a position of the part that these steps lead to, which is found as a last step of the name finds it
  module _ (start : Start) (given : List ℕ → Act (List ℕ)) (steps : List Step) (t position : ℕ) (agree : Agree k code steps) (last : Last code t position) (followed : are_followed start steps ≡ true) where
    abbrev kept_back : Option Back
    kept_back = Some (BackOf.Part t position)

    -- where it goes back to
    abbrev kept_found : Spot → Found
    kept_found p = InObject p.object (p.offset + last.offset) (last.path p)

    -- it goes back to the part that is kept
    kept_is : (d : List ℕ) (p : Spot) → IsBackOf code d (Some (BackOf.Part t position)) (Some (kept_found p))
    kept_is d p = (record { object = p.object; offset = p.offset; path = last.path p }, ap (λ j. Some (InObject p.object (p.offset + j) (last.path p))) (sym last.there))

    -- which is the one that was found
    kept_there : (over : ℕ) (p : Spot) (ops : List Word) → keeping (over + 3 - 3) p ops ≡ kept_after code (Some (BackOf.Part t position)) over (Some (kept_found p)) ops
    kept_there over p ops =
        let same : over + 3 - 3 ≡ over = omega arith in
        let there = last.there in
        let from : p.offset ≡ p.offset + last.offset - offset_of code t position = omega (arith, there) in
        ap (λ n. keeping n p ops) same ∙ same_kept over p (part_of (offset_of code t position) (Some (kept_found p))) ops refl from

    -- what the copy begins with, behind what finds the part
    abbrev begins_copy : CopyStart → Result Found → Act Formal
    begins_copy begins r c l w = bind (on_goes last.step r c l w) (on_goes (takes_copy 1 begins))

    -- one step, to the new operand, or to a stop
    begins_it : (begins : CopyStart) (over : ℕ) (p : Spot) (d : List ℕ) (place : ℕ) (ks : List Frame) (ops : List Word) (c : ℕ) (l : Log) (w : World) (s0 : State) → Since k code w0 w → step ask code s0 ≡ moved l (by_begin_copy begins last.offset p (kept_after code kept_back over (Some (kept_found p)) ops) (here d place ks w)) →
        RunsTo ask code (OneFormal k code w0 d kept_back) 8 8 s0 c (put_there code d (place + 1) kept_back over ks ops) (add last.ticks (takes_copy 1 begins (kept_found p) c l w))
    unfolding takes_copy on_variable copied read_found read_part existing gone cells_at scalar_of opened_outcome opened_lists
    begins_it CopyStartOf.Beginning over p d place ks ops c l w s0 fits go =
        let g = Some (kept_found p) in
        last_step_to ask code (OneFormal k code w0 d kept_back) 8 8 s0 c (last.ticks + 0) (put_there code d (place + 1) kept_back over ks ops) (Goes (formal (Scalar 0) g)) l w (omega arith) (fits, (Scalar 0, g, refl, kept_is d p))
        (go ∙ put_is NamedOf.Operand 0 d place ks (kept_after code kept_back over g ops) l w)
    begins_it CopyStartOf.Actual over p d place ks ops c l w s0 fits go = by (object_at p.object w) go
      where
        below : List Word
        below = kept_after code (Some (BackOf.Part t position)) over (Some (InObject p.object (p.offset + last.offset) (last.path p))) ops

        by : (x : Option ObjectOf) → step ask code s0 ≡ moved l (fetched (p.offset + last.offset) x NamedOf.Operand (kept_after code kept_back over (Some (kept_found p)) ops) (here d place ks w)) → RunsTo ask code (OneFormal k code w0 d kept_back) 8 8 s0 c (put_there code d (place + 1) kept_back over ks ops) (add last.ticks (bind (on_some x gone (λ y. done (cells_at (p.offset + last.offset) 1 y)) c l w) (on_goes (λ v. done (formal (Scalar (scalar_of v)) (Some (kept_found p)))))))
        by None first = stop_step_to ask code (OneFormal k code w0 d kept_back) 8 8 s0 _ c (last.ticks + 0) (put_there code d (place + 1) kept_back over ks ops) UseAfterFree l (omega arith) first refl refl
        by (Some y) first =
            let v = cells_at (p.offset + last.offset) 1 y in
            let g = Some (kept_found p) in
            last_step_to ask code (OneFormal k code w0 d kept_back) 8 8 s0 c (last.ticks + 0) (put_there code d (place + 1) kept_back over ks ops) (Goes (formal (Scalar (scalar_of v)) g)) l w (omega arith) (fits, (Scalar (scalar_of v), g, refl, kept_is d p))
            (first ∙ value_there NamedOf.Operand v d place ks below l w)

    keeps_it : (begins : CopyStart) (ty : Ty) (over kept at_cell : ℕ) (p : RecordOperand) (d : List ℕ) (place : ℕ) (ks : List Frame) (ops : List Word) (c : ℕ) (l : Log) (w : World) → Since k code w0 w → slice_get code.instructions.items place ≡ Some (InstrOf.KeepPart t position begins ty (over + 3) kept at_cell) →
        RunsTo ask code (OneFormal k code w0 d kept_back) 8 8 (at d place ks (word p ∷ ops) l w) c (put_there code d (place + 1) kept_back over ks ops) (begins_copy begins (Goes (found_at p)) c l w)
    unfolding takes_copy on_variable gone opened_outcome
    keeps_it begins ty over kept at_cell (OfCells v) d place ks ops c l w fits has =
        subst (λ o. RunsTo ask code (OneFormal k code w0 d kept_back) 8 8 (at d place ks (Cells v ∷ ops) l w) c (put_there code d (place + 1) kept_back over ks ops) (bind o (on_goes (takes_copy 1 begins)))) (sym (last.is (OfCells v) c l w))
        (stop_step_to ask code (OneFormal k code w0 d kept_back) 8 8 _ _ c (last.ticks + 0) (put_there code d (place + 1) kept_back over ks ops) UseAfterFree l (omega arith)
        (by_code ask code d place ks (Cells v ∷ ops) l w (InstrOf.KeepPart t position begins ty (over + 3) kept at_cell) has) refl refl)
    keeps_it begins ty over kept at_cell (OfObject p) d place ks ops c l w fits has =
        subst (λ o. RunsTo ask code (OneFormal k code w0 d kept_back) 8 8 (at d place ks (Located p ∷ ops) l w) c (put_there code d (place + 1) kept_back over ks ops) (bind o (on_goes (takes_copy 1 begins)))) (sym (last.is (OfObject p) c l w))
        (begins_it begins over p d place ks ops c l w _ fits
        (by_code ask code d place ks (Located p ∷ ops) l w (InstrOf.KeepPart t position begins ty (over + 3) kept at_cell) has
        ∙ ap (λ j. moved l (by_begin_copy begins j p (keeping (over + 3 - 3) p ops) (here d place ks w))) last.there
        ∙ ap (λ xs. moved l (by_begin_copy begins last.offset p xs (here d place ks w))) (kept_there over p ops)))

    -- what it means: the part is found, and then the component
    copy_means : (begins : CopyStart) (ty : Ty) → IsScalar ty → (find : List ℕ → Act Found) → NameEnds K last given steps start find → (d : List ℕ) (c : ℕ) (l : Log) (w : World) → (ticked (find d) >>= takes_copy (cells_of k ty) begins) c l w ≡ add 1 (bind (find_by K given steps start d c l w) (begins_copy begins))
    unfolding opened_outcome
    copy_means begins ty scalar find is d c l w =
        bind_add 1 (find d c l w) (on_goes (takes_copy (cells_of k ty) begins))
        ∙ ap (λ n. add 1 (bind (find d c l w) (on_goes (takes_copy n begins)))) (scalar_cells k ty scalar)
        ∙ ap (λ o. add 1 (bind o (on_goes (takes_copy 1 begins)))) (is d c l w)
        ∙ ap (add 1) (bind_bind (find_by K given steps start d c l w) (on_goes last.step) (on_goes (takes_copy 1 begins)))

    kept_puts : (begins : CopyStart) (ty : Ty) → IsScalar ty → Starts ask k code bound w0 start given → (find : List ℕ → Act Found) → NameEnds K last given steps start find → Puts (λ over. kept_code start steps t position begins ty over) (Some (BackOf.Part t position)) (λ d. ticked (find d) >>= takes_copy (cells_of k ty) begins)
    unfolding opened_outcome
    kept_puts begins ty scalar begun find is over s d place ks ops c l w le fits long has =
        let Ends1 = OneFormal k code w0 d kept_back in
        let front = located_code start steps t s in
        let back = keeping_code t position begins ty over s in
        let q = place + length front in
        let next = put_there code d (place + length (kept_code start steps t position begins ty over s)) kept_back over ks ops in
        let end : q + 1 ≡ place + length (kept_code start steps t position begins ty over s) = omega (arith, length-append front back) in
        subst (RunsTo ask code Ends1 0 0 (at d place ks ops l w) c next) (sym (copy_means begins ty scalar find is d c l w))
        (added_to ask code Ends1 1 8 8 0 0 _ c next _ (omega arith) (omega arith)
        (located_then ask k code bound w0 call default Ends1 next (begins_copy begins) d ks ops 8 8 start given begun steps t s place c l w followed agree le fits long (laid_front code place front back has)
        (λ c1 l1 w1 lo fits1 p. subst (λ z. RunsTo ask code Ends1 8 8 (at d q ks (word p ∷ ops) l1 w1) c1 (put_there code d z kept_back over ks ops) (begins_copy begins (Goes (found_at p)) c1 l1 w1)) end
        (keeps_it begins ty over _ _ p d q ks ops c1 l1 w1 fits1 (laid_back code place front back has).0))
        (λ y c1 l1 w1 lo fits1. no_step_to ask code Ends1 8 8 _ c1 0 next (Leaves (ByRaise y)) l1 w1 (fits1, tt) refl)))

  -- a copy is of an elementary type
  elementary_copy : (lines : ℕ → List Kind → List Line) (back : Option Back) (ty : Ty) (begins : CopyStart) (find : Naming) → IsScalar ty → Puts lines back (λ d. ticked (find Elementary K d) >>= takes_copy (cells_of k ty) begins) → Puts lines back (λ d. ticked (find (category_of ty) K d) >>= takes_copy (cells_of k ty) begins)
  elementary_copy lines back ty begins find scalar h = subst (λ (c : Category). Puts lines back (λ d. ticked (find c K d) >>= takes_copy (cells_of k ty) begins)) (sym (scalar_elementary ty scalar)) h

  pub copy_passes : (o : Option Reached) (ty : Ty) (begins : CopyStart) (act : List ℕ → Act (List ℕ)) (find : Naming) → ((x : Reached) → o ≡ Some x → Reaches K x act (find Elementary K)) → ((x : Reached) → o ≡ Some x → is_begun (start_of x) k.records ≡ true → Starts ask k code bound w0 (start_of x) act) → (by_copy o ty begins).runs k.records ≡ true → Puts (by_copy o ty begins).code (by_copy o ty begins).back (λ d. ticked (find (category_of ty) K d) >>= takes_copy (cells_of k ty) begins)
  copy_passes None ty begins act find reaches begun runs = absurd (cc)
  copy_passes (Some (ResultOf b)) ty begins act find reaches begun runs = absurd (cc)
  copy_passes (Some (Variable v)) ty begins act find reaches begun runs =
      elementary_copy (λ over. begins_code begins v ty) (Some (BackOf.Variable v)) ty begins find (scalar_if ty runs) (copy_puts begins v ty (find Elementary K) (reaches (Variable v) refl) (scalar_if ty runs))
  copy_passes (Some (Object b steps)) ty begins act find reaches begun runs =
      let e = both_true _ _ runs in
      let f = both_true _ _ e.1 in
      let x = Object b steps in
      let g = reaches x refl in
      let lies = setting.places.first any_type in
      elementary_copy (λ over. kept_code b steps any_type first_position begins ty over) (Some (BackOf.Part any_type first_position)) ty begins find (scalar_if ty e.0)
      (kept_puts b act steps any_type first_position (agree_part k code setting.places x e.1) (itself code lies) g.0 begins ty (scalar_if ty e.0) (begun x refl f.0) (find Elementary K) (itself_ends K code lies act steps b (find Elementary K) g.1))
  copy_passes (Some (Part b steps t position)) ty begins act find reaches begun runs =
      let e = both_true _ _ runs in
      let x = Part b steps t position in
      let g = reaches x refl in
      let agree = agree_run k code setting.places b steps t e.1 in
      let lies = agree.1 position in
      elementary_copy (λ over. kept_code b steps t position begins ty over) (Some (BackOf.Part t position)) ty begins find (scalar_if ty e.0)
      (kept_puts b act steps t position agree.0 (selected k code t position lies) g.0 begins ty (scalar_if ty e.0) (begun x refl (both_true _ _ e.1).0) (find Elementary K) (selector_ends K code t position lies act steps b (find Elementary K) g.1))

  -- All of them --------------------------------------------------------------------------------------

  abbrev pub EachPasses : List ActualCode → List Supplied → Type 0
  EachPasses [] [] = Unit {0}
  EachPasses (x ∷ xs) (m ∷ ms) = Passes x m × EachPasses xs ms
  EachPasses _ _ = ⊥

  -- what follows an actual, with its operand or where it leaves
  then_formal : {B : Type 0} (Ends : Result B → World → Type 0) (b : ℕ) (d : List ℕ) (back : Option Back) (s : State) (c : ℕ) (mid : Result Formal → Log → World → State) (next : Result B → Log → World → State) (o : Out Formal) (f : Result Formal → Act B) → RunsTo ask code (OneFormal k code w0 d back) 0 0 s c mid o →
      ((x : Word) (g : Option Found) → IsBackOf code d back g → (c1 : ℕ) (l : Log) (w : World) → c1 ≤ c → Since k code w0 w → RunsTo ask code Ends b b (mid (Goes (formal x g)) l w) c1 next (f (Goes (formal x g)) c1 l w)) →
      ((y c1 : ℕ) (l : Log) (w : World) → c1 ≤ c → Since k code w0 w → RunsTo ask code Ends b b (mid (Leaves (ByRaise y)) l w) c1 next (f (Leaves (ByRaise y)) c1 l w)) → RunsTo ask code Ends b b s c next (bind o f)
  then_formal Ends b d back s c mid next o f a z y = both_to ask code (OneFormal k code w0 d back) Ends 0 0 b b b b s c mid next o f (omega arith) (omega arith) (omega arith) a by
    where
      by : (r : Result Formal) (c1 : ℕ) (l : Log) (w : World) → c1 ≤ c → OneFormal k code w0 d back r w → RunsTo ask code Ends b b (mid r l w) c1 next (f r c1 l w)
      by (Goes u) c1 l w lo is = subst (λ v. RunsTo ask code Ends b b (mid (Goes v) l w) c1 next (f (Goes v) c1 l w)) (sym is.1.2) (z is.1.0 is.1.1 is.1.3 c1 l w lo is.0)
      by (Leaves x) c1 l w lo is = by_raise (λ v. RunsTo ask code Ends b b (mid (Leaves v) l w) c1 next (f (Leaves v) c1 l w)) (λ v. y v c1 l w lo is.0) x is.1

  -- what follows all of them: their formals have taken their operands, over the parts that are kept, these stand below, and the copies go back
  module _ {B : Type 0} (Ends : Result B → World → Type 0) (next : Result B → Log → World → State) (f : Passed → Act B) (all : List ActualCode) (below : List Word) (d : List ℕ) (ks : List Frame) where
    -- it is done from this place on, in so many steps that no tick pays
    abbrev Follows : ℕ → ℕ → ℕ → Type 0
    Follows b place c = (q : Passed) (kept : List Spot) (c1 : ℕ) (l : Log) (w : World) → c1 ≤ c → Since k code w0 w → Taken (length all) (backs_of code d 0 all kept) q → length (words_of kept) ≡ numbers_in all → RunsTo ask code Ends b b (at d place ks (operands_of q.slots (words_of kept ++ below)) l w) c1 next (f q c1 l w)

    -- or an exception leaves
    abbrev Raises : Type 0
    Raises = (e : ℕ) (l : Log) (w : World) → Since k code w0 w → Ends (Leaves (ByRaise e)) w × (transferred (ByRaise e) ks l w ≡ next (Leaves (ByRaise e)) l w)

    -- the copies so far and those of the actuals that are left, whatever is kept for these
    abbrev AreBacks : ℕ → List ActualCode → List (ℕ × Found) → List Spot → Type 0
    AreBacks n xs so_far kept = (rest : List Spot) → so_far ++ backs_of code d n xs rest ≡ backs_of code d 0 all (kept ++ rest)

    -- with a further one
    next_back : (n : ℕ) (x : ActualCode) (xs : List ActualCode) (g : Option Found) (so_far : List (ℕ × Found)) (kept added : List Spot) → ((rest : List Spot) → back_found code d x.back (added ++ rest) ≡ g) → ((rest : List Spot) → others_kept x.back (added ++ rest) ≡ rest) → AreBacks n (x ∷ xs) so_far kept → AreBacks (suc n) xs (so_far ++ going_back n g) (kept ++ added)
    next_back n x xs g so_far kept added back others all_back rest =
        let further : suc n ≡ n + 1 = omega arith in
        append_assoc so_far (going_back n g) (backs_of code d (suc n) xs rest)
        ∙ ap (λ i. so_far ++ (going_back n g ++ backs_of code d i xs rest)) further
        ∙ ap (λ z. so_far ++ (going_back n z ++ backs_of code d (n + 1) xs rest)) (sym (back rest))
        ∙ ap (λ r. so_far ++ (going_back n (back_found code d x.back (added ++ rest)) ++ backs_of code d (n + 1) xs r)) (sym (others rest))
        ∙ all_back (added ++ rest)
        ∙ ap (backs_of code d 0 all) (sym (append_assoc kept added rest))

    -- the actuals that are left: the tick of each pays a step of what follows
    each_then : (xs : List ActualCode) (ms : List Supplied) → EachPasses xs ms → (b over n : ℕ) (p : Passed) (kept : List Spot) (so_far : List (ℕ × Found)) → n + length xs ≡ length all → over ≡ n + length (words_of kept) → length (words_of kept) + numbers_in xs ≡ numbers_in all → AreBacks n xs so_far kept → Taken n so_far p → (s : List Kind) (place c : ℕ) (l : Log) (w : World) → c ≤ bound → Since k code w0 w → IsSeen w0 d s → Laid code place (actuals_code over xs s) →
        Follows (length xs + b) (place + length (actuals_code over xs s)) c → Raises → RunsTo ask code Ends b b (at d place ks (operands_of p.slots (words_of kept ++ with_values (numbers_in xs) [] below)) l w) c next (bind (pass_each K d ms p c l w) (on_goes f))
    unfolding pass_each with_formal opened_outcome
    each_then [] [] each b over n p kept so_far long_is over_is many all_back taken s place c l w le fits long has follows raises =
        let same : n ≡ length all = omega (arith, long_is) in
        let e : place + 0 ≡ place = omega arith in
        let enough : length (words_of kept) ≡ numbers_in all = omega (arith, many) in
        let whole : so_far ≡ backs_of code d 0 all kept = sym (append-nil so_far) ∙ all_back [] ∙ ap (backs_of code d 0 all) (append-nil kept) in
        added_to ask code Ends 0 (0 + b) (0 + b) b b _ c next (f p c l w) (omega arith) (omega arith)
        (subst (λ q. RunsTo ask code Ends (0 + b) (0 + b) (at d q ks (operands_of p.slots (words_of kept ++ below)) l w) c next (f p c l w)) e
        (follows p kept c l w (omega arith) fits (subst (λ x. Taken (length all) x p) whole (subst (λ i. Taken i so_far p) same taken)) enough))
    each_then [] (m ∷ ms) each b over n p kept so_far long_is over_is many all_back taken s place c l w le fits long has follows raises = absurd each
    each_then (x ∷ xs) [] each b over n p kept so_far long_is over_is many all_back taken s place c l w le fits long has follows raises = absurd each
    each_then (x ∷ xs) (m ∷ ms) each b over n p kept so_far long_is over_is many all_back taken s place c l w le fits long has follows raises =
        let top = KindOf.Operand x.ty ∷ s in
        let further = over + (1 + numbers_of x.back) in
        let rest = actuals_code further xs top in
        let ops = operands_of p.slots (words_of kept ++ with_values (numbers_in (x ∷ xs)) [] below) in
        let there = place + length (x.code over s) in
        let give = (m.source K d >>= m.taken K) c l w in
        let then = on_goes (λ y. pass_each K d ms (with_formal y p)) in
        let end : place + length (x.code over s ++ rest) ≡ there + length rest = omega (arith, length-append (x.code over s) rest) in
        let spare : length (x ∷ xs) + b ≤ length xs + (b + 1) = omega arith in
        let follows1 : Follows (length xs + (b + 1)) (there + length rest) c = λ q kept1 c1 l1 w1 lo fits1 taken1 enough. within_to ask code Ends (length (x ∷ xs) + b) (length (x ∷ xs) + b) (length xs + (b + 1)) (length xs + (b + 1)) _ c1 next (f q c1 l1 w1) spare spare (subst (λ z. RunsTo ask code Ends (length (x ∷ xs) + b) (length (x ∷ xs) + b) (at d z ks (operands_of q.slots (words_of kept1 ++ below)) l1 w1) c1 next (f q c1 l1 w1)) end (follows q kept1 c1 l1 w1 lo fits1 taken1 enough)) in
        subst (RunsTo ask code Ends b b (at d place ks ops l w) c next) (sym (bind_bind (add 1 give) then (on_goes f) ∙ bind_add 1 give (λ r c1 l1 w1. bind (then r c1 l1 w1) (on_goes f))))
        (added_to ask code Ends 1 (b + 1) (b + 1) b b _ c next _ (omega arith) (omega arith)
        (then_formal Ends (b + 1) d x.back _ c (put_there code d there x.back over ks ops) next give (λ r c1 l1 w1. bind (then r c1 l1 w1) (on_goes f))
        (each.0 over s d place ks ops c l w le fits long (laid_front code place (x.code over s) rest has))
        (λ a g is c1 l1 w1 lo fits1.
        let so_many = taken.many in
        let deep : over ≡ length p.slots + length (words_of kept) = omega (arith, over_is, so_many) in
        let h = keeps code d x.back g over (numbers_in xs) p.slots kept below deep is in
        let longer = h.longer in
        let kept1 = kept ++ h.added in
        let p1 = with_formal (formal a g) p in
        let bottom = words_of kept1 ++ with_values (numbers_in xs) [] below in
        let count_is : suc n + length xs ≡ length all = omega (arith, long_is) in
        let over_is1 : further ≡ suc n + length (words_of kept1) = omega (arith, over_is, longer) in
        let many1 : length (words_of kept1) + numbers_in xs ≡ numbers_in all = omega (arith, many, longer) in
        let put : word_of (formal_of a) ∷ kept_after code x.back over g ops ≡ operands_of p1.slots bottom = ap (λ os. word_of (formal_of a) ∷ os) h.stands ∙ sym (operands_and p.slots (formal_of a) bottom) in
        subst (λ os. RunsTo ask code Ends (b + 1) (b + 1) (at d there ks os l1 w1) c1 next (bind (pass_each K d ms p1 c1 l1 w1) (on_goes f))) (sym put)
        (each_then xs ms each.1 (b + 1) further (suc n) p1 kept1 (so_far ++ going_back n g) count_is over_is1 many1 (next_back n x xs g so_far kept h.added h.back h.others all_back) (one_taken n so_far p a g taken) top there c1 l1 w1 (omega (arith, lo, le)) fits1 long (laid_back code place (x.code over s) rest has)
        (λ q kept2 c2 l2 w2 lo2 fits2 taken2 enough. follows1 q kept2 c2 l2 w2 (omega (arith, lo, lo2)) fits2 taken2 enough) raises))
        (λ y c1 l1 w1 lo fits1. let h = raises y l1 w1 fits1 in no_step_to ask code Ends (b + 1) (b + 1) (transferred (ByRaise y) ks l1 w1) c1 0 next (Leaves (ByRaise y)) l1 w1 h.0 h.1)))

  -- no operand stands there yet but the numbers that are to keep parts
  pub actuals_then : {B : Type 0} (Ends : Result B → World → Type 0) (next : Result B → Log → World → State) (f : Passed → Act B) (b : ℕ) (xs : List ActualCode) (ms : List Supplied) → EachPasses xs ms → (s : List Kind) (d : List ℕ) (place : ℕ) (ks : List Frame) (ops : List Word) (c : ℕ) (l : Log) (w : World) → c ≤ bound → Since k code w0 w → IsSeen w0 d s → Laid code place (actuals_code 0 xs s) →
      Follows Ends next f xs ops d ks (length xs + b) (place + length (actuals_code 0 xs s)) c → Raises Ends next f xs ops d ks →
      RunsTo ask code Ends b b (at d place ks (with_values (numbers_in xs) [] ops) l w) c next (bind (pass_each K d ms no_actuals c l w) (on_goes f))
  unfolding no_actuals
  actuals_then Ends next f b xs ms each s d place ks ops c l w le fits long has follows raises =
      each_then Ends next f xs ops d ks xs ms each b 0 0 no_actuals [] [] (omega arith) (omega arith) (omega arith) (λ rest. refl) none_taken s place c l w le fits long has follows raises
