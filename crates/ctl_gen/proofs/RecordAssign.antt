-- The assignment of a part of a record type, or of the value of a function, to a part, or to itself: its code does what the program means (5.2,
-- 7.6).
use Rattle.std.proofs.Common.{◌≡◌, ℕ, ◌+◌, ◌≤◌, List, [], ◌∷◌, length, Option, Some, None, Bool, true, false, refl, sym, ap, ◌∙◌, subst, arith, length-append}
use Rattle.std.specs.Prelude.{slice_get, if◌then◌else◌}
use Rattle.ctl_program.specs.declared.types.Ty.TheVariants.{Record}
use Rattle.ctl_tree.specs.declared.ending.Stop.TheVariants.{UseAfterFree}
use Rattle.ctl_tree.specs.declared.event.Cause.TheVariants.{Assign}
use Rattle.ctl_meaning.specs.World.{Object, Log, World}
use Rattle.ctl_meaning.specs.Objects.{cells_at, first_cells}
use Rattle.ctl_meaning.specs.Changes.{object_at, write_cells}
use Rattle.ctl_meaning.specs.Choice.{Ask, picked}
use Rattle.ctl_meaning.specs.Outcome.{program_error, ByRaise, Result, Goes, Leaves, Out, Act, Done, Fine, add, bind, on_goes, ◌>>=◌, ◌>>◌, done, nothing, raise, change, ticked, either, when, on_some, opened_outcome}
use Rattle.ctl_meaning.specs.Types.{Tables, cells_of, depth as type_depth, has_controlled, of_record}
use Rattle.ctl_meaning.specs.Names.{Found, Call, Default, Tools, among, existing, gone, on_variable, read_found, read_part, same_found, write_found, write_part}
use Rattle.ctl_meaning.specs.Finalization.{Spot, Every, finalize}
use Rattle.ctl_meaning.specs.Adjustment.{Adjusted, adjust, adjust_part, adjusted, unadjusted, opened_adjustment}
use Rattle.ctl_meaning.specs.Statements.{assign_record as assign_found, overwrite, spot_of as spot_found}
use Rattle.ctl_code.specs.declared.code.Instr.TheVariants as InstrOf
use Rattle.ctl_code.specs.declared.code.Parts.{Parts}
use Rattle.ctl_code.specs.declared.code.Parts.TheVariants as PartsOf
use Rattle.ctl_code.specs.declared.code.Code.{Code}
use Rattle.ctl_code.specs.declared.kinds.Kind.{Kind}
use Rattle.ctl_code.specs.declared.kinds.Kind.TheVariants.{Operand}
use Rattle.ctl_code.specs.States.{Word, Located, Cells, Point, Frame, Assigning, State}
use Rattle.ctl_code.specs.Valid.{IsDeclarable}
use Rattle.ctl_code.specs.Windows.{depth}
use Rattle.ctl_code.specs.Table as Table
use Rattle.ctl_code.specs.Table.{handed, has_part, is_same_part, parts_of, size_of}
use Rattle.ctl_code.specs.Steps.{moved, step}
use Rattle.ctl_layout.specs.Around.{Line}
use Rattle.ctl_layout.specs.Parts.{Reached, are_followed, part_code, part_runs as part_is_run}
use Rattle.ctl_layout.specs.Layout.{record_code, take_over_code}
use Rattle.ctl_gen.proofs.Known.{IsPlainType}
use Rattle.ctl_gen.proofs.Worlds.{Since, Kept, since_written}
use Rattle.ctl_gen.proofs.Parted.{AgreesOn, GivesDefaults, is_itself}
use Rattle.ctl_gen.proofs.Setting.{IsSeen, Setting, Calls, Sure, called, seen, seen_surrounds, tools_with}
use Rattle.ctl_gen.proofs.Cells.{by_code, here}
use Rattle.ctl_gen.proofs.Place.{Laid, laid_front, laid_back}
use Rattle.ctl_gen.proofs.Parts.{OfCells, OfObject, RecordOperand, agree_part, find_by, found_at, word}
use Rattle.ctl_gen.proofs.Begun.{Starts, part_then}
use Rattle.ctl_emitter.proofs.Walked.{start_of, steps_before, steps_of}
use Rattle.ctl_gen.proofs.Finalize.{within_depth}
use Rattle.ctl_gen.proofs.FinalizedParts.{Passed, tells}
use Rattle.ctl_gen.proofs.FinalizedTarget.{target_runs}
use Rattle.ctl_gen.proofs.Adjust.{untouched_is}
use Rattle.ctl_gen.proofs.AdjustedParts.{hands, part_runs}
use Rattle.ctl_gen.proofs.Does.{Does}
use Rattle.ctl_gen.proofs.Follow.{gives, way_of, Runs, Target, add_none, added, arrives, at, bind_add, bind_bind, both, lands, last_step, no_step, stop_step, within}

module _ (ask : Ask) (k : Tables) (code : Code) (setting : Setting k code) (call : Call) (default : Default) (constants : GivesDefaults k default) (t : ℕ) (plain : IsPlainType k (Record t)) where
  abbrev K : Tools
  K = tools_with ask k call default

  -- the operations of the target are called among the masters that the statement sees
  abbrev O : List ℕ → Tools
  O d = among d K

  -- what the code tells of its parts
  agrees : AgreesOn k code default t
  agrees = setting.agrees default constants t plain

  -- What the assignment means ------------------------------------------------------------------------

  -- a part takes a value, and is adjusted
  abbrev taking : List ℕ → Spot → List ℕ → Act Done
  taking d part v c l w = bind (write_part part.object part.offset v c l w) (on_goes (λ _. adjust (O d) None part (Record t)))

  abbrev then_takes : List ℕ → Spot → List ℕ → Result Done → Act Done
  then_takes d part v x c l w = bind (on_goes (λ _. write_part part.object part.offset v) x c l w) (on_goes (λ _. adjust (O d) None part (Record t)))

  -- the same behind its finalization
  abbrev behind_finalize : List ℕ → Spot → List ℕ → Result Bool → Act Done
  behind_finalize d part v x c l w = bind (on_goes (λ _. nothing) x c l w) (then_takes d part v)

  overwrite_is : (d : List ℕ) (part : Spot) (v : List ℕ) (c : ℕ) (l : Log) (w : World) → overwrite K d t (found_at (OfObject part)) v c l w ≡ bind (when (has_controlled k (Record t)) (finalize (O d) Assign Every part t >> nothing) c l w) (then_takes d part v)
  unfolding overwrite on_variable spot_found write_found opened_outcome
  overwrite_is d part v c l w = bind_bind (when (has_controlled k (Record t)) (finalize (O d) Assign Every part t >> nothing) c l w) (on_goes (λ _. write_part part.object part.offset v)) (on_goes (λ _. adjust (O d) None part (Record t)))

  -- one without a controlled part takes the value at once
  at_once_is : has_controlled k (Record t) ≡ false → (d : List ℕ) (part : Spot) (v : List ℕ) (c : ℕ) (l : Log) (w : World) → overwrite K d t (found_at (OfObject part)) v c l w ≡ taking d part v c l w
  unfolding opened_outcome
  at_once_is none d part v c l w =
      overwrite_is d part v c l w
      ∙ ap (λ b. bind (when b (finalize (O d) Assign Every part t >> nothing) c l w) (then_takes d part v)) none
      ∙ add_none (taking d part v c l w)

  -- any other one is finalized before
  finalized_is : has_controlled k (Record t) ≡ true → (d : List ℕ) (part : Spot) (v : List ℕ) (c : ℕ) (l : Log) (w : World) → overwrite K d t (found_at (OfObject part)) v c l w ≡ bind (finalize (O d) Assign Every part t c l w) (behind_finalize d part v)
  unfolding opened_outcome
  finalized_is held d part v c l w =
      overwrite_is d part v c l w
      ∙ ap (λ b. bind (when b (finalize (O d) Assign Every part t >> nothing) c l w) (then_takes d part v)) held
      ∙ bind_bind (finalize (O d) Assign Every part t c l w) (on_goes (λ _. nothing)) (then_takes d part v)

  -- what finds the source, in so many ticks more
  abbrev pub IsFound : Reached → (List ℕ → Act (List ℕ)) → (List ℕ → Act Found) → ℕ → Type 0
  IsFound y from source ticks = (d : List ℕ) (c : ℕ) (l : Log) (w : World) → source d c l w ≡ add ticks (find_by K from (steps_of y) (start_of y) d c l w)

  -- What its code does -------------------------------------------------------------------------------

  -- where its type is declared around the statement, which sees a display in an earlier world
  module _ (bound : ℕ) (calls : Calls ask k code setting bound call) (s : List Kind) (declarable : IsDeclarable code (depth s) t) (w0 : World) where
    -- to a part, at this point
    module _ (part : Spot) (e : Target) (p : Point) (ks : List Frame) (sees : IsSeen w0 p.display s) where
      abbrev next : Result Done → Log → World → State
      next = arrives e p.display p.place ks p.operands

      abbrev Arrives : ℕ → State → ℕ → Out Done → Type 0
      Arrives b s0 c x = Runs ask code (Kept k code w0) b b s0 c next x

      -- where an Adjust failed, Program_Error is raised behind all of them (7.6.1)
      behind_adjust : (failed : Bool) (c : ℕ) (l : Log) (w : World) → Since k code w0 w → Arrives 1 (gives (Assigning part t None p ∷ ks) (Fine (handed failed)) l w) c (either failed (nothing >> raise program_error) nothing c l w)
      unfolding picked opened_outcome
      behind_adjust true c l w fits = last_step ask code (Kept k code w0) 1 1 _ c 0 next (Leaves (ByRaise program_error)) l w (omega arith) fits refl
      behind_adjust false c l w fits = last_step ask code (Kept k code w0) 1 1 _ c 0 next (Goes tt) l w (omega arith) fits refl

      -- a part with a controlled part is adjusted
      adjusts_parts : (s0 : State) (c : ℕ) (l : Log) (w : World) → c ≤ bound → Since k code w0 w → step ask code s0 ≡ moved l (Table.adjust_part code None part t false (Assigning part t None p ∷ ks) w) → Arrives 5 s0 c (adjust (O p.display) None part (Record t) c l w)
      unfolding opened_outcome opened_adjustment of_record
      adjusts_parts s0 c l w le fits first =
          both ask code (Sure k code w0) (Kept k code w0) 4 4 1 1 5 5 s0 c (hands (λ _. Assigning part t None p ∷ ks)) next (adjust_part (O p.display) None (type_depth k) part t unadjusted c l w) (on_goes (adjusted (O p.display) None part t)) (omega arith) (omega arith) (omega arith)
          (part_runs ask k code setting call default constants bound calls None None tt (Some p.display) w0 (depth s) (type_depth k) part t unadjusted (λ _. Assigning part t None p ∷ ks) c l w s0 (λ path paths. refl, λ paths. refl) (seen_surrounds k code p.display s w0 part.object sees) (within_depth k t plain) plain declarable le fits first)
          after
        where
          after : (x : Result Adjusted) (c1 : ℕ) (l1 : Log) (w1 : World) → c1 ≤ c → Sure k code w0 (way_of x) w1 → Arrives 1 (hands (λ _. Assigning part t None p ∷ ks) x l1 w1) c1 (on_goes (adjusted (O p.display) None part t) x c1 l1 w1)
          after (Goes a) c1 l1 w1 lo sure = behind_adjust a.failed c1 l1 w1 sure.1
          after (Leaves y) c1 l1 w1 lo sure = absurd sure.0

      -- a part is adjusted, from the step that asks what of it is controlled
      adjusts : (s0 : State) (c : ℕ) (l : Log) (w : World) → c ≤ bound → Since k code w0 w → (q : Parts) → parts_of code t ≡ q → step ask code s0 ≡ moved l (Table.adjust_target code q part t p ks w) → Arrives 5 s0 c (adjust (O p.display) None part (Record t) c l w)
      adjusts s0 c l w le fits PartsOf.Plain is first =
          subst (Arrives 5 s0 c) (sym (untouched_is ask k (called (Some p.display) call) default t plain (agrees.has ∙ ap has_part is) (agrees.itself ∙ ap is_itself is) None part c l w))
          (last_step ask code (Kept k code w0) 5 5 s0 c 0 next (Goes tt) l w (omega arith) fits first)
      adjusts s0 c l w le fits PartsOf.Within is first = adjusts_parts s0 c l w le fits first
      adjusts s0 c l w le fits PartsOf.Controlled is first = adjusts_parts s0 c l w le fits first

      -- a part takes a value, from the step that looks for its object
      takes : (v : List ℕ) (s0 : State) (c : ℕ) (l : Log) (w : World) → c ≤ bound → Since k code w0 w → step ask code s0 ≡ moved l (Table.take_over code part t v (object_at part.object w) p ks w) → Arrives 5 s0 c (taking p.display part v c l w)
      unfolding write_part existing gone opened_outcome
      takes v s0 c l w le fits first = by (object_at part.object w) first
        where
          by : (x : Option Object) → step ask code s0 ≡ moved l (Table.take_over code part t v x p ks w) → Arrives 5 s0 c (bind (on_some x gone (λ o. change (write_cells part.object part.offset v)) c l w) (on_goes (λ _. adjust (O p.display) None part (Record t))))
          by None go = stop_step ask code (Kept k code w0) 5 5 s0 _ c 0 next UseAfterFree l (omega arith) go refl refl
          by (Some o) go =
              let w1 = write_cells part.object part.offset v w in
              subst (Arrives 5 s0 c) (sym (add_none (adjust (O p.display) None part (Record t) c l w1)))
              (adjusts s0 c l w1 le (since_written k code part.object part.offset v w0 w fits) (parts_of code t) refl go)

      -- a part with a controlled part is finalized before
      finalizes : (v : List ℕ) (s0 : State) (c : ℕ) (l : Log) (w : World) → has_controlled k (Record t) ≡ true → c ≤ bound → Since k code w0 w → step ask code s0 ≡ moved l (Table.finalize_part code (parts_of code t) Assign part t (Assigning part t (Some v) p ∷ ks) w) → Arrives 6 s0 c (overwrite K p.display t (found_at (OfObject part)) v c l w)
      unfolding picked opened_outcome
      finalizes v s0 c l w held le fits first =
          subst (Arrives 6 s0 c) (sym (finalized_is held p.display part v c l w))
          (both ask code (Passed k code Assign w0) (Kept k code w0) 0 0 5 5 6 6 s0 c (tells waits) next (finalize (O p.display) Assign Every part t c l w) (behind_finalize p.display part v) (omega arith) (omega arith) (omega arith)
          (target_runs ask k code setting call default constants bound calls part t p.display s w0 waits c l w s0 plain held refl sees declarable le fits first)
          after)
        where
          waits : List Frame
          waits = Assigning part t (Some v) p ∷ ks

          -- an exception of a Finalize is Program_Error (7.6.1)
          after : (x : Result Bool) (c1 : ℕ) (l1 : Log) (w1 : World) → c1 ≤ c → Passed k code Assign w0 (way_of x) w1 → Arrives 5 (tells waits x l1 w1) c1 (behind_finalize p.display part v x c1 l1 w1)
          after (Goes b) c1 l1 w1 lo told = subst (Arrives 5 (tells waits (Goes b) l1 w1) c1) (sym (add_none (taking p.display part v c1 l1 w1))) (takes v (tells waits (Goes b) l1 w1) c1 l1 w1 (omega (arith, lo, le)) told.1 refl)
          after (Leaves y) c1 l1 w1 lo told = subst (λ z. Arrives 5 (tells waits (Leaves z) l1 w1) c1 (behind_finalize p.display part v (Leaves z) c1 l1 w1)) (sym told.0) (last_step ask code (Kept k code w0) 5 5 _ c1 0 next (Leaves (ByRaise program_error)) l1 w1 (omega arith) told.1 refl)

      -- a part is written over, from the step that asks what of it is controlled
      overwrites : (v : List ℕ) (s0 : State) (c : ℕ) (l : Log) (w : World) → c ≤ bound → Since k code w0 w → (q : Parts) → parts_of code t ≡ q → step ask code s0 ≡ moved l (Table.finalize_target code q part t v p ks w) → Arrives 6 s0 c (overwrite K p.display t (found_at (OfObject part)) v c l w)
      overwrites v s0 c l w le fits PartsOf.Plain is first =
          subst (Arrives 6 s0 c) (sym (at_once_is (agrees.has ∙ ap has_part is) p.display part v c l w))
          (within ask code (Kept k code w0) 5 5 6 6 s0 c next (taking p.display part v c l w) (omega arith) (omega arith)
          (takes v s0 c l w le fits first))
      overwrites v s0 c l w le fits PartsOf.Within is first = finalizes v s0 c l w (agrees.has ∙ ap has_part is) le fits (first ∙ ap (λ q. moved l (Table.finalize_part code q Assign part t (Assigning part t (Some v) p ∷ ks) w)) (sym is))
      overwrites v s0 c l w le fits PartsOf.Controlled is first = finalizes v s0 c l w (agrees.has ∙ ap has_part is) le fits (first ∙ ap (λ q. moved l (Table.finalize_part code q Assign part t (Assigning part t (Some v) p ∷ ks) w)) (sym is))

    -- over both parts: one that is assigned to itself stays as it is
    assigns_part : (part source : Spot) (e : Target) (d : List ℕ) (place : ℕ) (ks : List Frame) (ops : List Word) (c : ℕ) (l : Log) (w : World) → c ≤ bound → Since k code w0 w → IsSeen w0 d s → slice_get code.instructions.items place ≡ Some (InstrOf.Assign t) → Runs ask code (Kept k code w0) 6 6 (at d place ks (Located source ∷ Located part ∷ ops) l w) c (arrives e d (place + 1) ks ops) (assign_found K d t (found_at (OfObject part)) (found_at (OfObject source)) c l w)
    unfolding assign_found read_found read_part existing gone same_found opened_outcome
    assigns_part part source e d place ks ops c l w le fits sees has = by (object_at source.object w) (by_code ask code d place ks (Located source ∷ Located part ∷ ops) l w (InstrOf.Assign t) has)
      where
        s0 : State
        s0 = at d place ks (Located source ∷ Located part ∷ ops) l w

        p : Point
        p = record { display = d; place = place + 1; operands = ops }

        by : (x : Option Object) → step ask code (at d place ks (Located source ∷ Located part ∷ ops) l w) ≡ moved l (Table.assigned code part source t x ops (here d place ks w)) → Runs ask code (Kept k code w0) 6 6 (at d place ks (Located source ∷ Located part ∷ ops) l w) c (arrives e d (place + 1) ks ops) (bind (on_some x gone (λ o. done (cells_at source.offset (cells_of k (Record t)) o)) c l w) (on_goes (λ v. either (is_same_part part source) nothing (overwrite K d t (found_at (OfObject part)) v))))
        by None go = stop_step ask code (Kept k code w0) 6 6 _ _ c 0 (arrives e d (place + 1) ks ops) UseAfterFree l (omega arith) go refl refl
        by (Some o) go = both_named (is_same_part part source) go
          where
            v : List ℕ
            v = cells_at source.offset (size_of code t) o

            size : cells_of k (Record t) ≡ size_of code t
            size = sym (setting.sizes t plain.2.laid.is)

            both_named : (b : Bool) → step ask code (at d place ks (Located source ∷ Located part ∷ ops) l w) ≡ moved l (if b then Table.on ops w (here d place ks w) else Table.assigned_value code part t (cells_at source.offset (size_of code t) o) ops (here d place ks w)) → Runs ask code (Kept k code w0) 6 6 (at d place ks (Located source ∷ Located part ∷ ops) l w) c (arrives e d (place + 1) ks ops) (add 0 (either b nothing (overwrite K d t (found_at (OfObject part)) (cells_at source.offset (cells_of k (Record t)) o)) c l w))
            both_named true go1 = last_step ask code (Kept k code w0) 6 6 _ c 0 (arrives e d (place + 1) ks ops) (Goes tt) l w (omega arith) fits go1
            both_named false go1 =
                subst (λ i. Runs ask code (Kept k code w0) 6 6 s0 c (arrives e d (place + 1) ks ops) (add 0 (overwrite K d t (found_at (OfObject part)) (cells_at source.offset i o) c l w))) (sym size)
                (subst (Runs ask code (Kept k code w0) 6 6 s0 c (arrives e d (place + 1) ks ops)) (sym (add_none (overwrite K d t (found_at (OfObject part)) v c l w)))
                (overwrites part e p ks sees v s0 c l w le fits (parts_of code t) refl go1))

    -- over both: a value alone takes none, and one that is assigned to itself stays as it is
    assigns : (target source : RecordOperand) (e : Target) (d : List ℕ) (place : ℕ) (ks : List Frame) (ops : List Word) (c : ℕ) (l : Log) (w : World) → c ≤ bound → Since k code w0 w → IsSeen w0 d s → slice_get code.instructions.items place ≡ Some (InstrOf.Assign t) → Runs ask code (Kept k code w0) 6 6 (at d place ks (word source ∷ word target ∷ ops) l w) c (arrives e d (place + 1) ks ops) (assign_found K d t (found_at target) (found_at source) c l w)
    unfolding assign_found overwrite on_variable read_found read_part existing gone same_found opened_outcome
    assigns (OfCells u) (OfCells v) e d place ks ops c l w le fits sees has = stop_step ask code (Kept k code w0) 6 6 _ _ c 0 (arrives e d (place + 1) ks ops) UseAfterFree l (omega arith) (by_code ask code d place ks (Cells v ∷ Cells u ∷ ops) l w (InstrOf.Assign t) has) refl refl
    assigns (OfCells u) (OfObject source) e d place ks ops c l w le fits sees has = by (object_at source.object w)
      where
        by : (x : Option Object) → Runs ask code (Kept k code w0) 6 6 (at d place ks (Located source ∷ Cells u ∷ ops) l w) c (arrives e d (place + 1) ks ops) (bind (on_some x gone (λ o. done (cells_at source.offset (cells_of k (Record t)) o)) c l w) (on_goes (λ v. gone)))
        by None = stop_step ask code (Kept k code w0) 6 6 _ _ c 0 (arrives e d (place + 1) ks ops) UseAfterFree l (omega arith) (by_code ask code d place ks (Located source ∷ Cells u ∷ ops) l w (InstrOf.Assign t) has) refl refl
        by (Some o) = stop_step ask code (Kept k code w0) 6 6 _ _ c 0 (arrives e d (place + 1) ks ops) UseAfterFree l (omega arith) (by_code ask code d place ks (Located source ∷ Cells u ∷ ops) l w (InstrOf.Assign t) has) refl refl
    assigns (OfObject part) (OfCells v) e d place ks ops c l w le fits sees has =
        let s0 = at d place ks (Cells v ∷ Located part ∷ ops) l w in
        let p : Point = record { display = d; place = place + 1; operands = ops } in
        let size : cells_of k (Record t) ≡ size_of code t = sym (setting.sizes t plain.2.laid.is) in
        let x = first_cells (size_of code t) v in
        subst (λ i. Runs ask code (Kept k code w0) 6 6 s0 c (arrives e d (place + 1) ks ops) (add 0 (overwrite K d t (found_at (OfObject part)) (first_cells i v) c l w))) (sym size)
        (subst (Runs ask code (Kept k code w0) 6 6 s0 c (arrives e d (place + 1) ks ops)) (sym (add_none (overwrite K d t (found_at (OfObject part)) x c l w)))
        (overwrites part e p ks sees x s0 c l w le fits (parts_of code t) refl (by_code ask code d place ks (Cells v ∷ Located part ∷ ops) l w (InstrOf.Assign t) has)))
    assigns (OfObject part) (OfObject source) e d place ks ops c l w le fits sees has = assigns_part part source e d place ks ops c l w le fits sees has

    -- over the target, from the instruction that finds the source's object on
    source_runs : (target : RecordOperand) (y : Reached) (act : List ℕ → Act (List ℕ)) → Starts ask k code bound w0 (start_of y) act → are_followed (start_of y) (steps_before y) ≡ true → part_is_run y k.records ≡ true → (source : List ℕ → Act Found) (ticks : ℕ) → IsFound y act source ticks → (e : Target) (d : List ℕ) (place : ℕ) (ks : List Frame) (ops : List Word) (c : ℕ) (l : Log) (w : World) → c ≤ bound → Since k code w0 w → IsSeen w0 d s → Laid code place (take_over_code t y s) → Runs ask code (Kept k code w0) 6 6 (at d place ks (word target ∷ ops) l w) c (arrives e d (place + length (take_over_code t y s)) ks ops) (bind (source d c l w) (on_goes (assign_found K d t (found_at target))))
    unfolding opened_outcome
    source_runs target y act begun walked runs source ticks finds e d place ks ops c l w le fits sees has =
        let front = part_code y t s in
        let last : List Line = (InstrOf.Assign t, Operand (Record t) ∷ s) ∷ [] in
        let after : Result Found → Act Done = on_goes (assign_found K d t (found_at target)) in
        let found = find_by K act (steps_of y) (start_of y) d c l w in
        let next = arrives e d (place + length (take_over_code t y s)) ks ops in
        let end : place + length front + 1 ≡ place + length (take_over_code t y s) = omega (arith, length-append front last) in
        subst (Runs ask code (Kept k code w0) 6 6 (at d place ks (word target ∷ ops) l w) c next)
        (sym (ap (λ o. bind o after) (finds d c l w) ∙ bind_add ticks found after))
        (added ask code (Kept k code w0) ticks 6 6 6 6 _ c next (bind found after) (omega arith) (omega arith)
        (part_then ask k code bound w0 call default (λ r. Since k code w0) next after d ks (word target ∷ ops) 6 6 y act begun t s place c l w walked (agree_part k code setting.places y runs) le fits sees (laid_front code place front last has)
        (λ c1 l1 w1 lo fits1 given. subst (λ q. Runs ask code (Kept k code w0) 6 6 (at d (place + length front) ks (word given ∷ word target ∷ ops) l1 w1) c1 (arrives e d q ks ops) (assign_found K d t (found_at target) (found_at given) c1 l1 w1)) end
        (assigns target given e d (place + length front) ks ops c1 l1 w1 (omega (arith, lo, le)) fits1 sees (laid_back code place front last has).0))
        (λ z c1 l1 w1 lo fits1. no_step ask code (Kept k code w0) 6 6 _ c1 0 next (Leaves (ByRaise z)) l1 w1 fits1 refl)))

  -- the target is found, and then the source; each begins with the value of such an act, if it begins with one
  abbrev assigned : Reached → (List ℕ → Act (List ℕ)) → (List ℕ → Act Found) → List ℕ → Act Done
  assigned x to source d = ticked (find_by K to (steps_of x) (start_of x) d >>= (λ f. source d >>= assign_found K d t f))

  -- its operations are in scope, as the code is well formed
  scope : (x y : Reached) (s : List Kind) (place : ℕ) → Laid code place (record_code x t y s) → IsDeclarable code (depth s) t
  scope x y s place has =
      let over = Operand (Record t) ∷ s in
      let there = laid_back code (place + length (part_code x t s)) (part_code y t over) ((InstrOf.Assign t, Operand (Record t) ∷ over) ∷ []) (laid_back code place (part_code x t s) (take_over_code t y over) has) in
      (setting.valid.each _ (InstrOf.Assign t) (Operand (Record t) ∷ over) there.0 there.1).0

  pub record_does : (bound : ℕ) → Calls ask k code setting bound call → (x : Reached) (to : List ℕ → Act (List ℕ)) (y : Reached) (from : List ℕ → Act (List ℕ)) → ((w0 : World) → Starts ask k code bound w0 (start_of x) to) → ((w0 : World) → Starts ask k code bound w0 (start_of y) from) → are_followed (start_of x) (steps_before x) ≡ true → are_followed (start_of y) (steps_before y) ≡ true → part_is_run x k.records ≡ true → part_is_run y k.records ≡ true → (source : List ℕ → Act Found) (ticks : ℕ) → IsFound y from source ticks → Does ask k code bound (λ a. record_code x t y a.stack) (λ d caught. assigned x to source d)
  unfolding opened_outcome
  record_does bound calls x to y from begun begun1 walked walked1 runs runs1 source ticks finds a w0 d place ks ops c l w le fits sees has =
      let s = a.stack in
      let front = part_code x t s in
      let back = take_over_code t y (Operand (Record t) ∷ s) in
      let after : Result Found → Act Done = on_goes (λ f. source d >>= assign_found K d t f) in
      let next = arrives (lands a place) d (place + length (record_code x t y s)) ks ops in
      let end : place + length front + length back ≡ place + length (record_code x t y s) = omega (arith, length-append front back) in
      added ask code (Kept k code w0) 1 6 6 0 0 _ c next _ (omega arith) (omega arith)
      (part_then ask k code bound w0 call default (λ r. Since k code w0) next after d ks ops 6 6 x to (begun w0) t s place c l w walked (agree_part k code setting.places x runs) le fits (seen sees) (laid_front code place front back has)
      (λ c1 l1 w1 lo fits1 target. subst (λ q. Runs ask code (Kept k code w0) 6 6 (at d (place + length front) ks (word target ∷ ops) l1 w1) c1 (arrives (lands a place) d q ks ops) (after (Goes (found_at target)) c1 l1 w1)) end
      (source_runs bound calls (Operand (Record t) ∷ s) (scope x y s place has) w0 target y from (begun1 w0) walked1 runs1 source ticks finds (lands a place) d (place + length front) ks ops c1 l1 w1 (omega (arith, lo, le)) fits1 (seen sees) (laid_back code place front back has)))
      (λ z c1 l1 w1 lo fits1. no_step ask code (Kept k code w0) 6 6 _ c1 0 next (Leaves (ByRaise z)) l1 w1 fits1 refl))
