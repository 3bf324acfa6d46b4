-- Components of objects: the code that reads one and the code that assigns to one does what the program means (4.1.3, 5.2).
use Rattle.std.proofs.Common.{◌≡◌, ℕ, ◌+◌, ◌≤◌, List, [], ◌∷◌, ◌++◌, length, drop, Option, Some, None, Bool, true, refl, sym, ap, ◌∙◌, subst, arith, length-append}
use Rattle.std.specs.Prelude.{option_map, slice_get}
use Rattle.ctl_program.specs.declared.types.Ty.{Ty}
use Rattle.ctl_program.specs.declared.types.Ty.TheVariants.{Record}
use Rattle.ctl_program.specs.declared.types.Var.{Var}
use Rattle.ctl_program.specs.declared.types.RecordType.{RecordType}
use Rattle.ctl_program.specs.declared.expression.Step.{Step}
use Rattle.ctl_tree.specs.declared.ending.Stop.TheVariants.{UseAfterFree}
use Rattle.ctl_meaning.specs.World.{Object, Log, World}
use Rattle.ctl_meaning.specs.Objects.{cells_at, first_cells}
use Rattle.ctl_meaning.specs.Changes.{object_at, write_cells}
use Rattle.ctl_meaning.specs.Choice.{Ask}
use Rattle.ctl_meaning.specs.Outcome.{ByRaise, Result, Goes, Leaves, Out, Act, Done, add, bind, on_goes, ◌>>=◌, done, change, ticked, on_some, opened_outcome}
use Rattle.ctl_meaning.specs.Types.{Tables, cells_of}
use Rattle.ctl_meaning.specs.Names.{Found, Call, Default, Tools, gone, existing, read_found, read_part, scalar_of, write_found, write_part}
use Rattle.ctl_code.specs.declared.code.Cell.{Cell}
use Rattle.ctl_code.specs.declared.code.Named.{Named}
use Rattle.ctl_code.specs.declared.code.Instr.TheVariants as InstrOf
use Rattle.ctl_code.specs.declared.code.Code.{Code}
use Rattle.ctl_code.specs.declared.kinds.Kind.{Kind}
use Rattle.ctl_code.specs.declared.kinds.Kind.TheVariants.{Operand}
use Rattle.ctl_code.specs.States.{Word, Located, Cells, Frame, State}
use Rattle.ctl_code.specs.Steps.{moved, step}
use Rattle.ctl_code.specs.Table.{by_fetch_part, fetch_from, fetched, holder_at, offset_of, on_top, put, store_into, stored}
use Rattle.ctl_layout.specs.declared.right.Right.TheVariants as RightOf
use Rattle.ctl_layout.specs.Parts.{Start, OfVariable, OfValue, OfRecord, Reached, are_followed, component_code, located_code, taken_code}
use Rattle.ctl_layout.specs.Values.{ValueCode, held, value_type}
use Rattle.ctl_layout.specs.Layout.{assign_part_code, store_part_code}
use Rattle.ctl_gen.proofs.Known.{IsScalar}
use Rattle.ctl_gen.proofs.Place.{Laid, laid_front, laid_back}
use Rattle.ctl_gen.proofs.Worlds.{Since, Kept, since_written}
use Rattle.ctl_gen.proofs.Setting.{IsSeen, seen, tools_with}
use Rattle.ctl_gen.proofs.Cells.{Any, OneCell, Stays, by_code, here, landed, landed_leaves, put_there, taking_is, waiting}
use Rattle.ctl_gen.proofs.Values.{one_cell, scalar_cells}
use Rattle.ctl_gen.proofs.Expressions as X
use Rattle.ctl_gen.proofs.Expressions.{Value, held_holds, held_then}
use Rattle.ctl_gen.proofs.Parts.{Agree, OfCells, OfObject, RecordOperand, content_of, find_by, finds_object, first_is, first_scalar, found_at, held as holds, held_word, object_found, word}
use Rattle.ctl_gen.proofs.LastSteps.{Ends, Last, ends_in, last_found}
use Rattle.ctl_gen.proofs.Begun.{Starts, located_then}
use Rattle.ctl_gen.proofs.Does.{Does}
use Rattle.ctl_gen.proofs.Follow.{Runs, Target, added, added_to, arrives, at, bind_bind, lands, last_step, last_step_to, no_step, no_step_to, stop_step, stop_step_to, transferred}

module _ (ask : Ask) (k : Tables) (code : Code) (call : Call) (default : Default) where
  abbrev K : Tools
  K = tools_with ask k call default

  -- the component at a position of the part that these steps lead to, which has its first cell there, and what a last step of the name finds of
  -- it: a selector, or nothing, where the object itself is meant; what the name begins with, if that is a value, is given by this act
  module _ (start : Start) (given : List ℕ → Act (List ℕ)) (steps : List Step) (t position : ℕ) (agree : Agree k code steps) (last : Last code t position) (followed : are_followed start steps ≡ true) where
    abbrev offset : ℕ
    offset = last.offset

    -- Reading ---------------------------------------------------------------------------------------

    module _ (bound : ℕ) (w0 : World) where
      abbrev Fits : World → Type 0
      Fits w = Since k code w0 w

      abbrev Gets : ℕ → ℕ → State → ℕ → (Result (List ℕ) → Log → World → State) → Out (List ℕ) → Type 0
      Gets = X.Gets ask k code bound w0 Any

      -- the value of the component, behind what finds the part
      abbrev fetching : Result Found → Act (List ℕ)
      fetching r c l w = bind (on_goes last.step r c l w) (on_goes (read_found 1))

      -- one step, to the value where it is wanted, or to a stop
      fetches : (p : RecordOperand) (to : Named) (d : List ℕ) (place : ℕ) (ks : List Frame) (ops : List Word) (c : ℕ) (l : Log) (w : World) (s0 : State) → Fits w → step ask code s0 ≡ moved l (fetch_from offset (word p) to ops (here d place ks w)) → Gets 8 8 s0 c (landed to d (place + 1) ks ops) (fetching (Goes (found_at p)) c l w)
      unfolding read_found read_part existing gone cells_at opened_outcome
      fetches (OfCells v) to d place ks ops c l w s0 fits first =
          let x = drop offset v in
          subst (λ o. Gets 8 8 s0 c (landed to d (place + 1) ks ops) (bind o (on_goes (read_found 1)))) (sym (last.is (OfCells v) c l w))
          (last_step_to ask code (OneCell Fits Any) 8 8 s0 c (last.ticks + 0) (landed to d (place + 1) ks ops) (Goes (first_cells 1 x)) l w (omega arith) (fits, (scalar_of x, first_is x, tt))
          (first ∙ ap (λ n. moved l (put to n ops (here d place ks w))) (sym (first_scalar x)) ∙ put_there to (first_cells 1 x) d place ks ops l w))
      fetches (OfObject p) to d place ks ops c l w s0 fits first =
          subst (λ o. Gets 8 8 s0 c (landed to d (place + 1) ks ops) (bind o (on_goes (read_found 1)))) (sym (last.is (OfObject p) c l w)) (by (object_at p.object w) first)
        where
          by : (x : Option Object) → step ask code s0 ≡ moved l (fetched (p.offset + offset) x to ops (here d place ks w)) → Gets 8 8 s0 c (landed to d (place + 1) ks ops) (add last.ticks (on_some x gone (λ y. done (cells_at (p.offset + offset) 1 y)) c l w))
          by None go = stop_step_to ask code (OneCell Fits Any) 8 8 s0 _ c (last.ticks + 0) (landed to d (place + 1) ks ops) UseAfterFree l (omega arith) go refl refl
          by (Some y) go = last_step_to ask code (OneCell Fits Any) 8 8 s0 c (last.ticks + 0) (landed to d (place + 1) ks ops) (Goes (cells_at (p.offset + offset) 1 y)) l w (omega arith) (fits, (scalar_of (cells_at (p.offset + offset) 1 y), one_cell (drop (p.offset + offset) y.cells), tt)) (go ∙ put_there to (cells_at (p.offset + offset) 1 y) d place ks ops l w)

      -- a component of what a variable holds itself
      fetches_it : (v : Var) (to : Cell) (ty : Ty) (s : List Kind) (d : List ℕ) (place : ℕ) (ks : List Frame) (ops : List Word) (c : ℕ) (l : Log) (w : World) → Fits w → slice_get code.instructions.items place ≡ Some (InstrOf.FetchPart v t position ty to) → Gets 8 8 (at d place ks ops l w) c (landed to.named d (place + 1) ks ops) (bind (object_found (holds (content_of d v w)) c l w) fetching)
      unfolding opened_outcome
      fetches_it v to ty s d place ks ops c l w fits has =
          by (holds (content_of d v w))
          (by_code ask code d place ks ops l w (InstrOf.FetchPart v t position ty to) has
          ∙ ap (λ j. moved l (by_fetch_part j (holder_at d v w) to.named ops (here d place ks w))) last.there
          ∙ ap (λ o. moved l (by_fetch_part offset o to.named ops (here d place ks w))) (held_word (content_of d v w)))
        where
          by : (o : Option RecordOperand) → step ask code (at d place ks ops l w) ≡ moved l (by_fetch_part offset (option_map word o) to.named ops (here d place ks w)) → Gets 8 8 (at d place ks ops l w) c (landed to.named d (place + 1) ks ops) (bind (object_found o c l w) fetching)
          by None first = stop_step_to ask code (OneCell Fits Any) 8 8 _ _ c 1 (landed to.named d (place + 1) ks ops) UseAfterFree l (omega arith) first refl refl
          by (Some p) first = added_to ask code (OneCell Fits Any) 1 8 8 8 8 _ c (landed to.named d (place + 1) ks ops) (fetching (Goes (found_at p)) c l w) (omega arith) (omega arith) (fetches p to.named d place ks ops c l w _ fits first)

      -- and one of the part on top
      takes_it : (p : RecordOperand) (to : Cell) (ty : Ty) (d : List ℕ) (place : ℕ) (ks : List Frame) (ops : List Word) (c : ℕ) (l : Log) (w : World) → Fits w → slice_get code.instructions.items place ≡ Some (InstrOf.TakePart t position ty to) → Gets 8 8 (at d place ks (word p ∷ ops) l w) c (landed to.named d (place + 1) ks ops) (fetching (Goes (found_at p)) c l w)
      takes_it p to ty d place ks ops c l w fits has =
          fetches p to.named d place ks ops c l w _ fits
          (by_code ask code d place ks (word p ∷ ops) l w (InstrOf.TakePart t position ty to) has
          ∙ ap (λ j. moved l (fetch_from j (word p) to.named ops (here d place ks w))) last.there)

      -- an exception is under way to the innermost master
      leaves_it : (to : Named) (d : List ℕ) (place : ℕ) (ks : List Frame) (ops : List Word) (y c : ℕ) (l : Log) (w : World) → Fits w → Gets 8 8 (transferred (ByRaise y) ks l w) c (landed to d place ks ops) (fetching (Leaves (ByRaise y)) c l w)
      unfolding opened_outcome
      leaves_it to d place ks ops y c l w fits = no_step_to ask code (OneCell Fits Any) 8 8 _ c 0 (landed to d place ks ops) (Leaves (ByRaise y)) l w (fits, tt) (landed_leaves to d place ks ops (ByRaise y) l w)

      -- one of a part that is found first
      takes : (b : Start) (ss : List Step) → Starts ask k code bound w0 b given → are_followed b ss ≡ true → ss ≡ steps → (to : Cell) (ty : Ty) (s : List Kind) (d : List ℕ) (place : ℕ) (ks : List Frame) (ops : List Word) (c : ℕ) (l : Log) (w : World) → c ≤ bound → Fits w → IsSeen w0 d s → Laid code place (taken_code b ss t position ty to s) → Gets 8 8 (at d place ks ops l w) c (landed to.named d (place + length (taken_code b ss t position ty to s)) ks ops) (bind (find_by K given ss b d c l w) fetching)
      takes b ss begun led same to ty s d place ks ops c l w le fits long has =
          let front = located_code b ss t s in
          let last = (InstrOf.TakePart t position ty to, Operand (Record t) ∷ s) ∷ [] in
          let end : place + length front + 1 ≡ place + length (front ++ last) = omega (arith, length-append front last) in
          let next = landed to.named d (place + length front + 1) ks ops in
          subst (λ q. Gets 8 8 (at d place ks ops l w) c (landed to.named d q ks ops) (bind (find_by K given ss b d c l w) fetching)) end
          (located_then ask k code bound w0 call default (OneCell Fits Any) next fetching d ks ops 8 8 b given begun ss t s place c l w led
          (subst (Agree k code) (sym same) agree) le fits long (laid_front code place front last has)
          (λ c1 l1 w1 lo fits1 p. takes_it p to ty d (place + length front) ks ops c1 l1 w1 fits1 (laid_back code place front last has).0)
          (λ y c1 l1 w1 lo fits1. leaves_it to.named d (place + length front + 1) ks ops y c1 l1 w1 fits1))

      reads : (b : Start) (ss : List Step) → Starts ask k code bound w0 b given → are_followed b ss ≡ true → ss ≡ steps → (to : Cell) (ty : Ty) (s : List Kind) (d : List ℕ) (place : ℕ) (ks : List Frame) (ops : List Word) (c : ℕ) (l : Log) (w : World) → c ≤ bound → Fits w → IsSeen w0 d s → Laid code place (component_code b ss t position ty to s) → Gets 8 8 (at d place ks ops l w) c (landed to.named d (place + length (component_code b ss t position ty to s)) ks ops) (bind (find_by K given ss b d c l w) fetching)
      reads (OfVariable v) [] begun led same to ty s d place ks ops c l w le fits long has =
          subst (λ o. Gets 8 8 (at d place ks ops l w) c (landed to.named d (place + 1) ks ops) (bind o fetching)) (sym (finds_object K v d c l w))
          (fetches_it v to ty s d place ks ops c l w fits has.0)
      reads (OfVariable v) (x ∷ more) begun led same to ty s d place ks ops c l w le fits long has = takes (OfVariable v) (x ∷ more) begun led same to ty s d place ks ops c l w le fits long has
      reads (OfValue form lines) ss begun led same to ty s d place ks ops c l w le fits long has = takes (OfValue form lines) ss begun led same to ty s d place ks ops c l w le fits long has
      reads (OfRecord u form lines) ss begun led same to ty s d place ks ops c l w le fits long has = takes (OfRecord u form lines) ss begun led same to ty s d place ks ops c l w le fits long has

      pub component_value : Starts ask k code bound w0 start given → (find : List ℕ → Act Found) → Ends K last given steps start find → (ty : Ty) → IsScalar ty → (run : List RecordType → Bool) (reached : Option Reached)
          → Value ask k code bound w0 (record { runs = run; own = Some ty; right = RightOf.Evaluated; reached = reached; code = λ to u s. component_code start steps t position u to s }) (λ d. ticked (find d >>= read_found (cells_of k ty)))
      unfolding opened_outcome
      component_value begun find is ty scalar run reached = record {
        begins = λ to u s d place ks ops c l w le fits long has. record {
          out = bind (find_by K given steps start d c l w) fetching;
          is = reads_it d c l w;
          runs = reads start steps begun followed refl to u s d place ks ops c l w le fits long has;
        };
        constant = λ n is1 d c l w. absurd (cc);
        variable = λ y is1 d c l w. absurd (cc);
      }
        where
          reads_it : (d : List ℕ) (c : ℕ) (l : Log) (w : World) → ticked (find d >>= read_found (cells_of k ty)) c l w ≡ add 1 (bind (find_by K given steps start d c l w) fetching)
          reads_it d c l w =
              ap (λ o. add 1 (bind o (on_goes (read_found (cells_of k ty))))) (is d c l w)
              ∙ (ap (λ n. add 1 (bind (ends_in K last given steps start d c l w) (on_goes (read_found n)))) (scalar_cells k ty scalar)
              ∙ ap (add 1) (bind_bind (find_by K given steps start d c l w) (on_goes last.step) (on_goes (read_found 1))))

    -- Assigning ---------------------------------------------------------------------------------------

    module _ (bound : ℕ) (y : ValueCode) (act : List ℕ → Act (List ℕ)) (value : (w0 : World) → Value ask k code bound w0 y act) where
      -- a value is evaluated behind what finds the part, and goes into its component
      abbrev storing : List ℕ → Result Found → Act Done
      storing d r c l w = bind (on_goes last.step r c l w) (on_goes (λ f. act d >>= write_found f))

      -- the step that stores it
      stores_step : (cell : Cell) (p : RecordOperand) (m : ℕ) (d : List ℕ) (q : ℕ) (ks : List Frame) (ops : List Word) (l : Log) (w : World) → Stays cell.named m d w → slice_get code.instructions.items q ≡ Some (InstrOf.StorePart cell (value_type y) t position) → step ask code (at d q ks (waiting cell.named m (word p ∷ ops)) l w) ≡ moved l (store_into offset m (word p) ops (here d q ks w))
      stores_step cell p m d q ks ops l w stays has =
          by_code ask code d q ks (waiting cell.named m (word p ∷ ops)) l w (InstrOf.StorePart cell (value_type y) t position) has
          ∙ ap (moved l) (taking_is cell.named m (λ x rest. on_top (λ z below. store_into (offset_of code t position) x z below (here d q ks w)) rest (here d q ks w)) (word p ∷ ops) d q ks w stays)
          ∙ ap (λ j. moved l (store_into j m (word p) ops (here d q ks w))) last.there

      -- the value is there
      stores : (w0 : World) (cell : Cell) (p : RecordOperand) (m : ℕ) (e : Target) (d : List ℕ) (q : ℕ) (ks : List Frame) (ops : List Word) (c : ℕ) (l : Log) (w : World) → Since k code w0 w → Stays cell.named m d w → slice_get code.instructions.items q ≡ Some (InstrOf.StorePart cell (value_type y) t position) → Runs ask code (Kept k code w0) 8 8 (at d q ks (waiting cell.named m (word p ∷ ops)) l w) c (arrives e d (q + 1) ks ops) (write_found (last_found offset last.path p) (m ∷ []) c l w)
      unfolding write_found write_part existing gone opened_outcome
      stores w0 cell (OfCells v) m e d q ks ops c l w fits stays has =
          stop_step ask code (Kept k code w0) 8 8 (at d q ks (waiting cell.named m (Cells v ∷ ops)) l w) _ c 0 (arrives e d (q + 1) ks ops) UseAfterFree l (omega arith) (stores_step cell (OfCells v) m d q ks ops l w stays has) refl refl
      stores w0 cell (OfObject p) m e d q ks ops c l w fits stays has = by (object_at p.object w) (stores_step cell (OfObject p) m d q ks ops l w stays has)
        where
          by : (x : Option Object) → step ask code (at d q ks (waiting cell.named m (Located p ∷ ops)) l w) ≡ moved l (stored p.object (p.offset + offset) m x ops (here d q ks w)) → Runs ask code (Kept k code w0) 8 8 (at d q ks (waiting cell.named m (Located p ∷ ops)) l w) c (arrives e d (q + 1) ks ops) (on_some x gone (λ o. change (write_cells p.object (p.offset + offset) (m ∷ []))) c l w)
          by None go = stop_step ask code (Kept k code w0) 8 8 _ _ c 0 (arrives e d (q + 1) ks ops) UseAfterFree l (omega arith) go refl refl
          by (Some o) go = last_step ask code (Kept k code w0) 8 8 _ c 0 (arrives e d (q + 1) ks ops) (Goes tt) l (write_cells p.object (p.offset + offset) (m ∷ []) w) (omega arith) (since_written k code p.object (p.offset + offset) (m ∷ []) w0 w fits) go

      -- over the part that has the component
      part_stores : (p : RecordOperand) (e : Target) (s : List Kind) (w0 : World) (d : List ℕ) (place : ℕ) (ks : List Frame) (ops : List Word) (c : ℕ) (l : Log) (w : World) → c ≤ bound → Since k code w0 w → IsSeen w0 d s → Laid code place (store_part_code t position y s) → Runs ask code (Kept k code w0) 0 0 (at d place ks (word p ∷ ops) l w) c (arrives e d (place + length (store_part_code t position y s)) ks ops) (storing d (Goes (found_at p)) c l w)
      unfolding opened_outcome
      part_stores p e s w0 d place ks ops c l w le fits long has =
          let over = Operand (Record t) ∷ s in
          let ty = value_type y in
          let h = held y ty over in
          let i = InstrOf.StorePart h.cell ty t position in
          let q = place + length h.code in
          let f = last_found offset last.path p in
          let end : q + 1 ≡ place + length (store_part_code t position y s) = omega (arith, length-append h.code ((i, h.after) ∷ [])) in
          subst (λ o. Runs ask code (Kept k code w0) 0 0 (at d place ks (word p ∷ ops) l w) c (arrives e d (place + length (store_part_code t position y s)) ks ops) (bind o (on_goes (λ g. act d >>= write_found g)))) (sym (last.is p c l w))
          (added ask code (Kept k code w0) last.ticks 0 0 0 0 _ c (arrives e d (place + length (store_part_code t position y s)) ks ops) (bind (act d c l w) (on_goes (write_found f))) (omega arith) (omega arith)
          (subst (λ z. Runs ask code (Kept k code w0) 0 0 (at d place ks (word p ∷ ops) l w) c (arrives e d z ks ops) (bind (act d c l w) (on_goes (write_found f)))) end
          (held_then ask k code bound w0 (λ r. Since k code w0) h (λ m w1. Stays h.cell.named m d w1) act d place ks (word p ∷ ops) c l w (arrives e d (q + 1) ks ops) (on_goes (write_found f))
          (held_holds ask k code bound w0 y.right y act refl (value w0) ty over d place ks (word p ∷ ops) c l w le fits long (laid_front code place h.code ((i, h.after) ∷ []) has))
          (λ m c1 l1 w1 lo fits1 stays. stores w0 h.cell p m e d q ks ops c1 l1 w1 fits1 stays (laid_back code place h.code ((i, h.after) ∷ []) has).0)
          (λ z c1 l1 w1 lo fits1. no_step ask code (Kept k code w0) 8 8 _ c1 0 (arrives e d (q + 1) ks ops) (Leaves (ByRaise z)) l1 w1 fits1 refl))))

      pub part_does : ((w0 : World) → Starts ask k code bound w0 start given) → (find : List ℕ → Act Found) → Ends K last given steps start find → Does ask k code bound (λ a. assign_part_code start steps t position y a.stack) (λ d caught. ticked (find d >>= (λ f. act d >>= write_found f)))
      unfolding opened_outcome
      part_does begun find is a w0 d place ks ops c l w le fits sees has =
          let s = a.stack in
          let front = located_code start steps t s in
          let back = store_part_code t position y s in
          let next = arrives (lands a place) d (place + length (assign_part_code start steps t position y s)) ks ops in
          let end : place + length front + length back ≡ place + length (assign_part_code start steps t position y s) = omega (arith, length-append front back) in
          let f : Result Found → Act Done = on_goes (λ z. act d >>= write_found z) in
          subst (Runs ask code (Kept k code w0) 0 0 (at d place ks ops l w) c next)
          (sym (ap (λ z. add 1 (bind z f)) (is d c l w) ∙ ap (add 1) (bind_bind (find_by K given steps start d c l w) (on_goes last.step) f)))
          (added ask code (Kept k code w0) 1 0 0 0 0 _ c next _ (omega arith) (omega arith)
          (located_then ask k code bound w0 call default (λ r. Since k code w0) next (storing d) d ks ops 0 0 start given (begun w0) steps t s place c l w followed agree le fits (seen sees) (laid_front code place front back has)
          (λ c1 l1 w1 lo fits1 p. subst (λ q. Runs ask code (Kept k code w0) 0 0 (at d (place + length front) ks (word p ∷ ops) l1 w1) c1 (arrives (lands a place) d q ks ops) (storing d (Goes (found_at p)) c1 l1 w1)) end
          (part_stores p (lands a place) s w0 d (place + length front) ks ops c1 l1 w1 (omega (arith, lo, le)) fits1 (seen sees) (laid_back code place front back has)))
          (λ y1 c1 l1 w1 lo fits1. no_step ask code (Kept k code w0) 0 0 _ c1 0 next (Leaves (ByRaise y1)) l1 w1 fits1 refl)))
