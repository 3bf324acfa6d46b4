-- Calls of functions as values: behind the code of the actuals the body is entered, and its value goes where it is wanted; that of a record is a
-- new operand (6.4, 6.5).
use Rattle.std.proofs.Common.{◌≡◌, ℕ, zero, suc, ◌+◌, List, [], ◌∷◌, ◌++◌, length, Some, None, Bool, false, refl, sym, ap, ◌∙◌, subst, arith, length-append}
use Rattle.ctl_program.specs.declared.types.Ty.{Ty}
use Rattle.ctl_program.specs.declared.types.Ty.TheVariants.{Record}
use Rattle.ctl_program.specs.declared.types.RecordType.{RecordType}
use Rattle.ctl_program.specs.declared.operators.SubprogramKind.TheVariants.{Function}
use Rattle.ctl_meaning.specs.World.{Log, World}
use Rattle.ctl_meaning.specs.Objects.{first_cells}
use Rattle.ctl_meaning.specs.Choice.{Ask}
use Rattle.ctl_meaning.specs.Outcome.{ByRaise, Result, Goes, Leaves, Gives, Act, bind, on_goes, ◌>>=◌, ticked, opened_outcome}
use Rattle.ctl_meaning.specs.Types.{Tables, cells_of}
use Rattle.ctl_meaning.specs.Names.{Alone, Returned, Call, Default, Tools, scalar_of, read_found}
use Rattle.ctl_meaning.specs.Expressions.{Supplied, call_with, no_actuals, pass_each}
use Rattle.ctl_code.specs.declared.code.Cell.{Cell}
use Rattle.ctl_code.specs.declared.code.Instr.TheVariants as InstrOf
use Rattle.ctl_code.specs.declared.code.Code.{Code}
use Rattle.ctl_code.specs.declared.kinds.Kind.{Kind}
use Rattle.ctl_code.specs.States.{Word, Cells, AfterFunction, Frame, State}
use Rattle.ctl_code.specs.Windows.{height}
use Rattle.ctl_code.specs.Table.{size_of, with_values}
use Rattle.ctl_layout.specs.Parts.{OfRecord}
use Rattle.ctl_layout.specs.Values.{ActualCode, actuals_code, evaluates_code, function_call, goes_back, moved_to, record_call_code, with_actuals}
use Rattle.ctl_emitter.proofs.EmittedCalls.{none_kept}
use Rattle.ctl_gen.proofs.Known.{IsScalar}
use Rattle.ctl_gen.proofs.Values.{scalar_cells}
use Rattle.ctl_gen.proofs.Worlds.{Since}
use Rattle.ctl_gen.proofs.Setting.{Setting, Calls, Told, returned_to, tools_with}
use Rattle.ctl_gen.proofs.Cells.{Any, OneCell, OneRecord, by_code, landed, landed_leaves, landed_record}
use Rattle.ctl_gen.proofs.Place.{Laid, laid_front, laid_back}
use Rattle.ctl_gen.proofs.Parts.{first_is}
use Rattle.ctl_gen.proofs.Begun.{Starts}
use Rattle.ctl_gen.proofs.Actuals as A
use Rattle.ctl_gen.proofs.Calls.{Calling, called_runs, nothing_back, point_at}
use Rattle.ctl_gen.proofs.Expressions.{Value, moved_by}
use Rattle.ctl_gen.proofs.Follow.{Runs, RunsTo, at, both_to, by_raise, no_step_to, transferred, way_of}

module _ (ask : Ask) (k : Tables) (code : Code) (setting : Setting k code) (call : Call) (default : Default) (bound : ℕ) (calls : Calls ask k code setting bound call) (w0 : World) where
  abbrev K : Tools
  K = tools_with ask k call default

  -- the value of an execution has as many cells as its type, whatever the body gives: one, where that is scalar
  abbrev value_of : Ty → Returned → Act (List ℕ)
  value_of ty r = read_found (cells_of k ty) (Alone r.cells)

  one_value : (ty : Ty) → IsScalar ty → (r : Returned) (c : ℕ) (l : Log) (w : World) → value_of ty r c l w ≡ Gives (Goes (scalar_of r.cells ∷ [])) 0 c l w
  unfolding read_found opened_outcome
  one_value ty scalar r c l w = ap (λ n. Gives (Goes (first_cells n r.cells)) 0 c l w) (scalar_cells k ty scalar) ∙ ap (λ v. Gives (Goes v) 0 c l w) (first_is r.cells)

  -- a new operand, and then where it is wanted
  value_runs : (ty : Ty) → IsScalar ty → (to : Cell) (t : Ty) (s : List Kind) (d : List ℕ) (place : ℕ) (ks : List Frame) (ops : List Word) → Laid code place (moved_to to t s) → (r : Result Returned) (c : ℕ) (l : Log) (w : World) → Told k code w0 (way_of r) w → RunsTo ask code (OneCell (Since k code w0) Any) 1 1 (returned_to (AfterFunction None (point_at d place ops)) ks r l w) c (landed to.named d (place + length (moved_to to t s)) ks ops) (on_goes (value_of ty) r c l w)
  unfolding opened_outcome
  value_runs ty scalar to t s d place ks ops has (Goes r) c l w told =
      subst (RunsTo ask code (OneCell (Since k code w0) Any) 1 1 _ c (landed to.named d (place + length (moved_to to t s)) ks ops)) (sym (one_value ty scalar r c l w))
      (moved_by ask k code bound w0 to.at to.named t s (scalar_of r.cells) d place ks ops c l w told.1 has)
  value_runs ty scalar to t s d place ks ops has (Leaves y) c l w told =
      by_raise (λ v. RunsTo ask code (OneCell (Since k code w0) Any) 1 1 (transferred v ks l w) c (landed to.named d (place + length (moved_to to t s)) ks ops) (Gives (Leaves v) 0 c l w))
      (λ e. no_step_to ask code (OneCell (Since k code w0) Any) 1 1 _ c 0 (landed to.named d (place + length (moved_to to t s)) ks ops) (Leaves (ByRaise e)) l w (told.1, tt) (landed_leaves to.named d (place + length (moved_to to t s)) ks ops (ByRaise e) l w)) y told.0

  -- its first tick pays what its actuals do not
  pub function_value : (f : ℕ) (xs : List ActualCode) (ms : List Supplied) (ty : Ty) → IsScalar ty → goes_back xs ≡ false → A.EachPasses ask k code setting call default bound w0 xs ms → Value ask k code bound w0 (function_call f xs ty) (λ d. ticked (pass_each K d ms no_actuals >>= call_with K d f >>= value_of ty))
  unfolding opened_outcome
  function_value f xs ms ty scalar none each = record {
    begins = λ to t s d place ks ops c l w le fits long has.
        let i = InstrOf.Evaluate f (length xs) t (height s) in
        let calling : Calling ask k code setting call default bound calls Function (AfterFunction None) i f (length xs) = record { ends = λ p. tt; enters = λ d1 place1 ks1 ops1 l1 w1 here1. by_code ask code d1 place1 ks1 ops1 l1 w1 i here1 } in
        let js = evaluates_code f xs t s in
        let front = laid_front code place js (moved_to to t s) has in
        let last = laid_back code place (actuals_code 0 xs s) ((i, with_actuals xs s) ∷ []) front in
        let out = bind (bind (pass_each K d ms no_actuals c l w) (on_goes (call_with K d f))) (on_goes (value_of ty)) in
        let end : place + length js + length (moved_to to t s) ≡ place + length (js ++ moved_to to t s) = omega (arith, length-append js (moved_to to t s)) in
        let fine = setting.valid.each (place + length (actuals_code 0 xs s)) i (with_actuals xs s) last.0 last.1 in
        record {
          out = out;
          is = refl;
          runs = subst (λ n. RunsTo ask code (OneCell (Since k code w0) Any) 8 8 (at d place ks ops l w) c (landed to.named d n ks ops) out) end
              (both_to ask code (λ r. Told k code w0 (way_of r)) (OneCell (Since k code w0) Any) 4 4 1 1 8 8 _ c (returned_to (AfterFunction None (point_at d (place + length js) ops)) ks) (landed to.named d (place + length js + length (moved_to to t s)) ks ops) (bind (pass_each K d ms no_actuals c l w) (on_goes (call_with K d f))) (on_goes (value_of ty)) (omega arith) (omega arith) (omega arith)
              (subst (λ n. Runs ask code (Told k code w0) 4 4 (at d place ks (with_values n [] ops) l w) c (returned_to (AfterFunction None (point_at d (place + length js) ops)) ks) (bind (pass_each K d ms no_actuals c l w) (on_goes (call_with K d f)))) (none_kept xs none)
              (called_runs ask k code setting call default bound calls Function (AfterFunction None) i f xs ms calling 0 (omega arith) w0 each s d place ks ops (returned_to (AfterFunction None (point_at d (place + length js) ops)) ks) c l w le fits long fine.1 front
              (nothing_back ask k code setting call default bound calls w0 xs d c (λ os. AfterFunction None (point_at d (place + length js) os)) ks ops (returned_to (AfterFunction None (point_at d (place + length js) ops)) ks) none (λ r l1 w1 told. refl))
              (λ e l1 w1. refl)))
              (λ r c1 l1 w1 lo told. value_runs ty scalar to t s d (place + length js) ks ops (laid_back code place js (moved_to to t s) has) r c1 l1 w1 told));
        };
    constant = λ n is d c l w. absurd (cc);
    variable = λ y is d c l w. absurd (cc);
  }

  -- That of a record --------------------------------------------------------------------------------

  -- so many cells of so many are all of them
  first_twice : (n : ℕ) (v : List ℕ) → first_cells n (first_cells n v) ≡ first_cells n v
  unfolding first_cells
  first_twice zero v = refl
  first_twice (suc n) [] = ap (λ u. 0 ∷ u) (first_twice n [])
  first_twice (suc n) (x ∷ v) = ap (λ u. x ∷ u) (first_twice n v)

  -- a new operand
  record_lands : (t : ℕ) → size_of code t ≡ cells_of k (Record t) → (d : List ℕ) (place : ℕ) (ks : List Frame) (ops : List Word) (r : Result Returned) (c : ℕ) (l : Log) (w : World) → Told k code w0 (way_of r) w → RunsTo ask code (OneRecord (Since k code w0) (size_of code t)) 1 1 (returned_to (AfterFunction (Some (size_of code t)) (point_at d place ops)) ks r l w) c (landed_record d place ks ops) (on_goes (value_of (Record t)) r c l w)
  unfolding read_found opened_outcome
  record_lands t size d place ks ops (Goes r) c l w told =
      let n = size_of code t in
      let v = first_cells n r.cells in
      let Ends = OneRecord (Since k code w0) n in
      subst (λ m. RunsTo ask code Ends 1 1 (at d place ks (Cells v ∷ ops) l w) c (landed_record d place ks ops) (Gives (Goes (first_cells m r.cells)) 0 c l w)) size
      (no_step_to ask code Ends 1 1 (at d place ks (Cells v ∷ ops) l w) c 0 (landed_record d place ks ops) (Goes v) l w (told.1, first_twice n r.cells) refl)
  record_lands t size d place ks ops (Leaves y) c l w told =
      let Ends = OneRecord (Since k code w0) (size_of code t) in
      by_raise (λ v. RunsTo ask code Ends 1 1 (transferred v ks l w) c (landed_record d place ks ops) (Gives (Leaves v) 0 c l w))
      (λ e. no_step_to ask code Ends 1 1 (transferred (ByRaise e) ks l w) c 0 (landed_record d place ks ops) (Leaves (ByRaise e)) l w (told.1, tt) refl) y told.0

  -- its first tick pays what its actuals do not
  pub function_record : (f : ℕ) (xs : List ActualCode) (ms : List Supplied) (t : ℕ) (runs : List RecordType → Bool) → size_of code t ≡ cells_of k (Record t) → goes_back xs ≡ false → A.EachPasses ask k code setting call default bound w0 xs ms → Starts ask k code bound w0 (OfRecord t runs (record_call_code f xs t)) (λ d. ticked (pass_each K d ms no_actuals >>= call_with K d f >>= value_of (Record t)))
  unfolding opened_outcome
  function_record f xs ms t runs size none each s d place ks ops c l w le fits long has =
      let n = size_of code t in
      let i = InstrOf.EvaluateRecord f (length xs) t (height s) in
      let calling : Calling ask k code setting call default bound calls Function (AfterFunction (Some n)) i f (length xs) = record { ends = λ p. tt; enters = λ d1 place1 ks1 ops1 l1 w1 here1. by_code ask code d1 place1 ks1 ops1 l1 w1 i here1 } in
      let q = place + length (record_call_code f xs t s) in
      let last = laid_back code place (actuals_code 0 xs s) ((i, with_actuals xs s) ∷ []) has in
      let fine = setting.valid.each (place + length (actuals_code 0 xs s)) i (with_actuals xs s) last.0 last.1 in
      let mid : Result Returned → Log → World → State = returned_to (AfterFunction (Some n) (point_at d q ops)) ks in
      let calls_it = bind (pass_each K d ms no_actuals c l w) (on_goes (call_with K d f)) in
      record {
        out = bind calls_it (on_goes (value_of (Record t)));
        is = refl;
        runs = both_to ask code (λ r. Told k code w0 (way_of r)) (OneRecord (Since k code w0) n) 4 4 1 1 8 8 (at d place ks ops l w) c mid (landed_record d q ks ops) calls_it (on_goes (value_of (Record t))) (omega arith) (omega arith) (omega arith)
            (subst (λ m. Runs ask code (Told k code w0) 4 4 (at d place ks (with_values m [] ops) l w) c mid calls_it) (none_kept xs none)
            (called_runs ask k code setting call default bound calls Function (AfterFunction (Some n)) i f xs ms calling 0 (omega arith) w0 each s d place ks ops mid c l w le fits long fine.0 has
            (nothing_back ask k code setting call default bound calls w0 xs d c (λ os. AfterFunction (Some n) (point_at d q os)) ks ops mid none (λ r l1 w1 told. refl))
            (λ e l1 w1. refl)))
            (λ r c1 l1 w1 lo told. record_lands t size d q ks ops r c1 l1 w1 told);
      }
