-- The whole program: what is shown is the beginning of what it means, and everything comes in time.
use Rattle.std.proofs.Common.{◌≡◌, ◌≢◌, ℕ, zero, suc, ◌+◌, ◌*◌, ◌≤◌, List, [], ◌∷◌, ◌++◌, length, map, Option, Some, None, true, refl, sym, ap, ◌∙◌, subst, arith, ◌⊎◌, inl, inr, length-append, append-nil}
use Rattle.std.specs.Prelude.{slice_get}
use Rattle.ctl_program.specs.declared.types.RecordType.{RecordType}
use Rattle.ctl_program.specs.declared.operators.SubprogramKind.TheVariants.{Procedure}
use Rattle.ctl_program.specs.declared.program.Subprogram.{Subprogram}
use Rattle.ctl_program.specs.declared.program.Checked.{Checked}
use Rattle.ctl_tree.specs.declared.event.Cause.TheVariants.{Collection}
use Rattle.ctl_tree.specs.declared.ending.End.{End}
use Rattle.ctl_tree.specs.declared.ending.End as EndOf
use Rattle.ctl_meaning.specs.World.{Pick, Log, empty_log}
use Rattle.ctl_meaning.specs.Choice.{Ask, Obeys, replayed}
use Rattle.ctl_meaning.specs.Outcome.{Goes, Leaves, Out, Gives, Stops, Cut}
use Rattle.ctl_meaning.specs.Types.{tables_of, operation, operation_in}
use Rattle.ctl_meaning.specs.Names.{Returned}
use Rattle.ctl_meaning.specs.Run.{Outcome, default_in, end_by, execution, expression_tools, meaning_of, outcome, outcome_of, routine_of, run}
use Rattle.ctl_meaning.proofs.Cuts.{begun_bounded}
use Rattle.ctl_code.specs.declared.code.Instr.TheVariants as InstrOf
use Rattle.ctl_code.specs.declared.template.TextPart.{TextPart}
use Rattle.ctl_code.specs.declared.code.Entry.{Entry}
use Rattle.ctl_code.specs.declared.code.Code.{Code}
use Rattle.ctl_code.specs.States.{Mode, At, Transfers, Giving, Stopped, Stuck, Frame, State}
use Rattle.ctl_code.specs.Valid.{IsFine, IsValid, kinds_at}
use Rattle.ctl_code.specs.Table as Table
use Rattle.ctl_code.specs.Steps.{step, steps, start, machine, end_at, end_of}
use Rattle.ctl_code.specs.Laws.{IsPrefix, Grows}
use Rattle.ctl_code.proofs.Logs.{obeys_none, obeys_itself, no_more_than, Stays, steps_obey, grow, stay, meet, ended_stays, agree}
use Rattle.ctl_layout.specs.Around.{Line}
use Rattle.ctl_layout.specs.Layout.{HasKinds, IsLaidOut, all_defaults, behind_bodies, bodies, body_code, entries_from, entry_at, instructions_of, kinds_of, nowhere, outside, operations_of, program_code}
use Rattle.ctl_gen.proofs.Defaults.{agrees}
use Rattle.ctl_gen.proofs.FirstComponent.{first_offset}
use Rattle.ctl_gen.proofs.Layouts.{places, sizes, units}
use Rattle.ctl_gen.proofs.Rows.{gives_defaults}
use Rattle.ctl_layout.specs.Records.{adjust_by}
use Rattle.ctl_layout.specs.Run.{AreLinked, IsBody, IsRun, IsWritten, are_defaults_run}
use Rattle.ctl_gen.proofs.DefaultsAlike.{alike, values}
use Rattle.ctl_gen.proofs.DefaultsLaid.{has_default}
use Rattle.ctl_gen.proofs.Given.{GivesEach}
use Rattle.ctl_gen.proofs.Known.{both_true}
use Rattle.ctl_gen.proofs.Parted.{GivesDefaults}
use Rattle.ctl_gen.specs.Correct.{HasReached, RunsAs, Behaves}
use Rattle.ctl_gen.proofs.Place.{HasAt, has_front, has_back, has_all, Laid, laid_front, laid_back}
use Rattle.ctl_gen.proofs.Scopes.{IsCallable}
use Rattle.ctl_gen.proofs.Setting.{Setting, Told, told, returns}
use Rattle.ctl_gen.proofs.Gathers.{home_in}
use Rattle.ctl_gen.proofs.Bodies.{Stands, main_runs}
use Rattle.ctl_gen.proofs.Follow.{by_raise, GoingBy, Runs, gives}
use Rattle.ctl_meaning.specs.World.{empty_world}
use Rattle.ctl_meaning.specs.Outcome.{ByRaise}

-- Where everything stands ----------------------------------------------------------------------

-- a body among those that stand from a place on
record Found (code : Code) (texts : List (List TextPart)) (entry : Option Entry) (f : ℕ) (s : Subprogram) : Type 0 where
  place : ℕ
  before : ℕ
  is : entry ≡ Some (entry_at place s)
  instructions : Laid code place ((body_code f s).code nowhere before)
  printed : HasAt texts before (body_code f s).texts

find : (code : Code) (texts : List (List TextPart)) (ss : List Subprogram) (first place n : ℕ) → Laid code place ((bodies first ss).code nowhere n) → HasAt texts n (bodies first ss).texts → (i : ℕ) (s : Subprogram) → slice_get ss i ≡ Some s → Found code texts (slice_get (entries_from first place n ss) i) (first + i) s
find code texts [] first place n has prints i s e = absurd (cc)
find code texts (x ∷ ss) first place n has prints zero s e =
    let same : x ≡ s = cc e in
    let body = body_code first x in
    let here : first ≡ first + 0 = omega arith in
    subst (λ f. Found code texts (slice_get (entries_from first place n (x ∷ ss)) 0) f s) here
    (subst (λ (y : Subprogram). Found code texts (slice_get (entries_from first place n (x ∷ ss)) 0) first y) same
    (record { place = place; before = n; is = refl; instructions = laid_front code place (body.code nowhere n) ((bodies (first + 1) ss).code nowhere (n + length body.texts)) has; printed = has_front texts n body.texts (bodies (first + 1) ss).texts prints }))
find code texts (x ∷ ss) first place n has prints (suc i) s e =
    let body = body_code first x in
    let y = find code texts ss (first + 1) (place + length (body.code nowhere n)) (n + length body.texts) (laid_back code place (body.code nowhere n) ((bodies (first + 1) ss).code nowhere (n + length body.texts)) has) (has_back texts n body.texts (bodies (first + 1) ss).texts prints) i s e in
    let next : first + 1 + i ≡ first + suc i = omega arith in
    subst (λ f. Found code texts (slice_get (entries_from first place n (x ∷ ss)) (suc i)) f s) next y

-- lines whose instructions and kinds stand in the code
laid_by : (code : Code) (place : ℕ) (lines : List Line) → HasAt code.instructions.items place (instructions_of lines) → HasAt code.kinds place (kinds_of lines) → Laid code place lines
laid_by code place [] h g = tt
laid_by code place (x ∷ xs) h g = (h.0, g.0, laid_by code (place + 1) xs h.1 g.1)

-- each of them is run
pub body_is_run : (records : List RecordType) (ss : List Subprogram) (first : ℕ) → (bodies first ss).runs (outside records) ≡ true → (i n : ℕ) (s : Subprogram) → slice_get ss i ≡ Some s → (body_code n s).runs (outside records) ≡ true
body_is_run records [] first runs i n s e = absurd (cc)
body_is_run records (x ∷ ss) first runs zero n s e = let same : x ≡ s = cc e in subst (λ (y : Subprogram). (body_code n y).runs (outside records) ≡ true) same (both_true _ _ runs).0
body_is_run records (x ∷ ss) first runs (suc i) n s e = body_is_run records ss (first + 1) (both_true _ _ runs).1 i n s e

-- what each of them means
routine_at : (ss : List Subprogram) (f : ℕ) (s : Subprogram) → slice_get ss f ≡ Some s → slice_get (map routine_of ss) f ≡ Some (routine_of s)
routine_at [] f s e = absurd (cc)
routine_at (x ∷ ss) zero s e = let same : x ≡ s = cc e in ap (λ (y : Subprogram). Some (routine_of y)) same
routine_at (x ∷ ss) (suc f) s e = routine_at ss f s e

-- one that has an entry is among them
entry_body : (first place n : ℕ) (ss : List Subprogram) (f : ℕ) (e : Entry) → slice_get (entries_from first place n ss) f ≡ Some e → IsBody ss f
entry_body first place n [] f e h = absurd (cc)
entry_body first place n (s ∷ ss) zero e h = (s, refl)
entry_body first place n (s ∷ ss) (suc f) e h = entry_body (first + 1) (place + length ((body_code first s).code nowhere n)) (n + length (body_code first s).texts) ss f e h

-- an operation that the user wrote is among them
initialize_written : (subprograms : List Subprogram) (o : Option RecordType) → ((r : RecordType) → o ≡ Some r → IsWritten subprograms r.operations.initialize) → (f : ℕ) → operation_in (λ x. x.initialize) o ≡ Some f → IsBody subprograms f
unfolding operation_in
initialize_written subprograms None h f e = absurd (cc)
initialize_written subprograms (Some r) h f e = subst (IsWritten subprograms) e (h r refl)

adjust_written : (subprograms : List Subprogram) (o : Option RecordType) → ((r : RecordType) → o ≡ Some r → IsWritten subprograms r.operations.adjust) → (f : ℕ) → operation_in (λ x. x.adjust) o ≡ Some f → IsBody subprograms f
unfolding operation_in
adjust_written subprograms None h f e = absurd (cc)
adjust_written subprograms (Some r) h f e = subst (IsWritten subprograms) e (h r refl)

finalize_written : (subprograms : List Subprogram) (o : Option RecordType) → ((r : RecordType) → o ≡ Some r → IsWritten subprograms r.operations.finalize) → (f : ℕ) → operation_in (λ x. x.finalize) o ≡ Some f → IsBody subprograms f
unfolding operation_in
finalize_written subprograms None h f e = absurd (cc)
finalize_written subprograms (Some r) h f e = subst (IsWritten subprograms) e (h r refl)

allocate_written : (subprograms : List Subprogram) (o : Option RecordType) → ((r : RecordType) → o ≡ Some r → IsWritten subprograms r.operations.allocate) → (f : ℕ) → operation_in (λ x. x.allocate) o ≡ Some f → IsBody subprograms f
unfolding operation_in
allocate_written subprograms None h f e = absurd (cc)
allocate_written subprograms (Some r) h f e = subst (IsWritten subprograms) e (h r refl)

deallocate_written : (subprograms : List Subprogram) (o : Option RecordType) → ((r : RecordType) → o ≡ Some r → IsWritten subprograms r.operations.deallocate) → (f : ℕ) → operation_in (λ x. x.deallocate) o ≡ Some f → IsBody subprograms f
unfolding operation_in
deallocate_written subprograms None h f e = absurd (cc)
deallocate_written subprograms (Some r) h f e = subst (IsWritten subprograms) e (h r refl)

initialize_in : (rs : List RecordType) (t : ℕ) → Table.operation_in (λ x. x.initialize) (slice_get (operations_of rs) t) ≡ operation_in (λ x. x.initialize) (slice_get rs t)
unfolding operation_in
initialize_in [] t = refl
initialize_in (r ∷ rs) zero = refl
initialize_in (r ∷ rs) (suc t) = initialize_in rs t

adjust_in : (rs : List RecordType) (t : ℕ) (r : RecordType) → slice_get rs t ≡ Some r → Table.operation_in (λ x. x.adjust) (slice_get (operations_of rs) t) ≡ adjust_by r.root r.operations.adjust
adjust_in [] t r e = absurd (cc)
adjust_in (x ∷ rs) zero r e = let same : x ≡ r = cc e in ap (λ (y : RecordType). adjust_by y.root y.operations.adjust) same
adjust_in (x ∷ rs) (suc t) r e = adjust_in rs t r e

finalize_in : (rs : List RecordType) (t : ℕ) → Table.operation_in (λ x. x.finalize) (slice_get (operations_of rs) t) ≡ operation_in (λ x. x.finalize) (slice_get rs t)
unfolding operation_in
finalize_in [] t = refl
finalize_in (r ∷ rs) zero = refl
finalize_in (r ∷ rs) (suc t) = finalize_in rs t

allocate_in : (rs : List RecordType) (t : ℕ) → Table.operation_in (λ x. x.allocate) (slice_get (operations_of rs) t) ≡ operation_in (λ x. x.allocate) (slice_get rs t)
unfolding operation_in
allocate_in [] t = refl
allocate_in (r ∷ rs) zero = refl
allocate_in (r ∷ rs) (suc t) = allocate_in rs t

deallocate_in : (rs : List RecordType) (t : ℕ) → Table.operation_in (λ x. x.deallocate) (slice_get (operations_of rs) t) ≡ operation_in (λ x. x.deallocate) (slice_get rs t)
unfolding operation_in
deallocate_in [] t = refl
deallocate_in (r ∷ rs) zero = refl
deallocate_in (r ∷ rs) (suc t) = deallocate_in rs t

-- Ends ------------------------------------------------------------------------------------------

no_rest : (a b rest : List Pick) → a ≡ b ++ rest → length a ≤ length b → a ≡ b
no_rest a b [] e le = e ∙ append-nil b
no_rest a b (p ∷ rest) e le = absurd (let n = ap length e in let m = length-append b (p ∷ rest) in omega (arith, n, m, le))

same_prefix : (a b : List _) → a ≡ b → IsPrefix a b
same_prefix a b e = ([], sym e ∙ sym (append-nil a))

not_ended : (names : List (List ℕ)) (m : Mode) (k : List Frame) → GoingBy m k → end_at names m k ≡ None
not_ended names (At d place) k h = refl
not_ended names (Transfers y) k h = refl
not_ended names (Giving r) [] h = absurd h
not_ended names (Giving r) (f ∷ k) h = refl
not_ended names (Stopped s) k h = absurd h
not_ended names Stuck k h = absurd h

not_stuck : (m : Mode) (k : List Frame) → GoingBy m k → m ≢ Stuck
not_stuck (At d place) k h e = cc
not_stuck (Transfers y) k h e = cc
not_stuck (Giving r) k h e = cc
not_stuck (Stopped s) k h e = cc
not_stuck Stuck k h e = absurd h

stopped_end : (names : List (List ℕ)) (m : Mode) (k : List Frame) (s : _) → m ≡ Stopped s → end_at names m k ≡ Some (EndOf.TheVariants.Stopped s)
stopped_end names (At d place) k s e = absurd (cc)
stopped_end names (Transfers y) k s e = absurd (cc)
stopped_end names (Giving r) k s e = absurd (cc)
stopped_end names (Stopped s1) k s e = let same : s1 ≡ s = cc e in ap (λ x. Some (EndOf.TheVariants.Stopped x)) same
stopped_end names Stuck k s e = absurd (cc)

-- where a run has come to at some moment, after which nothing happens, or not before its clock is used up
record Moment (code : Code) (ask : Ask) (clock ticks : ℕ) (o : Outcome) : Type 0 where
  n : ℕ
  in_time : n ≤ 64 * ticks
  trace : o.trace ≡ (steps ask code n start).log.trace
  taken : o.picks ≡ (steps ask code n start).log.taken
  end : end_of code (steps ask code n start) ≡ o.end
  fine : (steps ask code n start).mode ≢ Stuck
  why : (clock ≤ n) ⊎ (step ask code (steps ask code n start) ≡ steps ask code n start)

module _ (program : Checked) (code : Code) (laid : IsLaidOut program code) (kinds : HasKinds program code) (valid : IsValid code) (run_it : IsRun program) (linked : AreLinked program) where
  has_whole : Laid code 0 (program_code program)
  has_whole =
      laid_by code 0 (program_code program)
      (subst (λ is. HasAt is 0 (instructions_of (program_code program))) (sym laid.instructions) (has_all (instructions_of (program_code program)) []))
      (subst (λ ks. HasAt ks 0 (kinds_of (program_code program))) (sym kinds.kinds) (has_all (kinds_of (program_code program)) []))

  has_texts : HasAt code.texts.items 0 (bodies 0 program.subprograms).texts
  has_texts = subst (λ ts. HasAt ts 0 (bodies 0 program.subprograms).texts) (sym laid.texts) (has_all (bodies 0 program.subprograms).texts [])

  -- the lines of the defaults stand behind those of the bodies
  defaults_stand : Laid code (behind_bodies program) (all_defaults 0 program.records)
  defaults_stand = laid_back code 1 ((bodies 0 program.subprograms).code nowhere 0) (all_defaults 0 program.records) has_whole.2

  defaults_run : are_defaults_run program.records program.records ≡ true
  defaults_run = (both_true ((bodies 0 program.subprograms).runs (outside program.records)) (are_defaults_run program.records program.records) run_it).1

  setting : Setting (tables_of program) code
  unfolding tables_of operation
  setting = record {
    subprograms = program.subprograms;
    valid = valid;
    accesses = λ a. ap (λ xs. slice_get xs a) laid.accesses ∙ home_in program.accesses a;
    places = record { each = places (tables_of program) code.layouts.items laid.layouts; first = first_offset code.layouts.items program.records laid.layouts };
    sizes = sizes (tables_of program) code.layouts.items laid.layouts;
    units = units (tables_of program) code.layouts.items laid.layouts;
    agrees = agrees (tables_of program) code laid.layouts;
    defaults = λ t position ty x. has_default program code valid laid defaults_stand t position ty x;
    initialize = λ t. ap (λ xs. Table.operation_in (λ x. x.initialize) (slice_get xs t)) laid.records ∙ initialize_in program.records t;
    adjust = λ t r e. ap (λ xs. Table.operation_in (λ x. x.adjust) (slice_get xs t)) laid.records ∙ adjust_in program.records t r e;
    finalize = λ t. ap (λ xs. Table.operation_in (λ x. x.finalize) (slice_get xs t)) laid.records ∙ finalize_in program.records t;
    allocate = λ t. ap (λ xs. Table.operation_in (λ x. x.allocate) (slice_get xs t)) laid.records ∙ allocate_in program.records t;
    deallocate = λ t. ap (λ xs. Table.operation_in (λ x. x.deallocate) (slice_get xs t)) laid.records ∙ deallocate_in program.records t;
    body = λ f e h. entry_body 0 1 0 program.subprograms f e (sym (ap (λ es. slice_get es f) laid.entries) ∙ h);
    initialize_body = λ t f e. initialize_written program.subprograms (slice_get program.records t) (linked.initialize t) f e;
    adjust_body = λ t f e. adjust_written program.subprograms (slice_get program.records t) (linked.adjust t) f e;
    finalize_body = λ t f e. finalize_written program.subprograms (slice_get program.records t) (linked.finalize t) f e;
    allocate_body = λ t f e. allocate_written program.subprograms (slice_get program.records t) (linked.allocate t) f e;
    deallocate_body = λ t f e. deallocate_written program.subprograms (slice_get program.records t) (linked.deallocate t) f e;
  }

  constants : (ask : Ask) (n : ℕ) → GivesDefaults (tables_of program) (default_in (meaning_of program).defaults (expression_tools ask (meaning_of program) (execution ask (meaning_of program) n)))
  unfolding meaning_of tables_of
  constants ask n = gives_defaults ask (meaning_of program) (execution ask (meaning_of program) n) refl

  -- constants need no code; that of each other default is run, and means the same wherever its type is seen
  defaults : (ask : Ask) (n : ℕ) → GivesEach ask (tables_of program) code setting (execution ask (meaning_of program) n) (default_in (meaning_of program).defaults (expression_tools ask (meaning_of program) (execution ask (meaning_of program) n)))
  defaults ask n = record {
    constants = constants ask n;
    values = λ bound calls t position ty x w0. values program ask code valid laid defaults_stand defaults_run n setting bound calls t position ty x w0;
    alike = λ t position ty x masters d inside c l w. alike program ask code valid laid defaults_stand defaults_run n t position ty x masters d inside c l w;
  }

  stands : (f : ℕ) (s : Subprogram) → slice_get program.subprograms f ≡ Some s → Stands (tables_of program) code f s
  unfolding tables_of
  stands f s here =
      let own : 0 + f ≡ f = omega arith in
      let x = subst (λ n. Found code code.texts.items (slice_get (entries_from 0 1 0 program.subprograms) f) n s) own (find code code.texts.items program.subprograms 0 1 0 (laid_front code 1 ((bodies 0 program.subprograms).code nowhere 0) (all_defaults 0 program.records) has_whole.2) has_texts f s here) in
      record { place = x.place; before = x.before; entry = ap (λ es. slice_get es f) laid.entries ∙ x.is; instructions = x.instructions; texts = x.printed; runs = body_is_run program.records program.subprograms 0 (both_true ((bodies 0 program.subprograms).runs (outside program.records)) (are_defaults_run program.records program.records) run_it).0 f f s here }

  -- the main procedure can be called where no master is around
  start_callable : slice_get code.instructions.items 0 ≡ Some (InstrOf.Start program.main) → kinds_at code 0 ≡ Some [] → IsCallable code Procedure 0 program.main 0
  start_callable has standing = let fine : IsFine code 0 (InstrOf.Start program.main) [] = valid.each 0 (InstrOf.Start program.main) [] has standing in (fine.1, fine.2)

  whole_runs : (ask : Ask) (clock : ℕ) → Runs ask code (Told (tables_of program) code empty_world) 0 2 start clock (returns []) (run program ask clock)
  unfolding run meaning_of setting
  whole_runs ask clock = main_runs ask (meaning_of program) code setting stands (routine_at program.subprograms) (defaults ask) (λ n bound less default m. begun_bounded program ask n bound less default Collection m) program.main linked.main.0 linked.main.1 (start_callable has_whole.0 has_whole.1) has_whole.0 clock

  moment_of : (ask : Ask) (clock : ℕ) (o : Out Returned) → Runs ask code (Told (tables_of program) code empty_world) 0 2 start clock (returns []) o → Moment code ask clock (outcome_of program.exceptions o).ticks (outcome_of program.exceptions o)
  unfolding outcome_of
  moment_of ask clock (Gives (Goes a) t c l w) z = record {
    n = z.n;
    in_time = omega (arith, z.in_time);
    trace = sym (ap (λ (x : State). x.log.trace) z.comes);
    taken = sym (ap (λ (x : State). x.log.taken) z.comes);
    end = ap (end_of code) z.comes;
    fine = λ h. let bad : Giving (told (Goes a)) ≡ Stuck = sym (ap (λ (x : State). x.mode) z.comes) ∙ h in cc;
    why = inr (subst (Stays ask code) (sym z.comes) (ended_stays ask code (gives [] (told (Goes a)) l w) (inl (λ h. cc))));
  }
  moment_of ask clock (Gives (Leaves y) t c l w) z = by_raise (λ v. Runs ask code (Told (tables_of program) code empty_world) 0 2 start clock (returns {A = Returned} []) (Gives (Leaves v) t c l w) → Moment code ask clock (outcome_of program.exceptions (Gives (Leaves v) t c l w)).ticks (outcome_of program.exceptions (Gives (Leaves v) t c l w))) raised y z.fits.0 z
    where
      raised : (e : ℕ) → Runs ask code (Told (tables_of program) code empty_world) 0 2 start clock (returns {A = Returned} []) (Gives (Leaves (ByRaise e)) t c l w) → Moment code ask clock (outcome_of program.exceptions (Gives (Leaves (ByRaise e)) t c l w)).ticks (outcome_of program.exceptions (Gives (Leaves (ByRaise e)) t c l w))
      raised e z1 = record {
        n = z1.n;
        in_time = omega (arith, z1.in_time);
        trace = sym (ap (λ (x : State). x.log.trace) z1.comes);
        taken = sym (ap (λ (x : State). x.log.taken) z1.comes);
        end = ap (end_of code) z1.comes ∙ ap (λ names. Some (end_by names (ByRaise e))) laid.exceptions;
        fine = λ h. let bad : Giving (told {A = Returned} (Leaves (ByRaise e))) ≡ Stuck = sym (ap (λ (x : State). x.mode) z1.comes) ∙ h in cc;
        why = inr (subst (Stays ask code) (sym z1.comes) (ended_stays ask code (gives [] (told {A = Returned} (Leaves (ByRaise e))) l w) (inl (λ h. cc))));
      }
  moment_of ask clock (Stops s t l) z =
      let x = steps ask code z.n start in
      let over : end_of code x ≡ Some (EndOf.TheVariants.Stopped s) = stopped_end code.exceptions.items x.mode x.control s z.over in
      record {
        n = z.n;
        in_time = omega (arith, z.in_time);
        trace = sym (ap (λ (y : Log). y.trace) z.logged);
        taken = sym (ap (λ (y : Log). y.taken) z.logged);
        end = over;
        fine = λ h. let bad : Stopped s ≡ Stuck = sym z.over ∙ h in cc;
        why = inr (ended_stays ask code x (inl (λ h. let bad : None ≡ Some (EndOf.TheVariants.Stopped s) = sym h ∙ over in cc)));
      }
  moment_of ask clock (Cut t c l) z =
      let x = steps ask code z.n start in
      record {
        n = z.n;
        in_time = omega (arith, z.in_time);
        trace = sym (ap (λ (y : Log). y.trace) z.logged);
        taken = sym (ap (λ (y : Log). y.taken) z.logged);
        end = not_ended code.exceptions.items x.mode x.control z.going;
        fine = not_stuck x.mode x.control z.going;
        why = z.why;
      }

  moment : (ask : Ask) (clock : ℕ) → Moment code ask clock (outcome program ask clock).ticks (outcome program ask clock)
  unfolding outcome
  moment ask clock = moment_of ask clock (run program ask clock) (whole_runs ask clock)

  -- the machine that took these picks, and the moment to which the meaning comes with them
  module _ (ask : Ask) (n : ℕ) where
    s : State
    s = machine ask code n

    picks : List Pick
    picks = (machine ask code n).log.taken

    obeys : Obeys ask (machine ask code n).log.taken
    unfolding empty_log
    obeys = steps_obey ask code n start (obeys_none ask)

    same : (i : ℕ) × (i ≤ n) × (steps (replayed (machine ask code n).log.taken) code i start ≡ machine ask code n)
    same = agree ask (replayed (machine ask code n).log.taken) code n start (obeys_itself ask (machine ask code n).log.taken obeys)

    record Shown (o : Outcome) : Type 0 where
      so_far : IsPrefix (machine ask code n).log.trace o.trace
      whole : (e : End) → end_of code (machine ask code n) ≡ Some e → (o.end ≡ Some e) × (o.trace ≡ (machine ask code n).log.trace)
      no_pick_left : o.picks ≡ (machine ask code n).log.taken
      not_stuck : (machine ask code n).mode ≢ Stuck

    shown_by : (o : Outcome) (ticks : ℕ) → Moment code (replayed (machine ask code n).log.taken) n ticks o → Shown o
    unfolding empty_log
    shown_by o ticks z = by (meet own code same.0 z.n start (when z.why))
      where
        own : Ask
        own = replayed (machine ask code n).log.taken

        x : State
        x = steps (replayed (machine ask code n).log.taken) code z.n start

        when : (n ≤ z.n) ⊎ (step own code (steps own code z.n start) ≡ steps own code z.n start) → (same.0 ≤ z.n) ⊎ Stays own code (steps own code z.n start)
        when (inl h) = inl (omega (arith, h, same.1))
        when (inr h) = inr h

        finish : Grows (machine ask code n).log x.log × (Stays own code (machine ask code n) → x ≡ machine ask code n) → Shown o
        finish m = record {
          so_far = (m.0.trace.0, z.trace ∙ m.0.trace.1);
          whole = λ e h. let t : x ≡ machine ask code n = m.1 (ended_stays own code (machine ask code n) (inl (λ none. let bad : None ≡ Some e = sym none ∙ h in cc))) in (sym z.end ∙ ap (end_of code) t ∙ h, z.trace ∙ ap (λ (y : State). y.log.trace) t);
          no_pick_left = z.taken ∙ no_rest x.log.taken (machine ask code n).log.taken m.0.taken.0 m.0.taken.1 (no_more_than (machine ask code n).log.taken x.log.taken (steps_obey own code z.n start (obeys_none own)));
          not_stuck = λ h. let t : x ≡ machine ask code n = m.1 (ended_stays own code (machine ask code n) (inr h)) in z.fine (ap (λ (y : State). y.mode) t ∙ h);
        }

        by : Grows (steps own code same.0 start).log x.log × (Stays own code (steps own code same.0 start) → x ≡ steps own code same.0 start) → Shown o
        by m = finish (subst (λ (y : State). Grows y.log x.log × (Stays own code y → x ≡ y)) same.2 m)

    shown : Shown (outcome program (replayed (machine ask code n).log.taken) n)
    shown = shown_by (outcome program (replayed (machine ask code n).log.taken) n) _ (moment (replayed (machine ask code n).log.taken) n)

    reached_by : (other : Ask) (clock ticks : ℕ) (o : Outcome) → Moment code other clock ticks o → Obeys ask o.picks → 64 * ticks ≤ n → HasReached code (machine ask code n) o
    reached_by other clock ticks o z ob le = record { end = ends; trace = shows }
      where
        a : (i : ℕ) × (i ≤ z.n) × (steps ask code i start ≡ steps other code z.n start)
        a = agree other ask code z.n start (subst (Obeys ask) z.taken ob)

        later : a.0 ≤ n
        later = omega (arith, a.1, z.in_time, le)

        log_is : (steps ask code a.0 start).log.trace ≡ o.trace
        log_is = ap (λ (y : State). y.log.trace) a.2 ∙ sym z.trace

        shows : IsPrefix o.trace (machine ask code n).log.trace
        shows = let g = grow ask code a.0 n start later in subst (λ t. IsPrefix t (machine ask code n).log.trace) log_is g.trace

        ends : (e : End) → o.end ≡ Some e → (end_of code (machine ask code n) ≡ Some e) × ((machine ask code n).log.trace ≡ o.trace) × ((machine ask code n).log.taken ≡ o.picks)
        ends e h =
            let there : end_of code (steps ask code a.0 start) ≡ Some e = ap (end_of code) a.2 ∙ z.end ∙ h in
            let t : machine ask code n ≡ steps ask code a.0 start = stay ask code a.0 n start later (ended_stays ask code (steps ask code a.0 start) (inl (λ none. let bad : None ≡ Some e = sym none ∙ there in cc))) in
            (ap (end_of code) t ∙ there, ap (λ (y : State). y.log.trace) t ∙ log_is, ap (λ (y : State). y.log.taken) (t ∙ a.2) ∙ sym z.taken)

    runs_as : RunsAs program code ask n
    runs_as = record {
      so_far = shown.so_far;
      whole = shown.whole;
      no_pick_left = shown.no_pick_left;
      obeys = obeys;
      not_stuck = shown.not_stuck;
      in_time = λ other clock ob le. reached_by other clock (outcome program other clock).ticks (outcome program other clock) (moment other clock) ob le;
    }

  pub behaves : Behaves program code
  behaves = record { after = λ ask n. runs_as ask n }
