-- The execution of a body, and of the main procedure.
use Rattle.std.proofs.Common.{◌≡◌, ℕ, zero, suc, ◌+◌, ◌<◌, ◌≤◌, List, [], ◌∷◌, ◌++◌, length, Some, None, true, refl, sym, ap, ◌∙◌, subst, arith, inl}
use Rattle.std.specs.Prelude.{slice_get, take, drop, replicate}
use Rattle.ctl_program.specs.declared.types.Ty.{Ty}
use Rattle.ctl_program.specs.declared.operators.SubprogramKind.{SubprogramKind}
use Rattle.ctl_program.specs.declared.operators.SubprogramKind.TheVariants.{Procedure, Function}
use Rattle.ctl_program.specs.declared.statement.Master.{Master, fold_out-Master}
use Rattle.ctl_program.specs.declared.program.Subprogram.{Subprogram}
use Rattle.ctl_tree.specs.declared.event.Cause.TheVariants.{Collection}
use Rattle.ctl_meaning.specs.World.{Slot, unset, Member, Log, World, empty_log, empty_world}
use Rattle.ctl_meaning.specs.Changes.{open_master}
use Rattle.ctl_meaning.specs.Choice.{Ask}
use Rattle.ctl_meaning.specs.Outcome.{ByReturn, ByRaise, Result, Goes, Leaves, Gives, Done, bind, on_goes, on_some, opened_outcome}
use Rattle.ctl_meaning.specs.Types.{Tables}
use Rattle.ctl_meaning.specs.Names.{OfSubprogram, OfAllocator, Returned, Default, Tools, gone}
use Rattle.ctl_meaning.specs.Names as Names
use Rattle.ctl_meaning.specs.Finalization.{finalize_begun}
use Rattle.ctl_meaning.specs.Masters.{Left, in_master}
use Rattle.ctl_meaning.specs.Statements.{Body, Doing, Guarding, arm_step, body_of, exec_step, handler_step, master_step, unset_slots}
use Rattle.ctl_meaning.specs.Run.{Meaning, default_in, execute, execution, expression_tools, handed_back, returned, routine_of, run_meaning, run_number, run_routine, slots_for, tools, tools_with}
use Rattle.ctl_meaning.proofs.Cuts.{UpTo}
use Rattle.ctl_code.specs.declared.code.Entry.{Entry}
use Rattle.ctl_code.specs.declared.code.Instr.TheVariants as InstrOf
use Rattle.ctl_code.specs.declared.code.Code.{Code}
use Rattle.ctl_code.specs.declared.kinds.Kind.TheVariants as KindOf
use Rattle.ctl_code.specs.States.{Word, Scalar, After, AfterBlock, AfterProcedure, AfterFunction, AfterBody, Frame, State}
use Rattle.ctl_code.specs.Table.{behind, by_new, enter_body, pool_in, set_seen}
use Rattle.ctl_code.specs.Steps.{moved, step, start}
use Rattle.ctl_layout.specs.Layout.{MasterCode, body_code, entry_at, master_code, nowhere, outside}
use Rattle.ctl_layout.proofs.StatementLayers.{master_is}
use Rattle.ctl_gen.proofs.Place.{HasAt, Laid}
use Rattle.ctl_gen.proofs.Each.{Each}
use Rattle.ctl_gen.proofs.Collections.{nested_taken}
use Rattle.ctl_gen.proofs.Worlds.{IsNested, IsPlainSlot, plain_unset, Since, fits_empty, keeps_itself}
use Rattle.ctl_gen.proofs.Scopes.{IsCallable}
use Rattle.ctl_gen.proofs.Setting.{Setting, Allocates, IsGiven, IsServed, Made, made_type, made_value, MayAllocate, EndsIn, allocator_steps, behind_allocator, by_allocator, returned_to, returns, IsTold, Told, Calls}
use Rattle.ctl_gen.proofs.Known.{IsPlainType, IsScalar}
use Rattle.ctl_gen.proofs.Given.{GivesEach}
use Rattle.ctl_gen.proofs.Calls.{point_at}
use Rattle.ctl_gen.proofs.Allocators.{allocator_runs, giver_runs}
use Rattle.ctl_gen.proofs.Cells.{by_code, here}
use Rattle.ctl_gen.proofs.Leave.{in_frame, leaves}
use Rattle.ctl_gen.proofs.Executed.{master_does}
use Rattle.ctl_gen.proofs.Follow.{by_raise, IsGoing, Runs, RunsTo, way_of, at, added, no_step, both}

-- a body has as many slots as it means
slots_alike : (m : Master) → (master_code m).slots ≡ (body_of m).slots
unfolding body_of
slots_alike m = ap (λ (x : MasterCode). x.slots) (master_is m) ∙ sym (ap (λ (b : Body). b.slots) (fold_out-Master Doing Guarding Guarding Body exec_step arm_step handler_step master_step m))

-- a body stands in the code, with its texts, and is of this version
pub record Stands (k : Tables) (code : Code) (f : ℕ) (s : Subprogram) : Type 0 where
  pub place : ℕ
  pub before : ℕ
  pub entry : slice_get code.entries.items f ≡ Some (entry_at place s)
  pub instructions : Laid code place ((body_code f s).code nowhere before)
  pub texts : HasAt code.texts.items before (body_code f s).texts
  pub runs : (body_code f s).runs (outside k.records) ≡ true

-- what is taken of a list is as long as was asked, where it has as many
taken_length : (n : ℕ) (xs : List ℕ) → n ≤ length xs → length (take n xs) ≡ n
taken_length zero xs le = refl
taken_length (suc n) [] le = absurd (omega (arith, le))
taken_length (suc n) (x ∷ xs) le = let e = taken_length n xs (omega (arith, le)) in omega (arith, e)

plain_both : (xs ys : List Slot) → Each IsPlainSlot xs → Each IsPlainSlot ys → Each IsPlainSlot (xs ++ ys)
plain_both [] ys h g = g
plain_both (x ∷ xs) ys h g = (h.0, plain_both xs ys h.1 g)

plain_rest : (n : ℕ) (xs : List Slot) → Each IsPlainSlot xs → Each IsPlainSlot (drop n xs)
plain_rest zero xs h = h
plain_rest (suc n) [] h = tt
plain_rest (suc n) (x ∷ xs) h = plain_rest n xs h.1

-- nothing but an exception leaves a body
is_handed : (kind : SubprogramKind) (slots : List Slot) (r : Result Done) → IsTold (way_of (handed_back kind slots r))
is_handed kind slots (Leaves (ByReturn v)) = tt
is_handed kind slots (Leaves (ByRaise e)) = tt
is_handed Function slots r = tt
is_handed Procedure slots r = tt

-- a body that ends so, with these slots, returns there what it means
behind_is : (kind : SubprogramKind) (after : After) → EndsIn kind after → (slots : List Slot) (r : Result Done) (ks : List Frame) (l : Log) (w : World) → moved l (behind after r slots ks w) ≡ returned_to after ks (handed_back kind slots r) l w
behind_is Procedure (AfterProcedure copies p) ends slots (Leaves (ByRaise e)) ks l w = refl
behind_is Procedure (AfterProcedure copies p) ends slots r ks l w = refl
behind_is Procedure AfterBody ends slots (Leaves (ByRaise e)) ks l w = refl
behind_is Procedure AfterBody ends slots r ks l w = refl
behind_is Procedure (AfterBlock p) ends slots r ks l w = absurd ends
behind_is Procedure (AfterFunction cells p) ends slots r ks l w = absurd ends
behind_is Function (AfterFunction cells p) ends slots (Leaves (ByRaise e)) ks l w = refl
behind_is Function (AfterFunction cells p) ends slots r ks l w = refl
behind_is Function (AfterBlock p) ends slots r ks l w = absurd ends
behind_is Function (AfterProcedure copies p) ends slots r ks l w = absurd ends
behind_is Function AfterBody ends slots r ks l w = absurd ends

module _ (ask : Ask) (p : Meaning) (code : Code) (setting : Setting p.tables code) (bodies : (f : ℕ) (s : Subprogram) → slice_get setting.subprograms f ≡ Some s → Stands p.tables code f s) (meant : (f : ℕ) (s : Subprogram) → slice_get setting.subprograms f ≡ Some s → slice_get p.routines f ≡ Some (routine_of s)) (defaults : (n : ℕ) → GivesEach ask p.tables code setting (execution ask p n) (default_in p.defaults (expression_tools ask p (execution ask p n)))) (counted : (n bound : ℕ) → bound < n → (default : Default) (m : Member) → UpTo p.tables ask bound (finalize_begun (record { ask = ask; tables = p.tables; call = execution ask p n; default = default }) Collection m)) where
  abbrev k : Tables
  k = p.tables

  -- the step that enters a body
  entered : (f : ℕ) (s : Subprogram) (x : Stands k code f s) (env : List ℕ) (actuals : List Slot) (after : After) (ks : List Frame) (l : Log) (w : World) → moved l (enter_body (slice_get code.entries.items f) [] env actuals after ks w) ≡ at (take s.level env ++ w.ledger.next_master ∷ []) x.place (in_frame w.ledger.next_master 0 after ks) [] l (open_master (take s.level env) (slots_for (body_of s.body) actuals) w)
  unfolding slots_for unset_slots
  entered f s x env actuals after ks l w =
      ap (λ e. moved l (enter_body e [] env actuals after ks w)) x.entry
      ∙ ap (λ n. at (take s.level env ++ w.ledger.next_master ∷ []) x.place (in_frame w.ledger.next_master 0 after ks) [] l (open_master (take s.level env) (actuals ++ drop (length actuals) (replicate n unset)) w)) (slots_alike s.body)

  plain_slots : (s : Subprogram) (actuals : List Slot) → Each IsPlainSlot actuals → Each IsPlainSlot (slots_for (body_of s.body) actuals)
  unfolding slots_for unset_slots
  plain_slots s actuals h = plain_both actuals _ h (plain_rest (length actuals) (replicate (body_of s.body).slots unset) (plain_unset (body_of s.body).slots))

  -- what follows the master of a body
  behind_body : (w0 : World) (after : After) (ks : List Frame) (kind : SubprogramKind) → EndsIn kind after → (r : Result Left) (c : ℕ) (l : Log) (w : World) → Told k code w0 (way_of r) w → Runs ask code (Told k code w0) 0 0 (leaves after ks r l w) c (returned_to after ks) (on_goes (λ (x : Left). returned kind x.slots x.result) r c l w)
  unfolding opened_outcome returned
  behind_body w0 after ks kind ends (Goes x) c l w fits = no_step ask code (Told k code w0) 0 0 _ c 0 (returned_to after ks) (handed_back kind x.slots x.result) l w (is_handed kind x.slots x.result, fits.1) (behind_is kind after ends x.slots x.result ks l w)
  behind_body w0 after ks kind ends (Leaves y) c l w fits =
      by_raise (λ v. Runs ask code (Told k code w0) 0 0 (leaves after ks (Leaves v) l w) c (returned_to after ks) (Gives (Leaves v) 0 c l w))
      (λ e. no_step ask code (Told k code w0) 0 0 _ c 0 (returned_to after ks) (Leaves (ByRaise e)) l w (tt, fits.1) (behind_is kind after ends [] (Leaves (ByRaise e)) ks l w)) y fits.0

  -- a body, from the step that enters it
  number_runs : (call : Names.Call) (bound : ℕ) → Calls ask k code setting bound call → GivesEach ask k code setting call (default_in p.defaults (expression_tools ask p call)) → (f : ℕ) (s : Subprogram) → slice_get setting.subprograms f ≡ Some s → (w0 : World) (env : List ℕ) (actuals : List Slot) (after : After) (ks : List Frame) (c0 c : ℕ) (l : Log) (w : World) (s0 : State) (kind : SubprogramKind) (count : ℕ) → EndsIn kind after → c ≤ bound → c ≤ c0 → c0 ≤ c + 1 → Since k code w0 w → IsCallable code kind (length env) f count → IsNested w env → Each IsPlainSlot actuals → step ask code s0 ≡ moved l (enter_body (slice_get code.entries.items f) [] env actuals after ks w) → Runs ask code (Told k code w0) 0 2 s0 c0 (returned_to after ks) (run_number p (tools_with ask p call) env actuals f c l w)
  unfolding run_number run_routine tools_with opened_outcome
  number_runs call bound calls given f s here w0 env actuals after ks c0 c l w s0 kind count ends le lo hi fits callable nested plain first =
      let x : Stands k code f s = bodies f s here in
      let inner = λ (display : List ℕ). (body_of s.body).inside (tools_with ask p call) display 0 in
      let scope = callable.0 in
      let known : scope.0 ≡ entry_at x.place s = cc (sym scope.1 ∙ x.entry) in
      let level : s.level ≤ length env = subst (λ (e : Entry). e.level ≤ length env) known scope.2 in
      let long : length (take s.level env) + 1 ≡ s.level + 1 = ap (λ n. n + 1) (taken_length s.level env level) in
      let formals = callable.1 in
      let same : formals.0 ≡ entry_at x.place s = cc (sym formals.1 ∙ x.entry) in
      let of_kind : s.kind ≡ kind = ap (λ (e : Entry). e.kind) (sym same) ∙ formals.2 in
      subst (λ o. Runs ask code (Told k code w0) 0 2 s0 c0 (returned_to after ks) o) (sym (ap (λ y. on_some y gone (run_routine (tools_with ask p call) env actuals) c l w) (meant f s here)))
      (subst (λ (b : SubprogramKind). Runs ask code (Told k code w0) 0 2 s0 c0 (returned_to after ks) (bind (in_master (tools_with ask p call) (take s.level env) (slots_for (body_of s.body) actuals) inner c l w) (on_goes (λ (y : Left). returned b y.slots y.result)))) (sym of_kind)
      (both ask code (Told k code w0) (Told k code w0) 0 2 0 0 0 2 s0 c0 (leaves after ks) (returned_to after ks) _ (on_goes (λ (y : Left). returned kind y.slots y.result)) (omega arith) (omega arith) (omega arith)
      ((master_does ask k code setting call (default_in p.defaults (expression_tools ask p call)) given bound calls s.body).inside (s.level + 1, x.runs) x.before x.texts 0 (KindOf.Body s.level (master_code s.body).slots f) [] w0 (take s.level env) (slots_for (body_of s.body) actuals) after ks c0 c l w s0 x.place le lo hi fits long (nested_taken w.ledger.next_master w.activations [] s.level env nested) (plain_slots s actuals plain) x.instructions (first ∙ entered f s x env actuals after ks l w))
      (λ r c1 l1 w1 lo1 fits1. behind_body w0 after ks kind ends r c1 l1 w1 fits1)))

  -- executions of less than so much on the clock behave
  abbrev Below : ℕ → Type 0
  Below zero = Unit {0}
  Below (suc n) = Calls ask k code setting n (execution ask p (suc n))

  -- an execution takes one from the clock, and is a tick
  call_runs : (n : ℕ) → Below n → (c : ℕ) → c ≤ n → (f : ℕ) (s : Subprogram) → slice_get setting.subprograms f ≡ Some s → (w0 : World) (v : List ℕ) (actuals : List Slot) (after : After) (ks : List Frame) (l : Log) (w : World) (s0 : State) (kind : SubprogramKind) (count : ℕ) → EndsIn kind after → Since k code w0 w → IsCallable code kind (length v) f count → IsNested w v → Each IsPlainSlot actuals → step ask code s0 ≡ moved l (enter_body (slice_get code.entries.items f) [] v actuals after ks w) → Runs ask code (Told k code w0) 0 3 s0 c (returned_to after ks) (execution ask p (suc n) (OfSubprogram f actuals) v c l w)
  unfolding execution execute opened_outcome
  call_runs n below zero le f s here w0 v actuals after ks l w s0 kind count ends fits callable nested plain first =
      let e = first ∙ entered f s (bodies f s here) v actuals after ks l w in
      record { n = 1; in_time = omega arith; logged = ap (λ (x : State). x.log) e; going = subst IsGoing (sym e) tt; why = inl (omega arith) }
  call_runs zero below (suc c) le f s here w0 v actuals after ks l w s0 kind count ends fits callable nested plain first = absurd (omega (arith, le))
  call_runs (suc n) below (suc c) le f s here w0 v actuals after ks l w s0 kind count ends fits callable nested plain first =
      added ask code (Told k code w0) 1 0 2 0 3 s0 (suc c) (returned_to after ks) _ (omega arith) (omega arith)
      (number_runs (execution ask p (suc n)) n below (defaults (suc n)) f s here w0 v actuals after ks (suc c) c l w s0 kind count ends (omega (arith, le)) (omega arith) (omega arith) fits callable nested plain first)

  -- an allocator has taken one before
  allocate_runs : (n : ℕ) → Below n → (access : ℕ) (m : Made) → IsPlainType k (made_type m) → (w0 : World) (d : List ℕ) (place : ℕ) (ks : List Frame) (ops : List Word) (c : ℕ) (l : Log) (w : World) (s0 : State) → c + 1 ≤ n → Since k code w0 w → MayAllocate code access (made_type m) d w → IsServed code m place → step ask code s0 ≡ moved l (by_allocator code m (pool_in (slice_get code.accesses.items access)) (set_seen (slice_get code.accesses.items access) d w) ops (here d place ks w)) → RunsTo ask code (Allocates k code w0) 6 (allocator_steps m) s0 c (returned_to (AfterFunction None (point_at d (behind_allocator place) ops)) ks) (execution ask p (suc n) (OfAllocator access (made_type m) None (made_value m)) d c l w)
  unfolding execution execute tools_with opened_outcome
  allocate_runs zero below access m plain w0 d place ks ops c l w s0 le fits may served first = absurd (omega (arith, le))
  allocate_runs (suc n) below access m plain w0 d place ks ops c l w s0 le fits may served first =
      let inner = execution ask p (suc n) in
      allocator_runs ask k code setting inner (default_in p.defaults (expression_tools ask p inner)) (defaults (suc n)) n below w0 m plain access (setting.accesses access) d place ks ops s0 c l w (omega (arith, le)) fits may served first

  -- and so has one whose object takes a value
  give_runs : (n : ℕ) → Below n → (access : ℕ) (of : Ty) → IsScalar of → (x : ℕ) (w0 : World) (d : List ℕ) (place : ℕ) (ks : List Frame) (ops : List Word) (c : ℕ) (l : Log) (w : World) (s0 : State) → c + 1 ≤ n → Since k code w0 w → MayAllocate code access of d w → IsGiven code of place → step ask code s0 ≡ moved l (by_new code of (pool_in (slice_get code.accesses.items access)) (set_seen (slice_get code.accesses.items access) d w) (Scalar x ∷ ops) (here d place ks w)) → RunsTo ask code (Allocates k code w0) 7 9 s0 c (returned_to (AfterFunction None (point_at d (behind_allocator place + 1) ops)) ks) (execution ask p (suc n) (OfAllocator access of None (Some (x ∷ []))) d c l w)
  unfolding execution execute tools_with opened_outcome
  give_runs zero below access of scalar x w0 d place ks ops c l w s0 le fits may given first = absurd (omega (arith, le))
  give_runs (suc n) below access of scalar x w0 d place ks ops c l w s0 le fits may given first =
      let inner = execution ask p (suc n) in
      giver_runs ask k code setting inner (default_in p.defaults (expression_tools ask p inner)) (defaults (suc n)) n below w0 access (setting.accesses access) of scalar x d place ks ops s0 c l w (omega (arith, le)) fits may given first

  all_below : (n : ℕ) → Below n
  all_below zero = tt
  all_below (suc n) = record {
    runs = λ f s known w0 v actuals after ks c l w s0 kind count ends le fits callable nested plain first. call_runs n (all_below n) c le f s known w0 v actuals after ks l w s0 kind count ends fits callable nested plain first;
    allocates = λ access m plain w0 d place ks ops c l w s0 le fits may served first. allocate_runs n (all_below n) access m plain w0 d place ks ops c l w s0 le fits may served first;
    gives_value = λ access of scalar x w0 d place ks ops c l w s0 le fits may given first. give_runs n (all_below n) access of scalar x w0 d place ks ops c l w s0 le fits may given first;
    counts = counted (suc n) n (omega arith);
  }

  -- the main procedure, which is declared in no master and has no formals
  pub main_runs : (main : ℕ) (s : Subprogram) → slice_get setting.subprograms main ≡ Some s → IsCallable code Procedure 0 main 0 → slice_get code.instructions.items 0 ≡ Some (InstrOf.Start main) → (clock : ℕ) → Runs ask code (Told k code empty_world) 0 2 start clock (returns []) (run_meaning p main ask clock)
  unfolding run_meaning tools
  main_runs main s here callable has clock = number_runs (execution ask p (suc clock)) clock (all_below (suc clock)) (defaults (suc clock)) main s here empty_world [] [] AfterBody [] clock clock empty_log empty_world start Procedure 0 tt (omega arith) (omega arith) (omega arith) (fits_empty k code, keeps_itself k code empty_world) callable tt tt (by_code ask code [] 0 [] [] empty_log empty_world (InstrOf.Start main) has)
