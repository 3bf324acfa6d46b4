-- Calls of subprograms: the body is entered with its formals, behind the code of the actuals, and does what the program means (6.4); then the
-- copies of a procedure go back (6.4.1).
use Rattle.std.proofs.Common.{◌≡◌, ℕ, zero, suc, ◌+◌, ◌≤◌, List, [], ◌∷◌, ◌++◌, length, Bool, true, false, Some, refl, sym, ap, ◌∙◌, subst, arith, length-append}
use Rattle.std.specs.Prelude.{drop, slice_get, if◌then◌else◌}
use Rattle.ctl_program.specs.declared.operators.SubprogramKind.{SubprogramKind}
use Rattle.ctl_program.specs.declared.operators.SubprogramKind.TheVariants.{Procedure}
use Rattle.ctl_meaning.specs.World.{Slot, Log, World}
use Rattle.ctl_meaning.specs.Choice.{Ask}
use Rattle.ctl_meaning.specs.Outcome.{ByRaise, Result, Goes, Leaves, Out, Gives, Act, Done, bind, on_goes, ◌>>◌, done, nothing, opened_outcome}
use Rattle.ctl_meaning.specs.Types.{Tables}
use Rattle.ctl_meaning.specs.Finalization.{Spot}
use Rattle.ctl_meaning.specs.Names.{Found, OfSubprogram, Returned, Call, Default, Tools}
use Rattle.ctl_meaning.specs.Expressions.{Passed, Supplied, call_with, copy_back, no_actuals, pass_each}
use Rattle.ctl_meaning.specs.Statements.{call as call_doing}
use Rattle.ctl_code.specs.declared.code.Instr.{Instr}
use Rattle.ctl_code.specs.declared.code.Instr.TheVariants as InstrOf
use Rattle.ctl_code.specs.declared.code.Code.{Code}
use Rattle.ctl_code.specs.declared.kinds.Kind.{Kind}
use Rattle.ctl_code.specs.States.{Word, Point, After, AfterProcedure, Frame, State}
use Rattle.ctl_code.specs.Table.{call_body, enter_body, with_values}
use Rattle.ctl_code.specs.Steps.{moved, step}
use Rattle.ctl_code.specs.Valid.{IsCalled, over_numbers}
use Rattle.ctl_code.specs.Windows.{depth, height}
use Rattle.ctl_code.proofs.Keeping.{words_of}
use Rattle.ctl_layout.specs.Around.{Line}
use Rattle.ctl_layout.specs.Layout.{call as call_code, calls_code}
use Rattle.ctl_layout.specs.Values.{ActualCode, actuals_code, copied_back, copies_code, copies_of, goes_back, numbers_in, reserved_code, with_actuals}
use Rattle.ctl_emitter.specs.Emitted.{taking_actuals}
use Rattle.ctl_emitter.proofs.EmittedCalls.{depth_over, none_kept}
use Rattle.ctl_gen.proofs.Worlds.{IsNested, Since, Kept}
use Rattle.ctl_gen.proofs.Scopes.{IsCallable}
use Rattle.ctl_gen.proofs.Setting.{Setting, Calls, EndsIn, Sure, Told, returned_to, tools_with, IsSeen, seen, seen_nested}
use Rattle.ctl_gen.proofs.Cells.{by_code, here}
use Rattle.ctl_gen.proofs.Place.{Laid, laid_front, laid_back}
use Rattle.ctl_gen.proofs.Formals.{Taken, backs_of, none_back, operands_of}
use Rattle.ctl_gen.proofs.Actuals.{depth_with}
use Rattle.ctl_gen.proofs.Actuals as A
use Rattle.ctl_gen.proofs.CopiesBack.{copies_back}
use Rattle.ctl_gen.proofs.Does.{Does}
use Rattle.ctl_gen.proofs.Follow.{Target, OutOf, by_raise, Runs, added, arrives, at, both, lands, no_step, one_step, transferred, way_of, within}

abbrev pub point_at : List ℕ → ℕ → List Word → Point
point_at d place ops = record { display = d; place = place; operands = ops }

-- the formals of these actuals have taken their operands, and these parts are kept for their copies
abbrev pub TakenBy : Code → List ActualCode → List ℕ → List Spot → Passed → Type 0
TakenBy code xs d kept q = Taken (length xs) (backs_of code d 0 xs kept) q × (length (words_of kept) ≡ numbers_in xs)

-- none is where no copy goes back
no_words : (kept : List Spot) → length (words_of kept) ≡ 0 → words_of kept ≡ []
no_words [] none = refl
no_words (s ∷ kept) none = absurd (omega (arith, none))

-- behind a call and the copies of it
abbrev pub behind_copies : List ℕ → ℕ → List Frame → List Word → Result Returned → Log → World → State
behind_copies d place ks ops (Goes r) l w = at d place ks ops l w
behind_copies d place ks ops (Leaves y) l w = transferred y ks l w

module _ (ask : Ask) (k : Tables) (code : Code) (setting : Setting k code) (call : Call) (default : Default) (bound : ℕ) (calls : Calls ask k code setting bound call) where
  abbrev K : Tools
  K = tools_with ask k call default

  -- The body ----------------------------------------------------------------------------------------

  -- the step that enters it, whose end leads there
  abbrev pub Enters : (Point → After) → Instr → ℕ → ℕ → Type 0
  Enters after i f count = (d : List ℕ) (place : ℕ) (ks : List Frame) (ops : List Word) (l : Log) (w : World) → slice_get code.instructions.items place ≡ Some i → step ask code (at d place ks ops l w) ≡ moved l (call_body code f count after ops (here d place ks w))

  entered : (after : Point → After) (f count : ℕ) (q : Passed) (d : List ℕ) (place : ℕ) (ks : List Frame) (below : List Word) (backs : List (ℕ × Found)) (l : Log) (w : World) → Taken count backs q → moved l (call_body code f count after (operands_of q.slots below) (here d place ks w)) ≡ moved l (enter_body (slice_get code.entries.items f) [] d q.slots (after (point_at d (place + 1) below)) ks w)
  entered after f count q d place ks below backs l w taken =
      let there : List Slot → List Word → State = λ slots rest. moved l (enter_body (slice_get code.entries.items f) [] d slots (after (point_at d (place + 1) rest)) ks w) in
      ap (λ slots. there slots (drop count (operands_of q.slots below))) (taken.slots below) ∙ ap (there q.slots) (taken.rest below)

  -- what calls a subprogram of this kind, and where that leads
  pub record Calling (kind : SubprogramKind) (after : Point → After) (i : Instr) (f count : ℕ) : Type 0 where
    pub ends : (p : Point) → EndsIn kind (after p)
    pub enters : Enters after i f count

  -- over the operands that its formals take
  body_runs : (kind : SubprogramKind) (after : Point → After) (i : Instr) (f count : ℕ) → Calling kind after i f count → (q : Passed) (w0 : World) (d : List ℕ) (place : ℕ) (ks : List Frame) (below : List Word) (backs : List (ℕ × Found)) (c : ℕ) (l : Log) (w : World) → c ≤ bound → Since k code w0 w → IsCallable code kind (length d) f count → IsNested w d → Taken count backs q → slice_get code.instructions.items place ≡ Some i → Runs ask code (Told k code w0) 0 3 (at d place ks (operands_of q.slots below) l w) c (returned_to (after (point_at d (place + 1) below)) ks) (call (OfSubprogram f q.slots) d c l w)
  body_runs kind after i f count calling q w0 d place ks below backs c l w le fits callable nested taken has =
      let p = point_at d (place + 1) below in
      let ops = operands_of q.slots below in
      let body = setting.body f callable.0.0 callable.0.1 in
      calls.runs f body.0 body.1 w0 d q.slots (after p) ks c l w (at d place ks ops l w) kind count (calling.ends p) le fits callable nested taken.plain
      (calling.enters d place ks ops l w has ∙ entered after f count q d place ks below backs l w taken)

  -- The call ----------------------------------------------------------------------------------------

  -- what becomes of the execution of a body: these copies go back
  abbrev pub copying : List (ℕ × Found) → Result Returned → Act Returned
  copying back r = on_goes (λ (x : Returned). copy_back x.slots back >> done x) r

  -- what is done behind the instruction, in so many steps, once the operands were taken, over the parts that are kept and these operands
  abbrev pub GoesOn : World → ℕ → ℕ → (List Word → After) → List ActualCode → List ℕ → List Frame → List Word → (Result Returned → Log → World → State) → Type 0
  GoesOn w0 count c after xs d ks ops next = (q : Passed) (kept : List Spot) (r : Result Returned) (c1 : ℕ) (l1 : Log) (w1 : World) → c1 ≤ c → TakenBy code xs d kept q → Told k code w0 (way_of r) w1 → Runs ask code (Told k code w0) count count (returned_to (after (words_of kept ++ ops)) ks r l1 w1) c1 next (copying q.back r c1 l1 w1)

  -- the actuals, the body, and what follows it, of which the ticks of the actuals pay a step each
  pub called_runs : (kind : SubprogramKind) (after : Point → After) (i : Instr) (f : ℕ) (xs : List ActualCode) (ms : List Supplied) → Calling kind after i f (length xs) → (count : ℕ) → count ≤ length xs + 3 → (w0 : World) → A.EachPasses ask k code setting call default bound w0 xs ms → (s : List Kind) (d : List ℕ) (place : ℕ) (ks : List Frame) (ops : List Word) (next : Result Returned → Log → World → State) (c : ℕ) (l : Log) (w : World) → c ≤ bound → Since k code w0 w → IsSeen w0 d s → IsCalled code kind f (length xs) (with_actuals xs s) → Laid code place (taking_actuals i xs s) →
      GoesOn w0 count c (λ os. after (point_at d (place + length (taking_actuals i xs s)) os)) xs d ks ops next → ((e : ℕ) (l1 : Log) (w1 : World) → transferred (ByRaise e) ks l1 w1 ≡ next (Leaves (ByRaise e)) l1 w1) →
      Runs ask code (Told k code w0) 4 4 (at d place ks (with_values (numbers_in xs) [] ops) l w) c next (bind (pass_each K d ms no_actuals c l w) (on_goes (call_with K d f)))
  unfolding call_with opened_outcome
  called_runs kind after i f xs ms calling count few w0 each s d place ks ops next c l w le fits long called has on raises =
      A.actuals_then ask k code setting call default bound w0 (λ r. Told k code w0 (way_of r)) next (call_with K d f) 4 xs ms each s d place ks ops c l w le fits long (laid_front code place (actuals_code 0 xs s) ((i, with_actuals xs s) ∷ []) has)
      (λ q kept c1 l1 w1 lo fits1 taken enough.
      let below = words_of kept ++ ops in
      both ask code (Told k code w0) (Told k code w0) 0 3 count count (length xs + 4) (length xs + 4) _ c1 (mid below) next (call (OfSubprogram f q.slots) d c1 l1 w1) (copying q.back) (omega (arith, few)) (omega arith) (omega (arith, few))
      (subst (λ n. Runs ask code (Told k code w0) 0 3 (at d there ks (operands_of q.slots below) l1 w1) c1 (returned_to (after (point_at d n below)) ks) (call (OfSubprogram f q.slots) d c1 l1 w1)) end
      (body_runs kind after i f (length xs) calling q w0 d there ks below (backs_of code d 0 xs kept) c1 l1 w1 (omega (arith, lo, le)) fits1 callable (seen_nested k code d s w0 w1 long fits1) taken here_it))
      (λ r c2 l2 w2 lo2 told. on q kept r c2 l2 w2 (omega (arith, lo, lo2)) (taken, enough) told))
      (λ e l1 w1 fits1. ((tt, fits1), raises e l1 w1))
    where
      there : ℕ
      there = place + length (actuals_code 0 xs s)

      end : place + length (actuals_code 0 xs s) + 1 ≡ place + length (taking_actuals i xs s)
      end = omega (arith, length-append (actuals_code 0 xs s) ((i, with_actuals xs s) ∷ []))

      mid : List Word → Result Returned → Log → World → State
      mid below = returned_to (after (point_at d (place + length (taking_actuals i xs s)) below)) ks

      here_it : slice_get code.instructions.items (place + length (actuals_code 0 xs s)) ≡ Some i
      here_it = (laid_back code place (actuals_code 0 xs s) ((i, with_actuals xs s) ∷ []) has).0

      callable : IsCallable code kind (length d) f (length xs)
      callable =
          let same = depth_with xs s in
          let most = long.2.0 in
          let high = called.0.2 in
          ((called.0.0, called.0.1, omega (arith, same, most, high)), called.1)

  -- where no copy goes back, nothing more is done
  pub nothing_back : (w0 : World) (xs : List ActualCode) (d : List ℕ) (c : ℕ) (after : List Word → After) (ks : List Frame) (ops : List Word) (next : Result Returned → Log → World → State) → goes_back xs ≡ false → ((r : Result Returned) (l : Log) (w : World) → Told k code w0 (way_of r) w → returned_to (after ops) ks r l w ≡ next r l w) → GoesOn w0 0 c after xs d ks ops next
  unfolding copy_back opened_outcome
  nothing_back w0 xs d c after ks ops next none same q kept r c1 l1 w1 lo taken told =
      subst (λ (words : List Word). Runs ask code (Told k code w0) 0 0 (returned_to (after (words ++ ops)) ks r l1 w1) c1 next (copying q.back r c1 l1 w1)) (sym (no_words kept (taken.1 ∙ none_kept xs none)))
      (subst (λ back. Runs ask code (Told k code w0) 0 0 (returned_to (after ops) ks r l1 w1) c1 next (copying back r c1 l1 w1)) (sym (taken.0.back ∙ none_back code d 0 xs kept none)) (by r told))
    where
      by : (r : Result Returned) → Told k code w0 (way_of r) w1 → Runs ask code (Told k code w0) 0 0 (returned_to (after ops) ks r l1 w1) c1 next (copying [] r c1 l1 w1)
      by (Goes x) told1 = no_step ask code (Told k code w0) 0 0 _ c1 0 next (Goes x) l1 w1 told1 (same (Goes x) l1 w1 told1)
      by (Leaves y) told1 = no_step ask code (Told k code w0) 0 0 _ c1 0 next (Leaves y) l1 w1 told1 (same (Leaves y) l1 w1 told1)

  -- Procedures --------------------------------------------------------------------------------------

  -- where a copy goes back: a step for each actual at most, and a few more
  copies_on : (w0 : World) (xs : List ActualCode) → goes_back xs ≡ true → (s : List Kind) (d : List ℕ) (place : ℕ) (ks : List Frame) (ops : List Word) (c : ℕ) → length d ≡ depth s → Laid code place (copies_code xs s) → GoesOn w0 (length xs + 3) c (λ os. AfterProcedure (copies_of xs) (point_at d place os)) xs d ks ops (behind_copies d (place + length (copies_code xs s)) ks ops)
  unfolding opened_outcome
  copies_on w0 xs is s d place ks ops c long has q kept (Leaves y) c1 l1 w1 lo taken told = no_step ask code (Told k code w0) (length xs + 3) (length xs + 3) _ c1 0 (behind_copies d (place + length (copies_code xs s)) ks ops) (Leaves y) l1 w1 told refl
  copies_on w0 xs is s d place ks ops c long has q kept (Goes x) c1 l1 w1 lo taken told =
      let n = length xs in
      let below = words_of kept ++ ops in
      let all : copies_of xs ≡ n = ap (λ b. if b then n else 0) is in
      let lines : copies_code xs s ≡ copied_back xs (numbers_in xs + n) s = ap (λ b. if b then copied_back xs (numbers_in xs + n) s else []) is in
      subst (λ m. Runs ask code (Told k code w0) (n + 3) (n + 3) (at d place ks (with_values m x.slots below) l1 w1) c1 (behind_copies d (place + length (copies_code xs s)) ks ops) (copying q.back (Goes x) c1 l1 w1)) (sym all)
      (subst (λ (ls : List Line). Runs ask code (Told k code w0) (n + 3) (n + 3) (at d place ks (with_values n x.slots below) l1 w1) c1 (behind_copies d (place + length ls) ks ops) (copying q.back (Goes x) c1 l1 w1)) (sym lines)
      (both ask code (Sure k code w0) (Told k code w0) (n + 3) (n + 3) 0 0 (n + 3) (n + 3) _ c1 (arrives OutOf d place1 ks ops) (behind_copies d place1 ks ops) (copy_back x.slots q.back c1 l1 w1) (on_goes (λ _. done x)) (omega arith) (omega arith) (omega arith)
      (subst (λ backs. Runs ask code (Sure k code w0) (n + 3) (n + 3) (at d place ks (with_values n x.slots below) l1 w1) c1 (arrives OutOf d place1 ks ops) (copy_back x.slots backs c1 l1 w1)) (sym taken.0.back)
      (copies_back ask k code w0 x.slots kept xs taken.1 s d ks ops long place c1 l1 w1 told.1 (subst (Laid code place) lines has)))
      over))
    where
      place1 : ℕ
      place1 = place + length (copied_back xs (numbers_in xs + length xs) s)

      over : (r : Result Done) (c2 : ℕ) (l2 : Log) (w2 : World) → c2 ≤ c1 → Sure k code w0 (way_of r) w2 → Runs ask code (Told k code w0) 0 0 (arrives OutOf d place1 ks ops r l2 w2) c2 (behind_copies d place1 ks ops) (on_goes (λ _. done x) r c2 l2 w2)
      over (Goes u) c2 l2 w2 lo2 sure = no_step ask code (Told k code w0) 0 0 _ c2 0 (behind_copies d place1 ks ops) (Goes x) l2 w2 (tt, sure.1) refl
      over (Leaves y) c2 l2 w2 lo2 sure = absurd sure.0

  -- where none goes back, the call leads behind its lines
  none_on : (w0 : World) (xs : List ActualCode) → goes_back xs ≡ false → (s : List Kind) (d : List ℕ) (place : ℕ) (ks : List Frame) (ops : List Word) (c : ℕ) → GoesOn w0 0 c (λ os. AfterProcedure (copies_of xs) (point_at d place os)) xs d ks ops (behind_copies d (place + length (copies_code xs s)) ks ops)
  none_on w0 xs none s d place ks ops c = nothing_back w0 xs d c (λ os. AfterProcedure (copies_of xs) (point_at d place os)) ks ops (behind_copies d (place + length (copies_code xs s)) ks ops) none same
    where
      same : (r : Result Returned) (l : Log) (w : World) → Told k code w0 (way_of r) w → returned_to (AfterProcedure (copies_of xs) (point_at d place ops)) ks r l w ≡ behind_copies d (place + length (copies_code xs s)) ks ops r l w
      same (Leaves y) l w told = refl
      same (Goes x) l w told =
          let no_values : copies_of xs ≡ 0 = ap (λ b. if b then length xs else 0) none in
          let no_lines : length (copies_code xs s) ≡ 0 = ap (λ b. length (if b then copied_back xs (numbers_in xs + length xs) s else [])) none in
          let end : place ≡ place + length (copies_code xs s) = omega (arith, no_lines) in
          ap (λ n. at d place ks (with_values n x.slots ops) l w) no_values ∙ ap (λ p. at d p ks ops l w) end

  -- there is no result
  no_result : (w0 : World) (e : Target) (d : List ℕ) (place : ℕ) (ks : List Frame) (ops : List Word) (r : Result Returned) (c : ℕ) (l : Log) (w : World) → Told k code w0 (way_of r) w → Runs ask code (Kept k code w0) 0 0 (behind_copies d place ks ops r l w) c (arrives e d place ks ops) (on_goes (λ _. nothing) r c l w)
  unfolding opened_outcome
  no_result w0 e d place ks ops (Goes r) c l w told = no_step ask code (Kept k code w0) 0 0 _ c 0 (arrives e d place ks ops) (Goes tt) l w told.1 refl
  no_result w0 e d place ks ops (Leaves y) c l w told =
      by_raise (λ v. Runs ask code (Kept k code w0) 0 0 (transferred v ks l w) c (arrives e d place ks ops) (Gives (Leaves v) 0 c l w))
      (λ x. no_step ask code (Kept k code w0) 0 0 _ c 0 (arrives e d place ks ops) (Leaves (ByRaise x)) l w told.1 refl) y told.0

  -- what keeps parts stands below the actuals
  reserved_runs : (w0 : World) (n b : ℕ) (s : List Kind) (d : List ℕ) (place : ℕ) (ks : List Frame) (ops : List Word) (next : Result Returned → Log → World → State) (c : ℕ) (l : Log) (w : World) (o : Out Returned) → Laid code place (reserved_code n s) → Runs ask code (Told k code w0) b b (at d (place + length (reserved_code n s)) ks (with_values n [] ops) l w) c next o → Runs ask code (Told k code w0) (b + 1) (b + 1) (at d place ks ops l w) c next o
  reserved_runs w0 zero b s d place ks ops next c l w o has h =
      let e : place + 0 ≡ place = omega arith in
      within ask code (Told k code w0) b b (b + 1) (b + 1) _ c next o (omega arith) (omega arith) (subst (λ q. Runs ask code (Told k code w0) b b (at d q ks ops l w) c next o) e h)
  reserved_runs w0 (suc n) b s d place ks ops next c l w o has h =
      one_step ask code (Told k code w0) b b (b + 1) (b + 1) _ (at d (place + 1) ks (with_values (suc n) [] ops) l w) c c next o (omega arith) (omega arith) (omega arith) (omega arith)
      (by_code ask code d place ks ops l w (InstrOf.Reserve (suc n) (height s)) has.0) h

  -- the actuals over it, the call, and the copies over what stood there
  passed_runs : (f : ℕ) (xs : List ActualCode) (ms : List Supplied) (w0 : World) → A.EachPasses ask k code setting call default bound w0 xs ms → (s base : List Kind) (d : List ℕ) (place : ℕ) (ks : List Frame) (ops : List Word) (c : ℕ) (l : Log) (w : World) → c ≤ bound → Since k code w0 w → length d ≡ depth s → IsSeen w0 d base → Laid code place (taking_actuals (InstrOf.Call f (length xs) (copies_of xs)) xs base) → Laid code (place + length (taking_actuals (InstrOf.Call f (length xs) (copies_of xs)) xs base)) (copies_code xs s) →
      Runs ask code (Told k code w0) 4 4 (at d place ks (with_values (numbers_in xs) [] ops) l w) c (behind_copies d (place + length (taking_actuals (InstrOf.Call f (length xs) (copies_of xs)) xs base) + length (copies_code xs s)) ks ops) (bind (pass_each K d ms no_actuals c l w) (on_goes (call_with K d f)))
  passed_runs f xs ms w0 each s base d place ks ops c l w le fits long sees front tail = by (goes_back xs) refl
    where
      i : Instr
      i = InstrOf.Call f (length xs) (copies_of xs)

      called : IsCalled code Procedure f (length xs) (with_actuals xs base)
      called =
          let here_it = laid_back code place (actuals_code 0 xs base) ((i, with_actuals xs base) ∷ []) front in
          (setting.valid.each _ i (with_actuals xs base) here_it.0 here_it.1).0

      calling : Calling Procedure (AfterProcedure (copies_of xs)) (InstrOf.Call f (length xs) (copies_of xs)) f (length xs)
      calling = record { ends = λ p. tt; enters = λ d1 q ks1 ops1 l1 w1 here1. by_code ask code d1 q ks1 ops1 l1 w1 i here1 }

      by : (b : Bool) → goes_back xs ≡ b → Runs ask code (Told k code w0) 4 4 (at d place ks (with_values (numbers_in xs) [] ops) l w) c (behind_copies d (place + length (taking_actuals (InstrOf.Call f (length xs) (copies_of xs)) xs base) + length (copies_code xs s)) ks ops) (bind (pass_each K d ms no_actuals c l w) (on_goes (call_with K d f)))
      by false none =
          let place1 = place + length (taking_actuals i xs base) in
          called_runs Procedure (AfterProcedure (copies_of xs)) i f xs ms calling 0 (omega arith) w0 each base d place ks ops (behind_copies d (place1 + length (copies_code xs s)) ks ops) c l w le fits sees called front (none_on w0 xs none s d place1 ks ops c) (λ e l1 w1. refl)
      by true is =
          let place1 = place + length (taking_actuals i xs base) in
          called_runs Procedure (AfterProcedure (copies_of xs)) i f xs ms calling (length xs + 3) (omega arith) w0 each base d place ks ops (behind_copies d (place1 + length (copies_code xs s)) ks ops) c l w le fits sees called front (copies_on w0 xs is s d place1 ks ops c long tail) (λ e l1 w1. refl)

  -- all of them
  pub call_does : (f : ℕ) (xs : List ActualCode) (ms : List Supplied) → ((w0 : World) → A.EachPasses ask k code setting call default bound w0 xs ms) → Does ask k code bound (λ a. (call_code f xs).code a 0) (λ d caught. call_doing f ms K d caught)
  unfolding call_doing opened_outcome
  call_does f xs ms each a w0 d place ks ops c l w le fits sees has =
      let s = a.stack in
      let n = numbers_in xs in
      let base = over_numbers n s in
      let before = reserved_code n s in
      let lines = taking_actuals (InstrOf.Call f (length xs) (copies_of xs)) xs base in
      let behind = copies_code xs s in
      let h = seen sees in
      let long = sees.long in
      let over = depth_over n s in
      let seen_over : IsSeen w0 d base = (h.0, h.1, (omega (arith, long, over), λ entered. long ∙ sym over)) in
      let front = laid_front code place (before ++ lines) behind has in
      let place0 = place + length before in
      let place1 = place0 + length lines in
      let whole = length-append (before ++ lines) behind in
      let both_lines = length-append before lines in
      let start : place + length (before ++ lines) ≡ place1 = omega (arith, both_lines) in
      let end : place1 + length behind ≡ place + length (calls_code f xs s) = omega (arith, whole, both_lines) in
      let tail : Laid code place1 behind = subst (λ p. Laid code p behind) start (laid_back code place (before ++ lines) behind has) in
      let next = behind_copies d (place1 + length behind) ks ops in
      added ask code (Kept k code w0) 1 5 5 0 0 _ c (arrives (lands a place) d (place + length (calls_code f xs s)) ks ops) _ (omega arith) (omega arith)
      (subst (λ p. Runs ask code (Kept k code w0) 5 5 (at d place ks ops l w) c (arrives (lands a place) d p ks ops) (bind (bind (pass_each K d ms no_actuals c l w) (on_goes (call_with K d f))) (on_goes (λ _. nothing)))) end
      (both ask code (Told k code w0) (Kept k code w0) 5 5 0 0 5 5 _ c next (arrives (lands a place) d (place1 + length behind) ks ops) (bind (pass_each K d ms no_actuals c l w) (on_goes (call_with K d f))) (on_goes (λ _. nothing)) (omega arith) (omega arith) (omega arith)
      (reserved_runs w0 n 4 s d place ks ops next c l w _ (laid_front code place before lines front)
      (passed_runs f xs ms w0 (each w0) s base d place0 ks ops c l w le fits sees.long seen_over (laid_back code place before lines front) tail))
      (λ r c1 l1 w1 lo told. no_result w0 (lands a place) d (place1 + length behind) ks ops r c1 l1 w1 told)))
