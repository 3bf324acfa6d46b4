-- Loops (5.5, 5.7): each turn takes one from the clock when its statements begin. Control that leaves a loop lands before the first turn,
-- and that leads behind the loop.
use Rattle.std.proofs.Common.{◌≡◌, ℕ, zero, suc, ◌+◌, ◌-◌, ◌≤◌, List, [], ◌∷◌, ◌++◌, length, Some, Bool, true, false, refl, sym, ap, ◌∙◌, subst, arith, length-append, inl}
use Rattle.std.specs.Prelude.{slice_get, if◌then◌else◌}
use Rattle.ctl_program.specs.declared.types.Ty.TheVariants.{Boolean}
use Rattle.ctl_meaning.specs.World.{Log, World}
use Rattle.ctl_meaning.specs.Lists.{opened_lists}
use Rattle.ctl_meaning.specs.Choice.{Ask}
use Rattle.ctl_meaning.specs.Outcome.{completes_loop, Gives, Way, ByReturn, ByRaise, Result, Goes, Leaves, Act, Done, add, bind, on_goes, done, ticked, either, opened_outcome}
use Rattle.ctl_meaning.specs.Numbers.{is_true}
use Rattle.ctl_meaning.specs.Types.{Tables}
use Rattle.ctl_meaning.specs.Names.{scalar_of}
use Rattle.ctl_meaning.specs.Statements.{leaving, turned, turns, loop, one_turn, while}
use Rattle.ctl_code.specs.declared.code.Instr.TheVariants as InstrOf
use Rattle.ctl_code.specs.declared.code.Code.{Code}
use Rattle.ctl_code.specs.declared.kinds.Kind.{Kind}
use Rattle.ctl_code.specs.States.{Word, Frame, State}
use Rattle.ctl_code.specs.Table.{by_unless, caught_in}
use Rattle.ctl_code.specs.Steps.{moved, step}
use Rattle.ctl_layout.specs.Around.{Line, Landing, OutOfMaster, BeforeLoop, Around, behind, land}
use Rattle.ctl_layout.specs.Values.{ValueCode, held}
use Rattle.ctl_layout.specs.Layout.{in_loop, loop_code, test_code, test_length}
use Rattle.ctl_gen.proofs.Place.{Laid, laid_front, laid_back}
use Rattle.ctl_gen.proofs.Worlds.{Since, Kept}
use Rattle.ctl_gen.proofs.Setting.{Sees, seen}
use Rattle.ctl_gen.proofs.Cells.{here, by_code, waiting, Stays, taking_is}
use Rattle.ctl_gen.proofs.Expressions.{Value, held_holds, held_then}
use Rattle.ctl_gen.proofs.Does.{Does}
use Rattle.ctl_gen.proofs.Follow.{IsGoing, Runs, Target, On, target_of, landed_on, at, transferred, arrives, added, within, one_step, last_step, no_step, both, arriving, left_behind, bind_add, bind_bind, lands}

module _ (ask : Ask) (k : Tables) (code : Code) (bound : ℕ) where
  -- a turn, from the step that begins it, and what follows
  pub turn_runs : (m : Act Done) (f : Result Bool → Act Done) (w0 : World) (mid next : Result Done → Log → World → State) (s0 s1 : State) (c : ℕ) (l : Log) (w : World) → step ask code s0 ≡ s1 → IsGoing s0 → s0.log ≡ l → ((c1 : ℕ) → c1 + 1 ≤ c → Runs ask code (Kept k code w0) 0 0 s1 c1 mid (m c1 l w)) → ((c1 : ℕ) (l1 : Log) (w2 : World) → c1 + 1 ≤ c → Since k code w0 w2 → Runs ask code (Kept k code w0) 4 4 (mid (Goes tt) l1 w2) c1 next (f (Goes true) c1 l1 w2)) → ((y : Way) (c1 : ℕ) (l1 : Log) (w2 : World) → c1 + 1 ≤ c → Since k code w0 w2 → Runs ask code (Kept k code w0) 4 4 (mid (Leaves y) l1 w2) c1 next (f (Leaves y) c1 l1 w2)) → Runs ask code (Kept k code w0) 0 2 s0 c next (bind (one_turn m c l w) f)
  unfolding one_turn opened_outcome
  turn_runs m f w0 mid next s0 s1 zero l w first going logged body again leave = record { n = 0; in_time = omega arith; logged = logged; going = going; why = inl (omega arith) }
  turn_runs m f w0 mid next s0 s1 (suc c) l w first going logged body again leave =
      subst (λ o. Runs ask code (Kept k code w0) 0 2 s0 (suc c) next o) (sym (bind_add 1 (bind (m c l w) (on_goes (λ _. done true))) f ∙ ap (add 1) (bind_bind (m c l w) (on_goes (λ _. done true)) f)))
      (added ask code (Kept k code w0) 1 5 5 0 2 s0 (suc c) next _ (omega arith) (omega arith)
      (one_step ask code (Kept k code w0) 4 4 5 5 s0 s1 (suc c) c next _ (omega arith) (omega arith) (omega arith) (omega arith) first
      (both ask code (Kept k code w0) (Kept k code w0) 0 0 4 4 4 4 s1 c mid next (m c l w) _ (omega arith) (omega arith) (omega arith) (body c (omega arith)) on)))
    where
      on : (r : Result Done) (c1 : ℕ) (l1 : Log) (w2 : World) → c1 ≤ c → Since k code w0 w2 → Runs ask code (Kept k code w0) 4 4 (mid r l1 w2) c1 next (bind (on_goes (λ _. done true) r c1 l1 w2) f)
      on (Goes a) c1 l1 w2 lo fits = added ask code (Kept k code w0) 0 4 4 4 4 _ c1 next _ (omega arith) (omega arith) (again c1 l1 w2 (omega (arith, lo)) fits)
      on (Leaves y) c1 l1 w2 lo fits = added ask code (Kept k code w0) 0 4 4 4 4 _ c1 next _ (omega arith) (omega arith) (leave y c1 l1 w2 (omega (arith, lo)) fits)

  -- a landing leads behind its loop
  abbrev pub Lands : List ℕ → ℕ → List Frame → List Word → ℕ → List Word → Type 0
  Lands d landing ks over place ops = (l : Log) (w : World) → step ask code (at d landing ks over l w) ≡ at d place ks ops l w

  -- a loop is left
  pub loop_ends : (e : Target) (d : List ℕ) (landing q place : ℕ) (ks : List Frame) (over ops : List Word) (w0 : World) (again : Act Done) → Lands d landing ks over place ops → (y : Way) (c : ℕ) (l : Log) (w : World) → Since k code w0 w → Runs ask code (Kept k code w0) 4 4 (arrives (On landing) d q ks over (Leaves y) l w) c (arrives e d place ks ops) (turned again (Leaves y) c l w)
  unfolding turned opened_outcome
  loop_ends e d landing q place ks over ops w0 again lands y c l w fits = by (completes_loop y) refl
    where
      by : (b : Bool) → completes_loop y ≡ b → Runs ask code (Kept k code w0) 4 4 (if b then at d landing ks over l w else transferred y ks l w) c (arrives e d place ks ops) (Gives (if b then Goes tt else Leaves y) 0 c l w)
      by true is = last_step ask code (Kept k code w0) 4 4 _ c 0 (arrives e d place ks ops) (Goes tt) l w (omega arith) fits (lands l w)
      by false is = no_step ask code (Kept k code w0) 4 4 _ c 0 (arrives e d place ks ops) (Leaves y) l w fits (sym (ap (λ b. if b then landed_on e y d ks ops l w else transferred y ks l w) is))

  -- Without an iteration scheme ---------------------------------------------------------------------

  -- the turns of a loop, from the step that begins one of them
  turns_run : (x : Around → List Line) (act : List ℕ → ℕ → Act Done) → Does ask k code bound x act → (s : List Kind) (n : ℕ) (e : Target) (w0 : World) (d : List ℕ) (start place : ℕ) (ks : List Frame) (ops : List Word) (c : ℕ) (l : Log) (w : World) (s0 : State) → c ≤ n → c ≤ bound → Since k code w0 w → Sees d s w0 → Laid code start (x (in_loop s) ++ (InstrOf.Back (length (x (in_loop s))), s) ∷ []) → Lands d (start - 1) ks ops place ops → step ask code s0 ≡ at d start ks ops l w → IsGoing s0 → s0.log ≡ l → Runs ask code (Kept k code w0) 1 2 s0 c (arrives e d place ks ops) (turns n (one_turn (act d (caught_in ks))) c l w)
  unfolding turns turned opened_outcome
  turns_run x act does s zero e w0 d start place ks ops c l w s0 fuel le fits sees has lands first going logged = record { n = 0; in_time = omega arith; logged = logged; going = going; why = inl (omega (arith, fuel)) }
  turns_run x act does s (suc n) e w0 d start place ks ops c l w s0 fuel le fits sees has lands first going logged =
      within ask code (Kept k code w0) 0 2 1 2 s0 c (arrives e d place ks ops) _ (omega arith) (omega arith)
      (turn_runs (act d (caught_in ks)) (turned (turns n (one_turn (act d (caught_in ks))))) w0 (arrives (On (start - 1)) d (start + length b) ks ops) (arrives e d place ks ops) s0 (at d start ks ops l w) c l w first going logged
      (λ c1 lo. does (in_loop s) w0 d start ks ops c1 l w (omega (arith, lo, le)) fits sees (laid_front code start b ((InstrOf.Back (length b), s) ∷ []) has))
      (λ c1 l1 w2 lo fits1. within ask code (Kept k code w0) 1 2 4 4 _ c1 (arrives e d place ks ops) _ (omega arith) (omega arith) (turns_run x act does s n e w0 d start place ks ops c1 l1 w2 (at d (start + length b) ks ops l1 w2) (omega (arith, lo, fuel)) (omega (arith, lo, le)) fits1 sees has lands (back l1 w2) tt refl))
      (λ y c1 l1 w2 lo fits1. loop_ends e d (start - 1) (start + length b) place ks ops ops w0 (turns n (one_turn (act d (caught_in ks)))) lands y c1 l1 w2 fits1))
    where
      b : List Line
      b = x (in_loop s)

      back : (l1 : Log) (w2 : World) → step ask code (at d (start + length (x (in_loop s))) ks ops l1 w2) ≡ at d start ks ops l1 w2
      back l1 w2 =
          let e1 : start + length b - length b ≡ start = omega arith in
          by_code ask code d (start + length b) ks ops l1 w2 (InstrOf.Back (length b)) (laid_back code start b ((InstrOf.Back (length b), s) ∷ []) has).0 ∙ ap (λ p. at d p ks ops l1 w2) e1

  pub loop_runs : (x : Around → List Line) (act : List ℕ → ℕ → Act Done) → Does ask k code bound x act → Does ask k code bound (λ a. loop_code (x (in_loop a.stack)) a.stack) (λ d caught. ticked (leaving (loop (one_turn (act d caught)))))
  unfolding leaving loop opened_outcome
  loop_runs x act does a w0 d place ks ops c l w le fits sees has =
      let s = a.stack in
      let b = x (in_loop s) in
      let far : place + 1 + 1 + (length b + 1) ≡ place + length (loop_code b s) = omega (arith, length-append b ((InstrOf.Back (length b), s) ∷ [])) in
      let landing : place + 1 ≡ place + 1 + 1 - 1 = omega arith in
      arriving ask code (Kept k code w0) 0 0 _ c _ _ _ (λ r l1 w1. ap (λ p. arrives (lands a place) d p ks ops r l1 w1) far)
      (added ask code (Kept k code w0) 1 1 2 0 0 _ c _ _ (omega arith) (omega arith)
      (left_behind ask code (Kept k code w0) 1 2 1 2 _ c (arrives (lands a place) d (place + 1 + 1 + (length b + 1)) ks ops) _ (omega arith) (omega arith)
      (turns_run x act does s (suc c) (lands a place) w0 d (place + 1 + 1) (place + 1 + 1 + (length b + 1)) ks ops c l w (at d place ks ops l w) (omega arith) le fits sees has.2.2
      (λ l1 w1. subst (λ p. step ask code (at d p ks ops l1 w1) ≡ at d (place + 1 + 1 + (length b + 1)) ks ops l1 w1) landing (by_code ask code d (place + 1) ks ops l1 w1 (InstrOf.Skip (length b + 1)) has.2.0))
      (by_code ask code d place ks ops l w (InstrOf.Skip 1) has.0) tt refl)))

  -- Conditions --------------------------------------------------------------------------------------

  -- a condition, from where it begins: what it guards, or behind it and so many instructions
  pub test_runs : (f : Result (List ℕ) → Act Done) (w0 : World) (y : ValueCode) (test : List ℕ → Act (List ℕ)) → Value ask k code bound w0 y test → (s : List Kind) (size : ℕ) (d : List ℕ) (place : ℕ) (ks : List Frame) (ops : List Word) (c : ℕ) (l : Log) (w : World) (next : Result Done → Log → World → State) → c ≤ bound → Since k code w0 w → Sees d s w0 → Laid code place (test_code y s size) → ((m c1 : ℕ) (l1 : Log) (w1 : World) (s0 : State) → c1 ≤ c → Since k code w0 w1 → step ask code s0 ≡ at d (place + test_length y s + (if is_true m then 0 else size)) ks ops l1 w1 → IsGoing s0 → s0.log ≡ l1 → Runs ask code (Kept k code w0) 8 8 s0 c1 next (f (Goes (m ∷ [])) c1 l1 w1)) → ((x c1 : ℕ) (l1 : Log) (w1 : World) → c1 ≤ c → Since k code w0 w1 → Runs ask code (Kept k code w0) 8 8 (transferred (ByRaise x) ks l1 w1) c1 next (f (Leaves (ByRaise x)) c1 l1 w1)) → Runs ask code (Kept k code w0) 0 0 (at d place ks ops l w) c next (bind (test d c l w) f)
  test_runs f w0 y test value s size d place ks ops c l w next le fits sees has goes leaves =
      let h = held y Boolean s in
      let i = InstrOf.Unless h.cell size in
      let there = (laid_back code place h.code ((i, h.after) ∷ []) has).0 in
      held_then ask k code bound w0 (λ r. Since k code w0) h (λ n w1. Stays h.cell.named n d w1) test d place ks ops c l w next f
      (held_holds ask k code bound w0 y.right y test refl value Boolean s d place ks ops c l w le fits (seen sees) (laid_front code place h.code ((i, h.after) ∷ []) has))
      (λ m c1 l1 w1 lo fits1 stays. goes m c1 l1 w1 (at d (place + length h.code) ks (waiting h.cell.named m ops) l1 w1) lo fits1 (unless m l1 w1 stays there) tt refl)
      (λ x c1 l1 w1 lo fits1. leaves x c1 l1 w1 lo fits1)
    where
      unless : (m : ℕ) (l1 : Log) (w1 : World) → Stays (held y Boolean s).cell.named m d w1 → slice_get code.instructions.items (place + length (held y Boolean s).code) ≡ Some (InstrOf.Unless (held y Boolean s).cell size) → step ask code (at d (place + length (held y Boolean s).code) ks (waiting (held y Boolean s).cell.named m ops) l1 w1) ≡ at d (place + test_length y s + (if is_true m then 0 else size)) ks ops l1 w1
      unless m l1 w1 stays there =
          let h = held y Boolean s in
          let e : place + length h.code + 1 + (if is_true m then 0 else size) ≡ place + test_length y s + (if is_true m then 0 else size) = omega arith in
          by_code ask code d (place + length h.code) ks (waiting h.cell.named m ops) l1 w1 (InstrOf.Unless h.cell size) there
          ∙ ap (moved l1) (taking_is h.cell.named m (λ x rest. by_unless size x rest (here d (place + length h.code) ks w1)) ops d (place + length h.code) ks w1 stays)
          ∙ ap (λ p. at d p ks ops l1 w1) e

  -- While a condition holds -------------------------------------------------------------------------

  -- what a test leads to
  abbrev tested : Act Done → List ℕ → Act Bool
  tested body u = either (is_true (scalar_of u)) (one_turn body) (done false)

  -- a turn with its test, and the instruction that leads back
  abbrev turn_of : ValueCode → (Around → List Line) → List Kind → List Line
  turn_of y x s = test_code y s (length (x (behind (test_length y s) (in_loop s))) + 1) ++ x (behind (test_length y s) (in_loop s))

  whiles_run : (y : ValueCode) (test : List ℕ → Act (List ℕ)) → ((w0 : World) → Value ask k code bound w0 y test) → (x : Around → List Line) (act : List ℕ → ℕ → Act Done) → Does ask k code bound x act → (s : List Kind) (n : ℕ) (e : Target) (w0 : World) (d : List ℕ) (start place : ℕ) (ks : List Frame) (ops : List Word) (c : ℕ) (l : Log) (w : World) → c ≤ n → c ≤ bound → Since k code w0 w → Sees d s w0 → Laid code start (turn_of y x s ++ (InstrOf.Back (length (turn_of y x s)), s) ∷ []) → Lands d (start - 1) ks ops place ops → start + length (turn_of y x s) + 1 ≡ place → Runs ask code (Kept k code w0) 0 2 (at d start ks ops l w) c (arrives e d place ks ops) (turns n (while (test d) (act d (caught_in ks))) c l w)
  unfolding turns while turned opened_outcome scalar_of opened_lists
  whiles_run y test value x act does s zero e w0 d start place ks ops c l w fuel le fits sees has lands far = record { n = 0; in_time = omega arith; logged = refl; going = tt; why = inl (omega (arith, fuel)) }
  whiles_run y test value x act does s (suc n) e w0 d start place ks ops c l w fuel le fits sees has lands far =
      subst (λ o. Runs ask code (Kept k code w0) 0 2 (at d start ks ops l w) c (arrives e d place ks ops) o) (sym (bind_bind (test d c l w) (on_goes (tested (act d (caught_in ks)))) (turned again)))
      (within ask code (Kept k code w0) 0 0 0 2 _ c _ _ (omega arith) (omega arith)
      (test_runs (λ r c1 l1 w1. bind (on_goes (tested (act d (caught_in ks))) r c1 l1 w1) (turned again)) w0 y test (value w0) s (length b + 1) d start ks ops c l w (arrives e d place ks ops) le fits sees (laid_front code start (test_code y s (length b + 1)) b inside)
      (λ m c1 l1 w1 s0 lo fits1 first going logged. by m c1 l1 w1 s0 lo fits1 going logged (λ c2 l2 w2 lo2 fits2. whiles_run y test value x act does s n e w0 d start place ks ops c2 l2 w2 (omega (arith, lo, lo2, fuel)) (omega (arith, lo, lo2, le)) fits2 sees has lands far) (is_true m) refl first)
      (λ z c1 l1 w1 lo fits1. no_step ask code (Kept k code w0) 8 8 (transferred (ByRaise z) ks l1 w1) c1 0 (arrives e d place ks ops) (Leaves (ByRaise z)) l1 w1 fits1 refl)))
    where
      b : List Line
      b = x (behind (test_length y s) (in_loop s))

      again : Act Done
      again = turns n (while (test d) (act d (caught_in ks)))

      q : ℕ
      q = start + test_length y s

      inside : Laid code start (turn_of y x s)
      inside = laid_front code start (turn_of y x s) ((InstrOf.Back (length (turn_of y x s)), s) ∷ []) has

      test_size : length (test_code y s (length (x (behind (test_length y s) (in_loop s))) + 1)) ≡ test_length y s
      test_size = omega (arith, length-append (held y Boolean s).code ((InstrOf.Unless (held y Boolean s).cell (length (x (behind (test_length y s) (in_loop s))) + 1), (held y Boolean s).after) ∷ []))

      size : length (turn_of y x s) ≡ test_length y s + length (x (behind (test_length y s) (in_loop s)))
      size = omega (arith, test_size, length-append (test_code y s (length (x (behind (test_length y s) (in_loop s))) + 1)) (x (behind (test_length y s) (in_loop s))))

      tail : Laid code (start + test_length y s) (x (behind (test_length y s) (in_loop s)))
      tail = subst (λ p. Laid code (start + p) b) test_size (laid_back code start (test_code y s (length b + 1)) b inside)

      back : (l1 : Log) (w2 : World) → step ask code (at d (start + test_length y s + length (x (behind (test_length y s) (in_loop s)))) ks ops l1 w2) ≡ at d start ks ops l1 w2
      back l1 w2 =
          let e1 : start + length (turn_of y x s) ≡ q + length b = omega (arith, size) in
          let e2 : start + length (turn_of y x s) - length (turn_of y x s) ≡ start = omega arith in
          subst (λ p. step ask code (at d p ks ops l1 w2) ≡ at d start ks ops l1 w2) e1
          (by_code ask code d (start + length (turn_of y x s)) ks ops l1 w2 (InstrOf.Back (length (turn_of y x s))) (laid_back code start (turn_of y x s) ((InstrOf.Back (length (turn_of y x s)), s) ∷ []) has).0 ∙ ap (λ p. at d p ks ops l1 w2) e2)

      landing : start + test_length y s - (1 + test_length y s) ≡ start - 1
      landing = omega arith

      by : (m c1 : ℕ) (l1 : Log) (w1 : World) (s0 : State) → c1 ≤ c → Since k code w0 w1 → IsGoing s0 → s0.log ≡ l1 → ((c2 : ℕ) (l2 : Log) (w2 : World) → c2 + 1 ≤ c1 → Since k code w0 w2 → Runs ask code (Kept k code w0) 0 2 (at d start ks ops l2 w2) c2 (arrives e d place ks ops) (turns n (while (test d) (act d (caught_in ks))) c2 l2 w2)) → (t : Bool) → is_true m ≡ t → step ask code s0 ≡ at d (start + test_length y s + (if is_true m then 0 else length (x (behind (test_length y s) (in_loop s))) + 1)) ks ops l1 w1 → Runs ask code (Kept k code w0) 8 8 s0 c1 (arrives e d place ks ops) (bind (either (is_true m) (one_turn (act d (caught_in ks))) (done false) c1 l1 w1) (turned again))
      by m c1 l1 w1 s0 lo fits1 going logged more true t first =
          let e0 : q + 0 ≡ q = omega arith in
          subst (λ z. Runs ask code (Kept k code w0) 8 8 s0 c1 (arrives e d place ks ops) (bind (either z (one_turn (act d (caught_in ks))) (done false) c1 l1 w1) (turned again))) (sym t)
          (within ask code (Kept k code w0) 0 2 8 8 s0 c1 (arrives e d place ks ops) (bind (one_turn (act d (caught_in ks)) c1 l1 w1) (turned (turns n (while (test d) (act d (caught_in ks)))))) (omega arith) (omega arith)
          (turn_runs (act d (caught_in ks)) (turned again) w0 (arrives (On (start - 1)) d (q + length b) ks ops) (arrives e d place ks ops) s0 (at d q ks ops l1 w1) c1 l1 w1 (first ∙ ap (λ z. at d (q + (if z then 0 else length b + 1)) ks ops l1 w1) t ∙ ap (λ p. at d p ks ops l1 w1) e0) going logged
          (λ c2 lo2. subst (λ p. Runs ask code (Kept k code w0) 0 0 (at d q ks ops l1 w1) c2 (arrives (On p) d (q + length b) ks ops) (act d (caught_in ks) c2 l1 w1)) landing (does (behind (test_length y s) (in_loop s)) w0 d q ks ops c2 l1 w1 (omega (arith, lo, lo2, le)) fits1 sees tail))
          (λ c2 l2 w2 lo2 fits2. one_step ask code (Kept k code w0) 0 2 4 4 (at d (q + length b) ks ops l2 w2) (at d start ks ops l2 w2) c2 c2 (arrives e d place ks ops) (turns n (while (test d) (act d (caught_in ks))) c2 l2 w2) (omega arith) (omega arith) (omega arith) (omega arith) (back l2 w2) (more c2 l2 w2 lo2 fits2))
          (λ z c2 l2 w2 lo2 fits2. loop_ends e d (start - 1) (q + length b) place ks ops ops w0 again lands z c2 l2 w2 fits2)))
      by m c1 l1 w1 s0 lo fits1 going logged more false t first =
          let e1 : q + (length b + 1) ≡ place = omega (arith, far, size) in
          subst (λ z. Runs ask code (Kept k code w0) 8 8 s0 c1 (arrives e d place ks ops) (bind (either z (one_turn (act d (caught_in ks))) (done false) c1 l1 w1) (turned again))) (sym t)
          (last_step ask code (Kept k code w0) 8 8 s0 c1 0 (arrives e d place ks ops) (Goes tt) l1 w1 (omega arith) fits1 (first ∙ ap (λ z. at d (q + (if z then 0 else length b + 1)) ks ops l1 w1) t ∙ ap (λ p. at d p ks ops l1 w1) e1))

  -- the turns of such a loop are those of one without a scheme, and a test
  pub while_runs : (y : ValueCode) (test : List ℕ → Act (List ℕ)) → ((w0 : World) → Value ask k code bound w0 y test) → (x : Around → List Line) (act : List ℕ → ℕ → Act Done) → Does ask k code bound x act → Does ask k code bound (λ a. loop_code (turn_of y x a.stack) a.stack) (λ d caught. ticked (leaving (loop (while (test d) (act d caught)))))
  unfolding leaving loop opened_outcome
  while_runs y test value x act does a w0 d place ks ops c l w le fits sees has =
      let s = a.stack in
      let b = turn_of y x s in
      let far : place + 1 + 1 + length b + 1 ≡ place + length (loop_code b s) = omega (arith, length-append b ((InstrOf.Back (length b), s) ∷ [])) in
      let landing : place + 1 ≡ place + 1 + 1 - 1 = omega arith in
      let skipped : place + 1 + 1 + (length b + 1) ≡ place + 1 + 1 + length b + 1 = omega arith in
      arriving ask code (Kept k code w0) 0 0 _ c _ _ _ (λ r l1 w1. ap (λ p. arrives (lands a place) d p ks ops r l1 w1) far)
      (added ask code (Kept k code w0) 1 2 3 0 0 _ c _ _ (omega arith) (omega arith)
      (left_behind ask code (Kept k code w0) 1 3 2 3 _ c (arrives (lands a place) d (place + 1 + 1 + length b + 1) ks ops) _ (omega arith) (omega arith)
      (one_step ask code (Kept k code w0) 0 2 1 3 _ _ c c _ _ (omega arith) (omega arith) (omega arith) (omega arith) (by_code ask code d place ks ops l w (InstrOf.Skip 1) has.0)
      (whiles_run y test value x act does s (suc c) (lands a place) w0 d (place + 1 + 1) (place + 1 + 1 + length b + 1) ks ops c l w (omega arith) le fits sees has.2.2
      (λ l1 w1. subst (λ p. step ask code (at d p ks ops l1 w1) ≡ at d (place + 1 + 1 + length b + 1) ks ops l1 w1) landing (by_code ask code d (place + 1) ks ops l1 w1 (InstrOf.Skip (length b + 1)) has.2.0 ∙ ap (λ p. at d p ks ops l1 w1) skipped))
      refl))))

  -- Departures ---------------------------------------------------------------------------------------

  -- the instruction that leads to a landing, as what completes a loop does
  pub leave_step : (x : Landing) (y : Way) → completes_loop y ≡ true → (d : List ℕ) (place : ℕ) (ks : List Frame) (ops : List Word) (l : Log) (w : World) → slice_get code.instructions.items place ≡ Some (land x) → step ask code (at d place ks ops l w) ≡ landed_on (target_of x place) y d ks ops l w
  leave_step OutOfMaster (ByReturn cells) completes d place ks ops l w has = absurd (cc)
  leave_step OutOfMaster (ByRaise e) completes d place ks ops l w has = absurd (cc)
  leave_step OutOfMaster y completes d place ks ops l w has = by_code ask code d place ks ops l w (land OutOfMaster) has
  leave_step (BeforeLoop back) y completes d place ks ops l w has = by_code ask code d place ks ops l w (land (BeforeLoop back)) has
