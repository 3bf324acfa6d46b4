-- Statements under a condition (5.3).
use Rattle.std.proofs.Common.{◌≡◌, ℕ, ◌+◌, ◌≤◌, List, [], ◌∷◌, ◌++◌, length, Bool, true, false, refl, sym, ap, ◌∙◌, subst, arith, length-append}
use Rattle.std.specs.Prelude.{if◌then◌else◌}
use Rattle.ctl_program.specs.declared.types.Ty.TheVariants.{Boolean}
use Rattle.ctl_meaning.specs.World.{Log, World}
use Rattle.ctl_meaning.specs.Lists.{opened_lists}
use Rattle.ctl_meaning.specs.Choice.{Ask}
use Rattle.ctl_meaning.specs.Outcome.{ByRaise, Result, Goes, Leaves, Act, Done, on_goes, nothing, ticked, either, opened_outcome}
use Rattle.ctl_meaning.specs.Numbers.{is_true}
use Rattle.ctl_meaning.specs.Types.{Tables}
use Rattle.ctl_meaning.specs.Names.{scalar_of}
use Rattle.ctl_meaning.specs.Statements.{scalar}
use Rattle.ctl_code.specs.declared.code.Instr.TheVariants as InstrOf
use Rattle.ctl_code.specs.declared.code.Code.{Code}
use Rattle.ctl_code.specs.States.{Word, Frame, State}
use Rattle.ctl_code.specs.Steps.{step, steps}
use Rattle.ctl_code.specs.Table.{caught_in}
use Rattle.ctl_layout.specs.Around.{Line, Around, behind}
use Rattle.ctl_layout.specs.Values.{ValueCode, held}
use Rattle.ctl_layout.specs.Layout.{test_code, test_length}
use Rattle.ctl_gen.proofs.Place.{Laid, laid_front, laid_back}
use Rattle.ctl_gen.proofs.Worlds.{Since, Kept}
use Rattle.ctl_gen.proofs.Setting.{Sees}
use Rattle.ctl_gen.proofs.Expressions.{Value}
use Rattle.ctl_gen.proofs.Loops.{test_runs}
use Rattle.ctl_gen.proofs.Does.{Does, DoesIn}
use Rattle.ctl_gen.proofs.Follow.{Runs, Target, landing_further, leads, at, arrives, added, one_step, no_step, further, lands}

module _ (ask : Ask) (k : Tables) (code : Code) (bound : ℕ) where
  -- what leads from the end of an arm behind the whole, in two steps at most
  abbrev pub Ends : List ℕ → ℕ → ℕ → List Frame → List Word → Type 0
  Ends d place place1 ks ops = (l : Log) (w : World) → (i : ℕ) × (i ≤ 2) × (steps ask code i (at d place ks ops l w) ≡ at d place1 ks ops l w)

  -- a condition, and what it guards, where so many more instructions stand behind that
  abbrev pub arm_of : ValueCode → ℕ → (Around → List Line) → Around → List Line
  arm_of y more x a = test_code y a.stack (length (x (behind (test_length y a.stack) a)) + more) ++ x (behind (test_length y a.stack) a)

  -- an arm, or what stands behind it
  pub arm_runs : (b more : ℕ) → b ≤ 1 → (y : ValueCode) (test : List ℕ → Act (List ℕ)) → ((w0 : World) → Value ask k code bound w0 y test) → (x : Around → List Line) (act : List ℕ → ℕ → Act Done) → DoesIn b ask k code bound x act → (other : Act Done) (a : Around) (w0 : World) (d : List ℕ) (place place1 : ℕ) (ks : List Frame) (ops : List Word) (c : ℕ) (l : Log) (w : World) → c ≤ bound → Since k code w0 w → Sees d a.stack w0 → Laid code place (arm_of y more x a) → Ends d (place + length (arm_of y more x a)) place1 ks ops → ((c1 : ℕ) (l1 : Log) (w1 : World) → c1 ≤ c → Since k code w0 w1 → Runs ask code (Kept k code w0) 0 0 (at d (place + length (arm_of y more x a) + more) ks ops l1 w1) c1 (arrives (lands a place) d place1 ks ops) (other c1 l1 w1)) → Runs ask code (Kept k code w0) 0 0 (at d place ks ops l w) c (arrives (lands a place) d place1 ks ops) (scalar (test d) (λ b. either (is_true b) (act d (caught_in ks)) other) c l w)
  unfolding scalar opened_outcome scalar_of opened_lists
  arm_runs b more few y test value x act does other a w0 d place place1 ks ops c l w le fits sees has ends elses =
      test_runs ask k code bound (on_goes (λ u. either (is_true (scalar_of u)) (act d (caught_in ks)) other)) w0 y test (value w0) a.stack (length is + more) d place ks ops c l w (arrives e d place1 ks ops) le fits sees (laid_front code place (test_code y a.stack (length is + more)) is has)
      (λ m c1 l1 w1 s0 lo fits1 first going logged. by m c1 l1 w1 s0 lo fits1 (is_true m) refl first)
      (λ z c1 l1 w1 lo fits1. no_step ask code (Kept k code w0) 8 8 _ c1 0 (arrives e d place1 ks ops) (Leaves (ByRaise z)) l1 w1 fits1 refl)
    where
      is : List Line
      is = x (behind (test_length y a.stack) a)

      e : Target
      e = lands a place

      q : ℕ
      q = place + test_length y a.stack

      test_size : length (test_code y a.stack (length (x (behind (test_length y a.stack) a)) + more)) ≡ test_length y a.stack
      test_size = omega (arith, length-append (held y Boolean a.stack).code ((InstrOf.Unless (held y Boolean a.stack).cell (length (x (behind (test_length y a.stack) a)) + more), (held y Boolean a.stack).after) ∷ []))

      size : length (arm_of y more x a) ≡ test_length y a.stack + length (x (behind (test_length y a.stack) a))
      size = omega (arith, test_size, length-append (test_code y a.stack (length (x (behind (test_length y a.stack) a)) + more)) (x (behind (test_length y a.stack) a)))

      tail : Laid code (place + test_length y a.stack) (x (behind (test_length y a.stack) a))
      tail = subst (λ p. Laid code (place + p) is) test_size (laid_back code place (test_code y a.stack (length is + more)) is has)

      far : q + length is ≡ place + length (arm_of y more x a)
      far = omega (arith, size)

      over : (r : Result Done) (l1 : Log) (w1 : World) → (i : ℕ) × (i ≤ 2) × (steps ask code i (arrives (lands (behind (test_length y a.stack) a) q) d (q + length is) ks ops r l1 w1) ≡ arrives e d place1 ks ops r l1 w1)
      over (Goes z) l1 w1 = let v = ends l1 w1 in (v.0, v.1, ap (λ p. steps ask code v.0 (at d p ks ops l1 w1)) far ∙ v.2)
      over (Leaves v) l1 w1 = (0, omega arith, ap (λ z. leads z v d ks ops l1 w1) (landing_further a.landing (test_length y a.stack) place))

      by : (m c1 : ℕ) (l1 : Log) (w1 : World) (s0 : State) → c1 ≤ c → Since k code w0 w1 → (t : Bool) → is_true m ≡ t → step ask code s0 ≡ at d (place + test_length y a.stack + (if is_true m then 0 else length (x (behind (test_length y a.stack) a)) + more)) ks ops l1 w1 → Runs ask code (Kept k code w0) 8 8 s0 c1 (arrives (lands a place) d place1 ks ops) (either (is_true m) (act d (caught_in ks)) other c1 l1 w1)
      by m c1 l1 w1 s0 lo fits1 true t first =
          let e0 : q + 0 ≡ q = omega arith in
          subst (λ z. Runs ask code (Kept k code w0) 8 8 s0 c1 (arrives e d place1 ks ops) (either z (act d (caught_in ks)) other c1 l1 w1)) (sym t)
          (one_step ask code (Kept k code w0) 3 1 8 8 s0 (at d q ks ops l1 w1) c1 c1 (arrives e d place1 ks ops) (act d (caught_in ks) c1 l1 w1) (omega arith) (omega arith) (omega arith) (omega arith) (first ∙ ap (λ z. at d (q + (if z then 0 else length is + more)) ks ops l1 w1) t ∙ ap (λ p. at d p ks ops l1 w1) e0)
          (further ask code (Kept k code w0) b b 3 1 2 (at d q ks ops l1 w1) c1 (arrives (lands (behind (test_length y a.stack) a) q) d (q + length is) ks ops) (arrives e d place1 ks ops) (act d (caught_in ks) c1 l1 w1) (omega (arith, few)) (omega (arith, few)) (does (behind (test_length y a.stack) a) w0 d q ks ops c1 l1 w1 (omega (arith, lo, le)) fits1 sees tail) over))
      by m c1 l1 w1 s0 lo fits1 false t first =
          let e1 : q + (length is + more) ≡ place + length (arm_of y more x a) + more = omega (arith, size) in
          subst (λ z. Runs ask code (Kept k code w0) 8 8 s0 c1 (arrives e d place1 ks ops) (either z (act d (caught_in ks)) other c1 l1 w1)) (sym t)
          (one_step ask code (Kept k code w0) 0 0 8 8 s0 (at d (place + length (arm_of y more x a) + more) ks ops l1 w1) c1 c1 (arrives e d place1 ks ops) (other c1 l1 w1) (omega arith) (omega arith) (omega arith) (omega arith) (first ∙ ap (λ z. at d (q + (if z then 0 else length is + more)) ks ops l1 w1) t ∙ ap (λ p. at d p ks ops l1 w1) e1) (elses c1 l1 w1 lo fits1))

  -- a tick pays for a few steps more
  pub paid : (x : Around → List Line) (act : List ℕ → ℕ → Act Done) → DoesIn 1 ask k code bound x act → Does ask k code bound x (λ d caught. ticked (act d caught))
  unfolding opened_outcome
  paid x act does a w0 d place ks ops c l w le fits sees has = added ask code (Kept k code w0) 1 1 1 0 0 _ c _ _ (omega arith) (omega arith) (does a w0 d place ks ops c l w le fits sees has)

  -- a statement that is passed over where a condition does not hold
  pub only_if_runs : (y : ValueCode) (test : List ℕ → Act (List ℕ)) → ((w0 : World) → Value ask k code bound w0 y test) → (x : Around → List Line) (act : List ℕ → ℕ → Act Done) → DoesIn 1 ask k code bound x act → Does ask k code bound (arm_of y 0 x) (λ d caught. ticked (scalar (test d) (λ b. either (is_true b) (act d caught) nothing)))
  unfolding opened_outcome
  only_if_runs y test value x act does a w0 d place ks ops c l w le fits sees has =
      let end = place + length (arm_of y 0 x a) in
      let same : end + 0 ≡ end = omega arith in
      added ask code (Kept k code w0) 1 0 0 0 0 _ c _ _ (omega arith) (omega arith)
      (arm_runs 1 0 (omega arith) y test value x act does nothing a w0 d place end ks ops c l w le fits sees has
      (λ l1 w1. (0, omega arith, refl))
      (λ c1 l1 w1 lo fits1. no_step ask code (Kept k code w0) 0 0 _ c1 0 (arrives (lands a place) d end ks ops) (Goes tt) l1 w1 fits1 (ap (λ p. at d p ks ops l1 w1) same)))
