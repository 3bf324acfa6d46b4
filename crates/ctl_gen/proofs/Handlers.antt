-- Handlers (11.2, 11.4): an exception of the statements of a master goes to its handlers, which look at their choices one after another.
-- The first that handles it does its statements, and the end of the master follows; where none does, the exception is raised again.
use Rattle.std.proofs.Common.{◌≡◌, ℕ, ◌+◌, ◌-◌, ◌≤◌, List, [], ◌∷◌, length, Option, Some, None, Bool, true, false, refl, sym, ap, ◌∙◌, arith, subst, length-append}
use Rattle.std.specs.Prelude.{slice_get, ◌||◌, ◌&&◌, nat_eq, if◌then◌else◌}
use Rattle.ctl_program.specs.declared.statement.Choices.{Choices}
use Rattle.ctl_program.specs.declared.statement.Choices.TheVariants.{Others, Exceptions}
use Rattle.ctl_meaning.specs.World.{Log, World}
use Rattle.ctl_meaning.specs.Lists.{contains, last_of}
use Rattle.ctl_meaning.specs.Changes.{opened_changes}
use Rattle.ctl_meaning.specs.Choice.{Ask, picked}
use Rattle.ctl_meaning.specs.Outcome.{raised_by, leave_by, on_some, raise, Way, ByRaise, Result, Goes, Leaves, Out, Act, Done, add, bind, either, opened_outcome}
use Rattle.ctl_meaning.specs.Types.{Tables}
use Rattle.ctl_meaning.specs.Names.{Default, Tools}
use Rattle.ctl_meaning.specs.Names as Names
use Rattle.ctl_meaning.specs.Masters.{leave}
use Rattle.ctl_meaning.specs.Statements.{Doing, Guarding, choices_looked_at, do_each, do_first, does_handle, handle, handled as handles, handler, looked_at}
use Rattle.ctl_code.specs.declared.code.Instr.TheVariants as InstrOf
use Rattle.ctl_code.specs.declared.code.Code.{Code}
use Rattle.ctl_code.specs.declared.kinds.Kind.{Kind}
use Rattle.ctl_code.specs.States.{Frame, InMaster}
use Rattle.ctl_code.specs.Table.{caught_in}
use Rattle.ctl_code.specs.Steps.{step, steps}
use Rattle.ctl_layout.specs.Around.{Line, among}
use Rattle.ctl_layout.specs.Layout.{HandlerCode, StatementCode, all, catches_code, handled, handler_lines, handlers_code, handlers_run, handlers_texts, has_choice}
use Rattle.ctl_gen.proofs.Known.{both_true}
use Rattle.ctl_gen.proofs.Place.{HasAt, has_front, has_back, Laid, laid_front, laid_back}
use Rattle.ctl_gen.proofs.Collections.{home}
use Rattle.ctl_gen.proofs.Worlds.{Since, Kept}
use Rattle.ctl_gen.proofs.Setting.{Setting, tools_with, Sees, Told, Calls}
use Rattle.ctl_gen.proofs.Given.{GivesEach}
use Rattle.ctl_gen.proofs.Cells.{by_code}
use Rattle.ctl_gen.proofs.Branches.{Ends}
use Rattle.ctl_gen.proofs.Does.{IsRunIn, both_run}
use Rattle.ctl_gen.proofs.Leave.{ends_out, in_frame, leaves, left_after, left_runs, passes_out, steps_out}
use Rattle.ctl_gen.proofs.Statements.{inside_master}
use Rattle.ctl_gen.proofs.Statements as S
use Rattle.ctl_gen.proofs.Follow.{raised_is, leads_out, Comes, Runs, OutOf, at, transferred, arrives, add_add, add_none, added, after_comes, after_paid, bind_add, bind_bind, both, both_from, end_step, further, steps_add, then_step, within}

-- a handler looks at one choice at least
one_looked_at : (e x : ℕ) (es : List ℕ) → (i : ℕ) × (looked_at e (x ∷ es) ≡ 1 + i)
unfolding looked_at
one_looked_at e x es = by (nat_eq e x)
  where
    by : (b : Bool) → (i : ℕ) × ((if b then 1 else 1 + looked_at e es) ≡ 1 + i)
    by true = (0, refl)
    by false = (looked_at e es, refl)

module _ (ask : Ask) (code : Code) where
  -- the exceptions that a handler names are looked at: a step each, and one more where none of them is meant, which passes over the handler
  looks : (es : List ℕ) (size : ℕ) (s : List Kind) (d : List ℕ) (place : ℕ) (ks : List Frame) (l : Log) (w : World) → Laid code place (catches_code es size s)
      → (n : ℕ) × (n ≤ looked_at (caught_in ks) es + 1) × (steps ask code n (at d place ks [] l w) ≡ at d (place + (length es + 1) + (if contains (caught_in ks) es then 0 else size)) ks [] l w)
  unfolding looked_at contains
  looks [] size s d place ks l w has = let e : place + 1 + size ≡ place + (0 + 1) + size = omega arith in (1, omega arith, by_code ask code d place ks [] l w (InstrOf.Skip size) has.0 ∙ ap (λ p. at d p ks [] l w) e)
  looks (x ∷ es) size s d place ks l w has = by (looks es size s d (place + 1) ks l w has.2) (nat_eq (caught_in ks) x) refl
    where
      e : ℕ
      e = caught_in ks

      goal : Bool → Type 0
      goal b = (n : ℕ) × (n ≤ (if b then 1 else 1 + looked_at (caught_in ks) es) + 1) × (steps ask code n (at d place ks [] l w) ≡ at d (place + (length (x ∷ es) + 1) + (if b || contains (caught_in ks) es then 0 else size)) ks [] l w)

      first : (b : Bool) → nat_eq (caught_in ks) x ≡ b → step ask code (at d place ks [] l w) ≡ at d (place + 1 + (if b then length es + 1 else 0)) ks [] l w
      first b is = by_code ask code d place ks [] l w (InstrOf.Catch x (length es + 1)) has.0 ∙ ap (λ c. at d (place + 1 + (if c then length es + 1 else 0)) ks [] l w) is

      Rest : Type 0
      Rest = (n : ℕ) × (n ≤ looked_at (caught_in ks) es + 1) × (steps ask code n (at d (place + 1) ks [] l w) ≡ at d (place + 1 + (length es + 1) + (if contains (caught_in ks) es then 0 else size)) ks [] l w)

      by : Rest → (b : Bool) → nat_eq (caught_in ks) x ≡ b → goal (nat_eq (caught_in ks) x)
      by rest true is =
          let far : place + 1 + (length es + 1) ≡ place + (length (x ∷ es) + 1) + 0 = omega arith in
          subst goal (sym is) (1, omega arith, first true is ∙ ap (λ p. at d p ks [] l w) far)
      by rest false is =
          let near : place + 1 + 0 ≡ place + 1 = omega arith in
          let far : place + 1 + (length es + 1) ≡ place + (length (x ∷ es) + 1) = omega arith in
          let less = rest.1 in
          subst goal (sym is) (
            rest.0 + 1,
            omega (arith, less),
            steps_add ask code rest.0 1 (at d place ks [] l w) ∙ ap (steps ask code rest.0) (first false is ∙ ap (λ p. at d p ks [] l w) near) ∙ rest.2
                ∙ ap (λ p. at d (p + (if contains e es then 0 else size)) ks [] l w) far,
          )

module _ (ask : Ask) (k : Tables) (code : Code) (setting : Setting k code) (call : Names.Call) (default : Default) (defaults : GivesEach ask k code setting call default) (bound : ℕ) (calls : Calls ask k code setting bound call) where
  abbrev K : Tools
  K = tools_with ask k call default

  abbrev EachPerforms : List StatementCode → List Doing → Type 0
  EachPerforms = S.EachPerforms ask k code setting call default defaults bound calls

  -- One handler -----------------------------------------------------------------------------------

  -- a handler, before what is done where it does not apply: its first tick pays all but four steps
  abbrev pub Handles : HandlerCode → Guarding → Type 0
  Handles x m =
      has_choice x.choices ≡ true → IsRunIn k.records x.body.runs → (n : ℕ) → HasAt code.texts.items n x.body.texts → (other : Act Done) (s : List Kind) (w0 : World) (d : List ℕ) (place place1 : ℕ) (ks : List Frame) (c : ℕ) (l : Log) (w : World) → c ≤ bound → Since k code w0 w → Sees d s w0 →
      Laid code place (handler_lines x (inside_master s) n) → Ends ask k code bound d (place + length (handler_lines x (inside_master s) n)) place1 ks [] →
      Runs ask code (Kept k code w0) 1 1 (at d (place + length (handler_lines x (inside_master s) n) + 1) ks [] l w) c (arrives OutOf d place1 ks []) (other c l w) →
      (o : Out Done) × (m K d (caught_in ks) other c l w ≡ add 1 o) × Runs ask code (Kept k code w0) 4 4 (at d place ks [] l w) c (arrives OutOf d place1 ks []) o

  -- its statements, and what leads from their end to that of the master
  body_runs : (xs : List StatementCode) (ms : List Doing) → EachPerforms xs ms → IsRunIn k.records (all xs).runs → (n : ℕ) → HasAt code.texts.items n (all xs).texts → (s : List Kind) (w0 : World) (d : List ℕ) (place place1 : ℕ) (ks : List Frame) (c : ℕ) (l : Log) (w : World) → c ≤ bound → Since k code w0 w → Sees d s w0 → Laid code place ((all xs).code (inside_master s) n) → Ends ask k code bound d (place + length ((all xs).code (inside_master s) n)) place1 ks [] → Runs ask code (Kept k code w0) 2 0 (at d place ks [] l w) c (arrives OutOf d place1 ks []) (do_each K d (caught_in ks) ms c l w)
  body_runs xs ms each runs n texts s w0 d place place1 ks c l w le fits sees has ends =
      further ask code (Kept k code w0) 0 0 2 0 2 (at d place ks [] l w) c (arrives OutOf d (place + length ((all xs).code (inside_master s) n)) ks []) (arrives OutOf d place1 ks []) (do_each K d (caught_in ks) ms c l w) (omega arith) (omega arith)
      (S.all_run ask k code setting call default defaults bound calls xs ms each runs n texts (inside_master s) w0 d place ks [] c l w le fits sees has) over
    where
      over : (r : Result Done) (l1 : Log) (w1 : World) → (i : ℕ) × (i ≤ 2) × (steps ask code i (arrives OutOf d (place + length ((all xs).code (inside_master s) n)) ks [] r l1 w1) ≡ arrives OutOf d place1 ks [] r l1 w1)
      over (Goes a) l1 w1 = ends l1 w1
      over (Leaves y) l1 w1 = (0, omega arith, refl)

  pub handler_does : (choices : Choices) (xs : List StatementCode) (ms : List Doing) → EachPerforms xs ms → Handles (record { choices = choices; body = all xs }) (handler choices ms)
  unfolding handler does_handle choices_looked_at opened_outcome
  handler_does Others xs ms each chosen runs n texts other s w0 d place place1 ks c l w le fits sees has ends elses =
      (do_each K d (caught_in ks) ms c l w, refl, within ask code (Kept k code w0) 2 0 4 4 (at d place ks [] l w) c (arrives OutOf d place1 ks []) _ (omega arith) (omega arith) (body_runs xs ms each runs n texts s w0 d place place1 ks c l w le fits sees has ends))
  handler_does (Exceptions []) xs ms each chosen runs n texts other s w0 d place place1 ks c l w le fits sees has ends elses = absurd (cc)
  handler_does (Exceptions (x ∷ es)) xs ms each chosen runs n texts other s w0 d place place1 ks c l w le fits sees has ends elses =
      (add ticks.0 (chosen_out (contains (caught_in ks) (x ∷ es))), ap (λ j. add j (chosen_out (contains (caught_in ks) (x ∷ es)))) ticks.1 ∙ add_add 1 ticks.0 (chosen_out (contains (caught_in ks) (x ∷ es))), by (contains (caught_in ks) (x ∷ es)) refl)
    where
      ticks : (i : ℕ) × (looked_at (caught_in ks) (x ∷ es) ≡ 1 + i)
      ticks = one_looked_at (caught_in ks) x es

      body : List Line
      body = (all xs).code (inside_master s) n

      size : ℕ
      size = length ((all xs).code (inside_master s) n) + 1

      chooses : List Line
      chooses = catches_code (x ∷ es) (length ((all xs).code (inside_master s) n) + 1) s

      q : ℕ
      q = place + (length (x ∷ es) + 1)

      chosen_out : Bool → Out Done
      chosen_out b = either b (do_each K d (caught_in ks) ms) other c l w

      long : (ys : List ℕ) → length (catches_code ys (length ((all xs).code (inside_master s) n) + 1) s) ≡ length ys + 1
      long [] = refl
      long (y ∷ ys) = let same = long ys in omega (arith, same)

      far : q + length body ≡ place + length (handler_lines (record { choices = Exceptions (x ∷ es); body = all xs }) (inside_master s) n)
      far = omega (arith, length-append chooses body, long (x ∷ es))

      tail : Laid code (place + (length (x ∷ es) + 1)) ((all xs).code (inside_master s) n)
      tail = subst (λ j. Laid code (place + j) body) (long (x ∷ es)) (laid_back code place chooses body has)

      looked : (n1 : ℕ) × (n1 ≤ looked_at (caught_in ks) (x ∷ es) + 1) × (steps ask code n1 (at d place ks [] l w) ≡ at d (place + (length (x ∷ es) + 1) + (if contains (caught_in ks) (x ∷ es) then 0 else length ((all xs).code (inside_master s) n) + 1)) ks [] l w)
      looked = looks ask code (x ∷ es) size s d place ks l w (laid_front code place chooses body has)

      arrived : (b : Bool) → contains (caught_in ks) (x ∷ es) ≡ b → Comes ask code 2 (at d place ks [] l w) c ticks.0 c (at d (place + (length (x ∷ es) + 1) + (if b then 0 else length ((all xs).code (inside_master s) n) + 1)) ks [] l w) (Unit {0})
      arrived b is =
          let less = looked.1 in
          let count = ticks.1 in
          record { n = looked.0; falls = omega arith; enough = omega arith; in_time = omega (arith, less, count); comes = looked.2 ∙ ap (λ z. at d (q + (if z then 0 else size)) ks [] l w) is; fits = tt }

      by : (b : Bool) → contains (caught_in ks) (x ∷ es) ≡ b → Runs ask code (Kept k code w0) 4 4 (at d place ks [] l w) c (arrives OutOf d place1 ks []) (add ticks.0 (chosen_out (contains (caught_in ks) (x ∷ es))))
      by true is =
          let near : q + 0 ≡ q = omega arith in
          subst (λ z. Runs ask code (Kept k code w0) 4 4 (at d place ks [] l w) c (arrives OutOf d place1 ks []) (add ticks.0 (chosen_out z))) (sym is)
          (after_comes ask code (Kept k code w0) 2 2 0 4 4 (at d place ks [] l w) (at d (q + 0) ks [] l w) c c ticks.0 (arrives OutOf d place1 ks []) (do_each K d (caught_in ks) ms c l w) (omega arith) (omega arith) (arrived true is)
          (subst (λ p. Runs ask code (Kept k code w0) 2 0 (at d p ks [] l w) c (arrives OutOf d place1 ks []) (do_each K d (caught_in ks) ms c l w)) (sym near)
          (body_runs xs ms each runs n texts s w0 d q place1 ks c l w le fits sees tail (subst (λ p. Ends ask k code bound d p place1 ks []) (sym far) ends))))
      by false is =
          let behind : q + size ≡ place + length (handler_lines (record { choices = Exceptions (x ∷ es); body = all xs }) (inside_master s) n) + 1 = omega (arith, far) in
          subst (λ z. Runs ask code (Kept k code w0) 4 4 (at d place ks [] l w) c (arrives OutOf d place1 ks []) (add ticks.0 (chosen_out z))) (sym is)
          (after_comes ask code (Kept k code w0) 2 1 1 4 4 (at d place ks [] l w) (at d (q + size) ks [] l w) c c ticks.0 (arrives OutOf d place1 ks []) (other c l w) (omega arith) (omega arith) (arrived false is)
          (subst (λ p. Runs ask code (Kept k code w0) 1 1 (at d p ks [] l w) c (arrives OutOf d place1 ks []) (other c l w)) (sym behind) elses))

  -- All of a master -------------------------------------------------------------------------------

  abbrev pub EachHandles : List HandlerCode → List Guarding → Type 0
  EachHandles [] [] = Unit {0}
  EachHandles (x ∷ xs) (m ∷ ms) = Handles x m × EachHandles xs ms
  EachHandles _ _ = ⊥

  -- where nothing handles it, the exception is raised again
  abbrev by_handlers : List Guarding → List ℕ → List Frame → Act Done
  by_handlers ms d ks = do_first K d (caught_in ks) ms (raise (caught_in ks))

  -- one handler and those behind it, which do what they mean
  one_does : (x : HandlerCode) (rest : List HandlerCode) (m : Guarding) (ms : List Guarding) → Handles x m → IsRunIn k.records (handlers_run (x ∷ rest)) → (n : ℕ) → HasAt code.texts.items n (handlers_texts (x ∷ rest)) → (back end place1 size : ℕ) (s : List Kind) (w0 : World) (d : List ℕ) (ks : List Frame) (c : ℕ) (l : Log) (w : World) → c ≤ bound → Since k code w0 w → Sees d s w0 → slice_get code.instructions.items end ≡ Some (InstrOf.Skip size) → end + 1 + size ≡ place1 → Laid code (end + back) (handlers_code back (x ∷ rest) (inside_master s) n)
      → (IsRunIn k.records (handlers_run rest) → HasAt code.texts.items (n + length x.body.texts) (handlers_texts rest) → Laid code (end + (back + length (handler_lines x (inside_master s) n) + 1)) (handlers_code (back + length (handler_lines x (inside_master s) n) + 1) rest (inside_master s) (n + length x.body.texts)) → Runs ask code (Kept k code w0) 1 1 (at d (end + (back + length (handler_lines x (inside_master s) n) + 1)) ks [] l w) c (arrives OutOf d place1 ks []) (by_handlers ms d ks c l w))
      → (o : Out Done) × (by_handlers (m ∷ ms) d ks c l w ≡ add 1 o) × Runs ask code (Kept k code w0) 4 4 (at d (end + back) ks [] l w) c (arrives OutOf d place1 ks []) o
  unfolding do_first
  one_does x rest m ms does runs n texts back end place1 size s w0 d ks c l w le fits sees here far has others =
      let h = both_true (has_choice x.choices) (x.body.runs (among k.records runs.0) && handlers_run rest (among k.records runs.0)) runs.1 in
      let g = both_run k.records x.body.runs (handlers_run rest) (runs.0, h.1) in
      let lines = handler_lines x (inside_master s) n in
      let j = length lines in
      let more = back + j + 1 in
      let again = InstrOf.Back (back + j) in
      let tail = laid_back code (end + back) lines ((again, s) ∷ handlers_code more rest (inside_master s) (n + length x.body.texts)) has in
      let q = end + back + j in
      let e1 : q - (back + j) ≡ end = omega arith in
      let e2 : end + back + j + 1 ≡ end + more = omega arith in
      does h.0 g.0 n (has_front code.texts.items n x.body.texts (handlers_texts rest) texts) (by_handlers ms d ks) s w0 d (end + back) place1 ks c l w le fits sees (laid_front code (end + back) lines ((again, s) ∷ handlers_code more rest (inside_master s) (n + length x.body.texts)) has)
      (λ l1 w1. (2, omega arith, ap (step ask code) (by_code ask code d q ks [] l1 w1 again tail.0 ∙ ap (λ p. at d p ks [] l1 w1) e1) ∙ by_code ask code d end ks [] l1 w1 (InstrOf.Skip size) here ∙ ap (λ p. at d p ks [] l1 w1) far))
      (subst (λ p. Runs ask code (Kept k code w0) 1 1 (at d p ks [] l w) c (arrives OutOf d place1 ks []) (by_handlers ms d ks c l w)) (sym e2)
      (others g.1 (has_back code.texts.items n x.body.texts (handlers_texts rest) texts) (subst (λ p. Laid code p (handlers_code more rest (inside_master s) (n + length x.body.texts))) e2 tail.2)))

  -- further handlers, so many instructions behind the end of the statements
  handlers_do : (xs : List HandlerCode) (ms : List Guarding) → EachHandles xs ms → IsRunIn k.records (handlers_run xs) → (n : ℕ) → HasAt code.texts.items n (handlers_texts xs) → (back end place1 size : ℕ) (s : List Kind) (w0 : World) (d : List ℕ) (ks : List Frame) (c : ℕ) (l : Log) (w : World) → c ≤ bound → Since k code w0 w → Sees d s w0 → slice_get code.instructions.items end ≡ Some (InstrOf.Skip size) → end + 1 + size ≡ place1 → Laid code (end + back) (handlers_code back xs (inside_master s) n) → Runs ask code (Kept k code w0) 1 1 (at d (end + back) ks [] l w) c (arrives OutOf d place1 ks []) (by_handlers ms d ks c l w)
  unfolding do_first opened_outcome
  handlers_do [] [] each runs n texts back end place1 size s w0 d ks c l w le fits sees here far has = end_step ask code (Kept k code w0) 1 (at d (end + back) ks [] l w) c 0 (arrives OutOf d place1 ks []) (Leaves (ByRaise (caught_in ks))) l w fits (by_code ask code d (end + back) ks [] l w InstrOf.RaiseAgain has.0)
  handlers_do [] (m ∷ ms) each runs n texts back end place1 size s w0 d ks c l w le fits sees here far has = absurd each
  handlers_do (x ∷ rest) [] each runs n texts back end place1 size s w0 d ks c l w le fits sees here far has = absurd each
  handlers_do (x ∷ rest) (m ∷ ms) each runs n texts back end place1 size s w0 d ks c l w le fits sees here far has =
      let j = length (handler_lines x (inside_master s) n) in
      let one = one_does x rest m ms each.0 runs n texts back end place1 size s w0 d ks c l w le fits sees here far has (λ more_run more_texts more. handlers_do rest ms each.1 more_run (n + length x.body.texts) more_texts (back + j + 1) end place1 size s w0 d ks c l w le fits sees here far more) in
      subst (Runs ask code (Kept k code w0) 1 1 (at d (end + back) ks [] l w) c (arrives OutOf d place1 ks [])) (sym one.1)
      (added ask code (Kept k code w0) 1 4 4 1 1 (at d (end + back) ks [] l w) c (arrives OutOf d place1 ks []) one.0 (omega arith) (omega arith) one.2)

  -- statements with handlers
  pub handled_closes : (xs : List StatementCode) (ms : List Doing) → EachPerforms xs ms → (h : HandlerCode) (hs : List HandlerCode) (g : Guarding) (gs : List Guarding) → EachHandles (h ∷ hs) (g ∷ gs) → S.Closes ask k code setting call default defaults bound calls (handled (all xs) (h ∷ hs)) (S.with_handlers ms (g ∷ gs))
  unfolding handles handle picked opened_outcome opened_changes
  handled_closes xs ms each h hs g gs each_handler runs n texts s master w0 w2 d opened after ks caught c0 c t l w s0 place le has at_end front =
      subst (λ o. Runs ask code (Told k code w0) 0 2 s0 c0 (leaves after ks) (add t o)) (sym (bind_bind (do_each K d caught ms c l w) (handles (handle K d (g ∷ gs))) (leave K master)))
      (both_from ask code (Kept k code w2) (Told k code w0) 2 0 0 2 2 0 s0 (at d (place + 1) armed [] l w) c0 c t (arrives OutOf d end armed []) (leaves after ks) _ _ (omega arith) (omega arith)
      (then_step ask code (Kept k code w2) 1 2 s0 (at d place (in_frame master caught after ks) [] l w) (at d (place + 1) armed [] l w) c0 c t t front arms front.fits (omega arith))
      (S.all_run ask k code setting call default defaults bound calls xs ms each (both_run k.records (all xs).runs (handlers_run (h ∷ hs)) runs).0 n (has_front code.texts.items n (all xs).texts (handlers_texts (h ∷ hs)) texts) (inside_master s) w2 d (place + 1) armed [] c l w le front.fits opened.sees (laid_front code (place + 1) body ((InstrOf.Skip (length rest), s) ∷ rest) has.2)) on)
    where
      n1 : ℕ
      n1 = n + length (all xs).texts

      body : List Line
      body = (all xs).code (inside_master s) n

      rest : List Line
      rest = handlers_code 1 (h ∷ hs) (inside_master s) (n + length (all xs).texts)

      end : ℕ
      end = place + 1 + length ((all xs).code (inside_master s) n)

      place1 : ℕ
      place1 = place + length ((handled (all xs) (h ∷ hs)).code (inside_master s) n)

      -- the handlers are ready for an exception
      armed : List Frame
      armed = InMaster master (record { handlers = Some (place + 1 + (length ((all xs).code (inside_master s) n) + 1)); caught = caught }) after ∷ ks

      arms : step ask code (at d place (in_frame master caught after ks) [] l w) ≡ at d (place + 1) armed [] l w
      arms = by_code ask code d place (in_frame master caught after ks) [] l w (InstrOf.Handle (length body + 1)) has.0

      tail : Laid code (place + 1 + length ((all xs).code (inside_master s) n)) ((InstrOf.Skip (length (handlers_code 1 (h ∷ hs) (inside_master s) (n + length (all xs).texts))), s) ∷ handlers_code 1 (h ∷ hs) (inside_master s) (n + length (all xs).texts))
      tail = laid_back code (place + 1) body ((InstrOf.Skip (length rest), s) ∷ rest) has.2

      far : place + 1 + length ((all xs).code (inside_master s) n) + 1 + length (handlers_code 1 (h ∷ hs) (inside_master s) (n + length (all xs).texts)) ≡ place + length ((handled (all xs) (h ∷ hs)).code (inside_master s) n)
      far = omega (arith, length-append body ((InstrOf.Skip (length rest), s) ∷ rest))

      IsLeft : Result Done → ℕ → ℕ → Log → World → Type 0
      IsLeft r t1 c1 l1 w1 = Runs ask code (Told k code w0) 0 2 s0 c0 (leaves after ks) (add t1 (bind (handles (handle K d (g ∷ gs)) r c1 l1 w1) (leave K master)))

      -- an exception goes to the handlers, where the display of the master is seen
      raised : (e t1 c1 : ℕ) (l1 : Log) (w1 : World) → c1 ≤ c → Since k code w2 w1 → Comes ask code 2 s0 c0 t1 c1 (transferred (ByRaise e) armed l1 w1) (Since k code w2 w1) → IsLeft (Leaves (ByRaise e)) t1 c1 l1 w1
      raised e t1 c1 l1 w1 lo fits1 there =
          subst (λ o. Runs ask code (Told k code w0) 0 2 s0 c0 (leaves after ks) (add t1 o)) (sym (ap (λ o. bind o (leave K master)) first.1 ∙ bind_add 1 first.0 (leave K master)))
          (after_paid ask code (Told k code w0) 3 4 4 0 2 s0 (at d (end + 1) (in_frame master e after ks) [] l1 w1) c0 c1 t1 (leaves after ks) (bind first.0 (leave K master)) (omega arith) (omega arith)
          (then_step ask code (Kept k code w2) 2 3 s0 (transferred (ByRaise e) armed l1 w1) (at d (end + 1) (in_frame master e after ks) [] l1 w1) c0 c1 t1 t1 there begins fits1 (omega arith))
          (both ask code (Kept k code w2) (Told k code w0) 4 4 0 0 4 4 (at d (end + 1) (in_frame master e after ks) [] l1 w1) c1 (arrives OutOf d place1 (in_frame master e after ks) []) (leaves after ks) first.0 (leave K master) (omega arith) (omega arith) (omega arith) first.2
          (λ r c2 l2 w3 lo2 fits2. left_runs ask k code setting call default defaults.constants bound calls r master after w0 ks c2 l2 w3 (arrives OutOf d place1 (in_frame master e after ks) [] r l2 w3) opened.young (omega (arith, lo, lo2, le)) (opened.since w3 fits2) (steps_out ask code master e after d place1 ks at_end r l2 w3))))
        where
          seen : home master w1.activations ≡ d
          seen = ap (λ m. home m w1.activations) (sym opened.newest) ∙ fits1.1.homes (last_of d) opened.sees.old ∙ opened.sees.home

          begins : step ask code (transferred (ByRaise e) armed l1 w1) ≡ at d (place + 1 + length ((all xs).code (inside_master s) n) + 1) (in_frame master e after ks) [] l1 w1
          begins =
              let behind : place + 1 + (length body + 1) ≡ end + 1 = omega arith in
              ap (λ v. at v (place + 1 + (length body + 1)) (in_frame master e after ks) [] l1 w1) seen ∙ ap (λ p. at d p (in_frame master e after ks) [] l1 w1) behind

          first : (o : Out Done) × (by_handlers (g ∷ gs) d (in_frame master e after ks) c1 l1 w1 ≡ add 1 o) × Runs ask code (Kept k code w2) 4 4 (at d (place + 1 + length ((all xs).code (inside_master s) n) + 1) (in_frame master e after ks) [] l1 w1) c1 (arrives OutOf d (place + length ((handled (all xs) (h ∷ hs)).code (inside_master s) n)) (in_frame master e after ks) []) o
          first =
              one_does h hs g gs each_handler.0 (both_run k.records (all xs).runs (handlers_run (h ∷ hs)) runs).1 n1 (has_back code.texts.items n (all xs).texts (handlers_texts (h ∷ hs)) texts) 1 end place1 (length rest) s w2 d (in_frame master e after ks) c1 l1 w1 (omega (arith, lo, le)) fits1 opened.sees tail.0 far tail.2
              (λ more_run more_texts more. handlers_do hs gs each_handler.1 more_run (n1 + length h.body.texts) more_texts (1 + length (handler_lines h (inside_master s) n1) + 1) end place1 (length rest) s w2 d (in_frame master e after ks) c1 l1 w1 (omega (arith, lo, le)) fits1 opened.sees tail.0 far more)

      by_way : (o : Option ℕ) (y : Way) → raised_by y ≡ o → (t1 c1 : ℕ) (l1 : Log) (w1 : World) → c1 ≤ c → Since k code w2 w1 → Comes ask code 2 s0 c0 t1 c1 (transferred y armed l1 w1) (Since k code w2 w1) → IsLeft (Leaves y) t1 c1 l1 w1
      by_way None y is t1 c1 l1 w1 lo fits1 there =
          subst (λ o. Runs ask code (Told k code w0) 0 2 s0 c0 (leaves after ks) (add t1 (bind (on_some o (leave_by y) (handle K d (g ∷ gs)) c1 l1 w1) (leave K master)))) (sym is)
          (subst (λ o. Runs ask code (Told k code w0) 0 2 s0 c0 (leaves after ks) (add t1 o)) (sym (add_none (leave K master (Leaves y) c1 l1 w1)))
          (left_after ask k code setting call default defaults.constants bound calls 2 (omega arith) (Leaves y) master after w0 ks c0 c1 t1 l1 w1 s0 _ opened.young (omega (arith, lo, le)) (opened.since w1 fits1) there (passes_out ask code master _ after ks y l1 w1 is)))
      by_way (Some e) y is t1 c1 l1 w1 lo fits1 there = subst (λ v. Comes ask code 2 s0 c0 t1 c1 (transferred v armed l1 w1) (Since k code w2 w1) → IsLeft (Leaves v) t1 c1 l1 w1) (sym (raised_is y e is)) (raised e t1 c1 l1 w1 lo fits1) there

      on : (r : Result Done) (t1 c1 : ℕ) (l1 : Log) (w1 : World) → c1 ≤ c → Since k code w2 w1 → Comes ask code 2 s0 c0 t1 c1 (arrives OutOf d (place + 1 + length ((all xs).code (inside_master s) n)) armed [] r l1 w1) (Since k code w2 w1) → IsLeft r t1 c1 l1 w1
      on (Goes a) t1 c1 l1 w1 lo fits1 there =
          subst (λ o. Runs ask code (Told k code w0) 0 2 s0 c0 (leaves after ks) (add t1 o)) (sym (add_none (leave K master (Goes tt) c1 l1 w1)))
          (left_after ask k code setting call default defaults.constants bound calls 3 (omega arith) (Goes tt) master after w0 ks c0 c1 t1 l1 w1 s0 (at d place1 armed [] l1 w1) opened.young (omega (arith, lo, le)) (opened.since w1 fits1)
          (then_step ask code (Kept k code w2) 2 3 s0 (at d end armed [] l1 w1) (at d place1 armed [] l1 w1) c0 c1 t1 t1 there (by_code ask code d end armed [] l1 w1 (InstrOf.Skip (length rest)) tail.0 ∙ ap (λ p. at d p armed [] l1 w1) far) fits1 (omega arith))
          (ends_out ask code master _ after d place1 ks l1 w1 at_end))
      on (Leaves y) t1 c1 l1 w1 lo fits1 there = by_way (raised_by y) y refl t1 c1 l1 w1 lo fits1 (subst (λ z. Comes ask code 2 s0 c0 t1 c1 z (Since k code w2 w1)) (leads_out y d armed [] l1 w1) there)
