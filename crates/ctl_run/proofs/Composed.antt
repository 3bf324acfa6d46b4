-- What the code of a program does, and what a machine reports of it, make up what its run shows.
use Rattle.std.proofs.Common.{◌≡◌, ℕ, zero, suc, ◌+◌, ◌-◌, ◌≤◌, List, [], ◌∷◌, Option, Some, false, refl, sym, ap, ◌∙◌, subst, arith}
use Rattle.ctl_program.specs.declared.program.Checked.{Checked}
use Rattle.ctl_tree.specs.declared.ending.End.{End}
use Rattle.ctl_tree.specs.declared.ending.End.TheVariants.{Done, Raised, Stopped, StepLimit, HostMemory}
use Rattle.ctl_meaning.specs.World.{Log, World}
use Rattle.ctl_meaning.specs.Choice.{Ask, answer, picked, replayed}
use Rattle.ctl_meaning.specs.Run as Meaning
use Rattle.ctl_meaning.specs.Run.{outcome}
use Rattle.ctl_code.specs.declared.code.Code.{Code}
use Rattle.ctl_code.specs.States as T
use Rattle.ctl_code.specs.States.{State}
use Rattle.ctl_code.specs.Steps.{step, machine, end_at, end_of}
use Rattle.ctl_code.specs.Laws.{IsPrefix}
use Rattle.ctl_gen.specs.Correct.{Behaves, HasReached}
use Rattle.ctl_layout.specs.Layout.{IsLaidOut}
use Rattle.ctl_engine.specs.Shows.{chosen}
use Rattle.ctl_machine.specs.Machine.{Running, Ends, after_steps}
use Rattle.ctl_run.specs.Headline.{Account, ByItself, Headline, Reaches}

-- A machine that has ended ----------------------------------------------------------------------------

-- changes no more
stays_at : (ask : Ask) (code : Code) (mode : T.Mode) (k : List T.Frame) (ops : List T.Word) (w : World) (l : Log) (e : End) → end_at code.exceptions.items mode k ≡ Some e → step ask code (record { mode = mode; control = k; operands = ops; world = w; log = l }) ≡ record { mode = mode; control = k; operands = ops; world = w; log = l }
unfolding picked
stays_at ask code (T.At d place) k ops w l e h = absurd (cc)
stays_at ask code (T.Transfers way) k ops w l e h = absurd (cc)
stays_at ask code (T.Giving r) [] ops w l e h = refl
stays_at ask code (T.Giving r) (f ∷ k) ops w l e h = absurd (cc)
stays_at ask code (T.Stopped s) k ops w l e h = refl
stays_at ask code T.Stuck k ops w l e h = absurd (cc)

stays : (ask : Ask) (code : Code) (s : State) (e : End) → end_of code s ≡ Some e → step ask code s ≡ s
stays ask code s e h = stays_at ask code s.mode s.control s.operands s.world s.log e h

-- however many steps follow
still : (ask : Ask) (code : Code) (n m : ℕ) (e : End) → end_of code (machine ask code n) ≡ Some e → machine ask code (n + m) ≡ machine ask code n
still ask code n zero e h = let same : n + 0 ≡ n = omega arith in ap (λ k. machine ask code k) same
still ask code n (suc m) e h =
    let next : n + suc m ≡ suc (n + m) = omega arith in
    ap (λ k. machine ask code k) next ∙ ap (λ s. step ask code s) (still ask code n m e h) ∙ stays ask code (machine ask code n) e h

later : (ask : Ask) (code : Code) (n limit : ℕ) (e : End) → n ≤ limit → end_of code (machine ask code n) ≡ Some e → machine ask code limit ≡ machine ask code n
later ask code n limit e le h =
    let count : limit ≡ n + (limit - n) = omega (arith, le) in
    ap (λ k. machine ask code k) count ∙ still ask code n (limit - n) e h

-- The run ----------------------------------------------------------------------------------------------

-- the end of a run that ended by itself is the table's
ended : (e : End) (m : Running) (n : ℕ) → ByItself e → Ends e m n → end_of m.code (after_steps m.code m.order n) ≡ Some e
ended Done m n own h = h.1
ended (Raised name) m n own h = h.1
ended (Stopped s) m n own h = h.1
ended StepLimit m n own h = absurd own
ended HostMemory m n own h = absurd own

-- the table has come to the end of an outcome, and so has the run
reaches : (code : Code) (s : State) (o : Account) (meant : Meaning.Outcome) → o.events ≡ s.log.trace → HasReached code s meant → ((e : End) → end_of code s ≡ Some e → o.end ≡ e) → Reaches o s.log.taken meant
reaches code s o meant events reached same = record {
  end = λ e h. (same e (reached.end e h).0, events ∙ (reached.end e h).1, (reached.end e h).2);
  trace = subst (λ es. IsPrefix meant.trace es) (sym events) reached.trace;
}

-- an end is the only one
only : (x : Option End) (e f : End) → x ≡ Some e → x ≡ Some f → e ≡ f
only x e f h i = search (h, i)

-- An account of all that a machine has shown ---------------------------------------------------------------

pub record Tells (m : Running) (o : Account) : Type 0 where
  pub steps : o.steps ≡ m.steps
  pub events : o.events ≡ (after_steps m.code m.order m.steps).log.trace
  pub picks : o.picks ≡ chosen (after_steps m.code m.order m.steps).log.taken
  pub end : Ends o.end m m.steps

module _ (program : Checked) (m : Running) (limit : ℕ) (o : Account) (laid_out : IsLaidOut program m.code) (behaves : Behaves program m.code) (reports : Tells m o) (within : m.steps ≤ limit) (counted : m.has_ended ≡ false → m.steps ≡ limit) where
  abbrev ask : Ask
  ask = answer m.order

  -- the state at which the run ended
  abbrev final : State
  final = after_steps m.code m.order o.steps

  events : o.events ≡ final.log.trace
  events = subst (λ n. o.events ≡ (after_steps m.code m.order n).log.trace) (sym reports.steps) reports.events

  end : Ends o.end m o.steps
  end = subst (λ n. Ends o.end m n) (sym reports.steps) reports.end

  -- in time, by how the run ended
  on_time : (e : End) → o.end ≡ e → (e ≡ HostMemory → ⊥) → (meant : Meaning.Outcome) → HasReached m.code (machine ask m.code limit) meant → Reaches o final.log.taken meant
  on_time e h not meant reached = by e h not
    where
      own : (f : End) → o.end ≡ f → ByItself f → Reaches o final.log.taken meant
      own f same itself =
          let ends = ended f m o.steps itself (subst (λ x. Ends x m o.steps) same end) in
          let there = later ask m.code o.steps limit f (omega (arith, within, reports.steps)) ends in
          reaches m.code final o meant events (subst (λ s. HasReached m.code s meant) there reached) (λ x is. same ∙ only (end_of m.code final) f x ends is)

      by : (f : End) → o.end ≡ f → (f ≡ HostMemory → ⊥) → Reaches o final.log.taken meant
      by Done same not = own Done same tt
      by (Raised name) same not = own (Raised name) same tt
      by (Stopped s) same not = own (Stopped s) same tt
      by StepLimit same not =
          let limited = subst (λ x. Ends x m o.steps) same end in
          let count : limit ≡ o.steps = sym (reports.steps ∙ counted limited.0) in
          reaches m.code final o meant events (subst (λ n. HasReached m.code (machine ask m.code n) meant) count reached) (λ x is. absurd (cc))
      by HostMemory same not = absurd (not refl)

  pub composed : Headline program m.order limit o
  composed =
      let run = behaves.after ask o.steps in
      record {
        taken = final.log.taken;
        reported = subst (λ n. o.picks ≡ chosen (after_steps m.code m.order n).log.taken) (sym reports.steps) reports.picks;
        so_far = subst (λ es. IsPrefix es (outcome program (replayed final.log.taken) o.steps).trace) (sym events) run.so_far;
        whole = λ itself. let w = run.whole o.end (ended o.end m o.steps itself end) in (w.0, w.1 ∙ sym events);
        no_pick_left = run.no_pick_left;
        obeys = run.obeys;
        code = m.code;
        laid_out = laid_out;
        shown = events;
        not_stuck = λ n. (behaves.after ask n).not_stuck;
        within = omega (arith, within, reports.steps);
        at_limit = λ same. let limited = subst (λ x. Ends x m o.steps) same end in (reports.steps ∙ counted limited.0, limited.1);
        in_time = λ not other clock obeys le. on_time o.end refl not (outcome program other clock) ((behaves.after ask limit).in_time other clock obeys le);
      }
