-- What runs of the code of a text show.
use Rattle.std.proofs.Common.{◌≡◌, ℕ, ◌≤◌, List, [], Option, Some, None, Ok, false, refl, unwrap_or, arith}
use Rattle.ctl_tree.specs.declared.ending.End.{End}
use Rattle.ctl_tree.specs.declared.ending.End.TheVariants.{Done, Raised, Stopped, StepLimit, HostMemory}
use Rattle.ctl_tree.specs.declared.request.Order.{Order}
use Rattle.ctl_meaning.specs.Choice.{replayed}
use Rattle.ctl_code.specs.declared.code.Code.{Code}
use Rattle.ctl_code.specs.Steps.{end_of}
use Rattle.ctl_frames.specs.declared.outcome.Outcome.{Outcome}
use Rattle.ctl_engine.specs.Shows.{chosen}
use Rattle.ctl_machine.specs.Machine.{Ends, Reports, Running, after_steps, is_end, shown_between}
use Rattle.ctl_machine.proofs.Ends.{no_limit}
use Rattle.ctl_machine.proofs.Shown.{shown_from_start}
use Rattle.ctl_run.specs.Headline.{Account, RunsSource}
use Rattle.ctl_verdict.specs.Compiled.{IsCodeOf}
use Rattle.ctl_run.proofs.Composed.{Tells, composed}
use Rattle.ctl_run.proofs.Orderly.{shown_orderly}
use Rattle.ctl_verdict.proofs.Verdicts.{answer_of}
use Rattle.ctl_verdict.proofs.WellTyped.{well_typed}

-- A machine of this code has done all that was asked of it, and this is the account of it.
pub in_source : (source : List ℕ) (m : Running) (limit : ℕ) (a : Account) → IsCodeOf source m.code → Tells m a → m.steps ≤ limit → (m.has_ended ≡ false → m.steps ≡ limit) → RunsSource source m.order limit a
in_source source m limit a code tells within counted =
    let typed = well_typed source code.program (answer_of source (Ok code.program) code.program code.accepted refl) in
    let h = composed code.program m limit a code.laid_out code.behaves tells within counted in
    record {
      program = code.program;
      accepted = code.accepted;
      headline = h;
      orderly = shown_orderly code.program typed (replayed h.taken) a.steps a.events h.so_far;
    }

-- Machines whose events were let go of ----------------------------------------------------------------------

-- all that such a machine has shown, and what its outcome reports besides
abbrev pub account_with : Running → Outcome → Account
account_with m o = record { events = shown_between m.code m.order 0 m.steps; picks = o.picks.items; end = o.end; steps = o.steps }

pub let_go_in_source : (source : List ℕ) (m : Running) (limit : ℕ) (o : Outcome) → IsCodeOf source m.code → Reports m o → m.steps ≤ limit → (m.has_ended ≡ false → m.steps ≡ limit) → RunsSource source m.order limit (account_with m o)
let_go_in_source source m limit o code reports within counted =
    in_source source m limit (account_with m o) code (record { steps = reports.steps; events = shown_from_start m.code m.order m.steps; picks = reports.picks; end = reports.end }) within counted

-- Runs that were broken off ---------------------------------------------------------------------------------

-- the account of a run that takes all of its steps
abbrev pub account_at : Code → Order → ℕ → Account
account_at code order n = record { events = (after_steps code order n).log.trace; picks = chosen (after_steps code order n).log.taken; end = unwrap_or (end_of code (after_steps code order n)) StepLimit; steps = n }

abbrev running_at : Code → Order → ℕ → Option End → Running
running_at code order n end = record { code = code; order = order; steps = n; has_ended = is_end end; waiting = [] }

ends_at : (code : Code) (order : Order) (n : ℕ) (end : Option End) → end_of code (after_steps code order n) ≡ end → Ends (unwrap_or end StepLimit) (running_at code order n end) n
ends_at code order n None is = (refl, is)
ends_at code order n (Some Done) is = (refl, is)
ends_at code order n (Some (Raised name)) is = (refl, is)
ends_at code order n (Some (Stopped s)) is = (refl, is)
ends_at code order n (Some HostMemory) is = refl
ends_at code order n (Some StepLimit) is = absurd (no_limit code.exceptions.items (after_steps code order n).mode (after_steps code order n).control is)

pub whole_in_source : (source : List ℕ) (code : Code) (order : Order) (limit : ℕ) → IsCodeOf source code → RunsSource source order limit (account_at code order limit)
whole_in_source source code order limit of =
    let end = end_of code (after_steps code order limit) in
    in_source source (running_at code order limit end) limit (account_at code order limit) of (record { steps = refl; events = refl; picks = refl; end = ends_at code order limit end refl }) (omega arith) (λ running. refl)
