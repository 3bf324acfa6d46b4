-- What a run shows: the promise of the whole product.
use Rattle.std.specs.Prelude.{◌≡◌, ◌≢◌, ℕ, ◌*◌, ◌≤◌, List, Some, None, Ok, false}
use Rattle.ctl_program.specs.declared.program.Checked.{Checked}
use Rattle.ctl_tree.specs.declared.ending.End.{End}
use Rattle.ctl_tree.specs.declared.ending.End.TheVariants.{Done, Raised, Stopped, StepLimit, HostMemory}
use Rattle.ctl_tree.specs.declared.event.Event.{Event}
use Rattle.ctl_tree.specs.declared.request.Order.{Order}
use Rattle.ctl_meaning.specs.Audit.{IsOrderly}
use Rattle.ctl_meaning.specs.World.{Pick}
use Rattle.ctl_meaning.specs.Choice.{Ask, Obeys, answer, replayed}
use Rattle.ctl_meaning.specs.Run as Meaning
use Rattle.ctl_meaning.specs.Run.{outcome}
use Rattle.ctl_code.specs.declared.code.Code.{Code}
use Rattle.ctl_code.specs.States.{Stuck}
use Rattle.ctl_code.specs.Steps.{end_of}
use Rattle.ctl_code.specs.Laws.{IsPrefix}
use Rattle.ctl_layout.specs.Layout.{IsLaidOut}
use Rattle.ctl_frames.specs.declared.outcome.Outcome.{Outcome}
use Rattle.ctl_machine.specs.Machine.{after_steps}
use Rattle.ctl_engine.specs.Shows.{chosen}
use Rattle.ctl_verdict.specs.Verdict.{IsVerdict}

-- what a run comes to: what it has shown, the choices that it took, its end, and its steps
pub record Account : Type 0 where
  pub events : List Event
  pub picks : List ℕ
  pub end : End
  pub steps : ℕ

-- the account that an outcome gives
abbrev pub account_of : Outcome → Account
account_of o = record { events = o.events.items; picks = o.picks.items; end = o.end; steps = o.steps }

-- the run ended by itself
abbrev pub ByItself : End → Type 0
ByItself Done = Unit {0}
ByItself (Raised name) = Unit {0}
ByItself (Stopped s) = Unit {0}
ByItself StepLimit = ⊥
ByItself HostMemory = ⊥

-- the run has come to the end of this outcome of the meaning, or has shown at least what it shows
pub record Reaches (a : Account) (taken : List Pick) (meant : Meaning.Outcome) : Type 0 where
  pub end : (e : End) → meant.end ≡ Some e → (a.end ≡ e) × (a.events ≡ meant.trace) × (taken ≡ meant.picks)
  pub trace : IsPrefix meant.trace a.events

-- what a run of a program shows, under an order and within a limit of steps. The only premise is memory: where the host refuses it
-- the run ends as HostMemory, and all but `in_time` holds of what was shown till then
pub record Headline (program : Checked) (order : Order) (limit : ℕ) (a : Account) : Type 0 where
  -- the choices that the run reports, each with its number of candidates
  pub taken : List Pick
  pub reported : a.picks ≡ chosen taken
  -- the events shown are the beginning of the trace that the meaning gives the program for these choices
  pub so_far : IsPrefix a.events (outcome program (replayed taken) a.steps).trace
  -- a run that ended by itself has shown the whole trace, and its end is the meaning's
  pub whole : ByItself a.end → ((outcome program (replayed taken) a.steps).end ≡ Some a.end) × ((outcome program (replayed taken) a.steps).trace ≡ a.events)
  -- the meaning takes all of these choices
  pub no_pick_left : (outcome program (replayed taken) a.steps).picks ≡ taken
  -- the choices obey the order, each below its number of candidates
  pub obeys : Obeys (answer order) taken
  -- the run took the steps of the program's code, at each of which that code has an instruction
  pub code : Code
  pub laid_out : IsLaidOut program code
  pub shown : a.events ≡ (after_steps code order a.steps).log.trace
  pub not_stuck : (n : ℕ) → (after_steps code order n).mode ≢ Stuck
  -- no more steps than were asked for, and all of them where the limit ended the run, which has not ended by itself then
  pub within : a.steps ≤ limit
  pub at_limit : a.end ≡ StepLimit → (a.steps ≡ limit) × (end_of code (after_steps code order a.steps) ≡ None)
  -- each outcome of the meaning whose choices obey the order is reached in 64 steps a tick
  pub in_time : a.end ≢ HostMemory → (other : Ask) (clock : ℕ) → Obeys (answer order) (outcome program other clock).picks → 64 * (outcome program other clock).ticks ≤ limit → Reaches a taken (outcome program other clock)

-- the program of an accepted text, and what its run shows: which is orderly as far as it goes, so no part was finalized that did not come to
-- life before, or twice, and none behind a part of an older object of its master, but as the target of an assignment (7.6.1)
pub record RunsSource (source : List ℕ) (order : Order) (limit : ℕ) (a : Account) : Type 0 where
  pub program : Checked
  pub accepted : IsVerdict source (Ok program)
  pub headline : Headline program order limit a
  pub orderly : IsOrderly a.events false
