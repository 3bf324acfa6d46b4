-- What a run has shown is orderly: it begins the trace of a run of the meaning, and that is.
use Rattle.std.proofs.Common.{◌≡◌, ℕ, List, false, refl, sym, ◌∙◌, subst}
use Rattle.ctl_program.specs.declared.program.Checked.{Checked}
use Rattle.ctl_tree.specs.declared.event.Event.{Event}
use Rattle.ctl_meaning.specs.Advance.{log_of}
use Rattle.ctl_meaning.specs.Audit.{IsOrderly}
use Rattle.ctl_meaning.specs.Choice.{Ask}
use Rattle.ctl_meaning.specs.Names.{Returned}
use Rattle.ctl_meaning.specs.Outcome.{Goes, Leaves, Out, Gives, Stops, Cut}
use Rattle.ctl_meaning.specs.Run.{outcome, outcome_of, run}
use Rattle.ctl_code.specs.Laws.{IsPrefix}
use Rattle.ctl_orderly.proofs.Runs.{traces_are_orderly}
use Rattle.ctl_orderly.proofs.Traces.{fronts_are_orderly}
use Rattle.ctl_orderly.proofs.WellTyped.{well_typed_in_order}
use Rattle.ctl_well_typed.specs.Programs.{WellTyped}

trace_of : (names : List (List ℕ)) (x : Out Returned) → (outcome_of names x).trace ≡ (log_of x).trace
unfolding outcome_of
trace_of names (Gives (Goes a) t c l w) = refl
trace_of names (Gives (Leaves y) t c l w) = refl
trace_of names (Stops s t l) = refl
trace_of names (Cut t c l) = refl

trace_is : (program : Checked) (ask : Ask) (clock : ℕ) → (outcome program ask clock).trace ≡ (log_of (run program ask clock)).trace
unfolding outcome
trace_is program ask clock = trace_of program.exceptions (run program ask clock)

pub shown_orderly : (program : Checked) → WellTyped program → (ask : Ask) (clock : ℕ) (shown : List Event) → IsPrefix shown (outcome program ask clock).trace → IsOrderly shown false
shown_orderly program typed ask clock shown front =
    fronts_are_orderly.front shown front.0 false
    (subst (λ (es : List Event). IsOrderly es false) (sym (trace_is program ask clock) ∙ front.1) ((traces_are_orderly program).in_run (well_typed_in_order program typed) ask clock))
