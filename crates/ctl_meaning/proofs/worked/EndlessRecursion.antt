-- A recursion without end is cut where the clock is 0.
use Rattle.std.proofs.Common.{None, [], refl, ◌∷◌, ◌≡◌}
use Rattle.ctl_meaning.proofs.worked.Build.{Program, call, checked, computed, is_computed, master, procedure, program, silent}
use Rattle.ctl_meaning.specs.Choice.{newest}
use Rattle.ctl_meaning.specs.Run.{Outcome, opened_meaning, outcome}

abbrev the_program : Program
the_program =
    program []
    []
    (procedure 1 (master 0 [] (call 0 [] ∷ []) []) ∷
    procedure 0 (master 0 (silent ∷ []) (call 0 [] ∷ []) []) ∷
    [])
    1

abbrev the_outcome : Outcome
the_outcome = record {
  trace = [];
  picks = [];
  end = None;
  ticks = 12;
}

computes : computed the_program newest 5 ≡ the_outcome
unfolding opened_meaning computed
computes = refl

runs : outcome (checked the_program) newest 5 ≡ the_outcome
runs = is_computed the_program newest 5 _ computes
