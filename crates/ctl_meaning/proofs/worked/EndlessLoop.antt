-- A loop without end is cut where the clock is 0.
use Rattle.std.proofs.Common.{None, [], codes, refl, ◌∷◌, ◌≡◌}
use Rattle.ctl_meaning.proofs.worked.Build.{Program, checked, computed, is_computed, loop, master, newline, print, procedure, program, put_text}
use Rattle.ctl_meaning.specs.Choice.{newest}
use Rattle.ctl_meaning.specs.Run.{Outcome, opened_meaning, outcome}

abbrev the_program : Program
the_program =
    program []
    []
    (procedure 0 (master 0 [] (loop (put_text (codes "x") ∷ []) ∷ []) []) ∷
    [])
    0

abbrev the_outcome : Outcome
the_outcome = record {
  trace = print (codes "x") ∷ newline ∷ print (codes "x") ∷ newline ∷ print (codes "x") ∷ newline ∷ [];
  picks = [];
  end = None;
  ticks = 10;
}

computes : computed the_program newest 3 ≡ the_outcome
unfolding opened_meaning computed
computes = refl

runs : outcome (checked the_program) newest 3 ≡ the_outcome
runs = is_computed the_program newest 3 _ computes
