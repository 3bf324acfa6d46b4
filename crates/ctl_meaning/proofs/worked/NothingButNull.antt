-- A procedure that does nothing.
use Rattle.std.proofs.Common.{Some, [], refl, ◌∷◌, ◌≡◌}
use Rattle.ctl_tree.specs.declared.ending.End.TheVariants.{Done}
use Rattle.ctl_meaning.proofs.worked.Build.{Program, checked, computed, is_computed, master, null, procedure, program}
use Rattle.ctl_meaning.specs.Choice.{newest}
use Rattle.ctl_meaning.specs.Run.{Outcome, opened_meaning, outcome}

abbrev the_program : Program
the_program =
    program []
    []
    (procedure 0 (master 0 [] (null ∷ []) []) ∷
    [])
    0

abbrev the_outcome : Outcome
the_outcome = record {
  trace = [];
  picks = [];
  end = Some Done;
  ticks = 2;
}

computes : computed the_program newest 10 ≡ the_outcome
unfolding opened_meaning computed
computes = refl

runs : outcome (checked the_program) newest 10 ≡ the_outcome
runs = is_computed the_program newest 10 _ computes
