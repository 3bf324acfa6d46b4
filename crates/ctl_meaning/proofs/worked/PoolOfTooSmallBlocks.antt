-- A block pool of 1 blocks of 7 storage units.
use Rattle.std.proofs.Common.{Some, [], codes, refl, ◌∷◌, ◌≡◌}
use Rattle.ctl_tree.specs.declared.ending.End.TheVariants.{Raised}
use Rattle.ctl_meaning.proofs.worked.Build.{Program, block, checked, computed, constant, discriminant, is_computed, master, null, pool, procedure, program}
use Rattle.ctl_meaning.specs.Choice.{newest}
use Rattle.ctl_meaning.specs.Run.{Outcome, opened_meaning, outcome}

abbrev the_program : Program
the_program =
    program []
    []
    (procedure 0 (master 0 [] (block 1 (pool 0 2 (discriminant 0 (constant 7) ∷ discriminant 1 (constant 1) ∷ []) ∷ []) (null ∷ []) [] ∷ []) []) ∷
    [])
    0

abbrev the_outcome : Outcome
the_outcome = record {
  trace = [];
  picks = [];
  end = Some (Raised (codes "Constraint_Error"));
  ticks = 6;
}

computes : computed the_program newest 10 ≡ the_outcome
unfolding opened_meaning computed
computes = refl

runs : outcome (checked the_program) newest 10 ≡ the_outcome
runs = is_computed the_program newest 10 _ computes
