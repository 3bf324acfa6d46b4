-- A division by zero raises Constraint_Error, which nothing handles.
use Rattle.std.proofs.Common.{Some, [], codes, refl, ◌∷◌, ◌≡◌}
use Rattle.ctl_program.specs.declared.operators.BinaryOp.TheVariants.{Divide}
use Rattle.ctl_program.specs.declared.types.Ty.TheVariants.{Integer}
use Rattle.ctl_tree.specs.declared.ending.End.TheVariants.{Raised}
use Rattle.ctl_meaning.proofs.worked.Build.{Program, assign, chain, checked, computed, constant, is_computed, master, object, operand, procedure, program, value, variable}
use Rattle.ctl_meaning.specs.Choice.{newest}
use Rattle.ctl_meaning.specs.Run.{Outcome, opened_meaning, outcome}

abbrev the_program : Program
the_program =
    program []
    []
    (procedure 0 (master 1 (object 0 Integer (Some (constant 0)) ∷ []) (assign (variable 1 0) (chain (constant 1) (operand Divide Integer (value 1 0 Integer)) []) ∷ []) []) ∷
    [])
    0

abbrev the_outcome : Outcome
the_outcome = record {
  trace = [];
  picks = [];
  end = Some (Raised (codes "Constraint_Error"));
  ticks = 9;
}

computes : computed the_program newest 10 ≡ the_outcome
unfolding opened_meaning computed
computes = refl

runs : outcome (checked the_program) newest 10 ≡ the_outcome
runs = is_computed the_program newest 10 _ computes
