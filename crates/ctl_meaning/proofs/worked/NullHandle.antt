-- A null handle raises Constraint_Error, a foreign one Program_Error, a released one stops the run.
use Rattle.std.proofs.Common.{None, Some, [], codes, refl, ◌∷◌, ◌≡◌}
use Rattle.ctl_program.specs.declared.operators.SubpoolFunction.TheVariants.{Mark}
use Rattle.ctl_program.specs.declared.types.Ty.TheVariants.{Access, Handle, Record}
use Rattle.ctl_tree.specs.declared.ending.End.TheVariants.{Stopped}
use Rattle.ctl_tree.specs.declared.ending.Stop.TheVariants.{ReleasedSubpool}
use Rattle.ctl_meaning.proofs.worked.Build.{Program, access_type, assign, at, block, checked, collections, computed, constant, counted_type, discriminant, is_computed, master, new, newline, object, pool, print, prints_a, prints_f, procedure, program, put_text, release, silent, subpool, value, variable, when}
use Rattle.ctl_meaning.specs.Choice.{newest}
use Rattle.ctl_meaning.specs.Run.{Outcome, opened_meaning, outcome}

abbrev the_program : Program
the_program =
    program (counted_type ∷ [])
    (access_type 2 2 (Record 4) (Some (at 2 0)) ∷ [])
    (prints_a ∷
    prints_f ∷
    procedure 0 (master 0 (silent ∷ silent ∷ silent ∷ silent ∷ silent ∷ []) (block 7 (pool 0 3 (discriminant 0 (constant 32) ∷ []) ∷ pool 1 3 (discriminant 0 (constant 32) ∷ []) ∷ silent ∷ silent ∷ collections (0 ∷ []) ∷ object 3 (Access 0) None ∷ object 4 (Access 0) None ∷ object 5 Handle None ∷ object 6 Handle None ∷ []) (block 0 [] (assign (variable 2 3) (new 0 (Record 4) (Some (value 2 6 Handle)) None) ∷ []) (when 0 (put_text (codes "CE") ∷ []) ∷ []) ∷ assign (variable 2 6) (subpool Mark (variable 2 1)) ∷ block 0 [] (assign (variable 2 3) (new 0 (Record 4) (Some (value 2 6 Handle)) None) ∷ []) (when 1 (put_text (codes "PE") ∷ []) ∷ []) ∷ assign (variable 2 6) (subpool Mark (variable 2 0)) ∷ assign (variable 2 5) (value 2 6 Handle) ∷ release (variable 2 6) ∷ assign (variable 2 3) (new 0 (Record 4) (Some (value 2 5 Handle)) None) ∷ []) [] ∷ []) []) ∷ [])
    2

abbrev the_outcome : Outcome
the_outcome = record {
  trace = print (codes "CE") ∷ newline ∷ print (codes "PE") ∷ newline ∷ [];
  picks = [];
  end = (Some (Stopped ReleasedSubpool));
  ticks = 59;
}

computes : computed the_program newest 300 ≡ the_outcome
unfolding opened_meaning computed
computes = refl

runs : outcome (checked the_program) newest 300 ≡ the_outcome
runs = is_computed the_program newest 300 _ computes
