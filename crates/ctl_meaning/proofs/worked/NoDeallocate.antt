-- The end of a collection gives no storage back.
use Rattle.std.proofs.Common.{None, Some, [], codes, refl, ◌++◌, ◌∷◌, ◌≡◌}
use Rattle.ctl_program.specs.declared.expression.Step.TheVariants.{Component, Dereference}
use Rattle.ctl_program.specs.declared.operators.Direction.TheVariants.{Upward}
use Rattle.ctl_program.specs.declared.types.Ty.TheVariants.{Access, Integer, Record}
use Rattle.ctl_tree.specs.declared.ending.End.TheVariants.{Done}
use Rattle.ctl_meaning.proofs.worked.Build.{Program, access_type, assign, at, block, checked, collected, collections, computed, constant, counted_type, discriminant, finalized, for, image, is_computed, live, master, name, new, newline, object, of_collection, part, pool, print, prints_a, prints_f, procedure, program, put_text, silent, value, variable, when}
use Rattle.ctl_meaning.specs.Choice.{newest}
use Rattle.ctl_meaning.specs.Run.{Outcome, opened_meaning, outcome}

abbrev the_program : Program
the_program =
    program (counted_type ∷ [])
    (access_type 3 0 (Record 4) (Some (at 2 0)) ∷ [])
    (prints_a ∷
    prints_f ∷
    procedure 0 (master 0 (silent ∷ silent ∷ silent ∷ silent ∷ silent ∷ []) (block 2 (pool 0 2 (discriminant 0 (constant 16) ∷ discriminant 1 (constant 2) ∷ []) ∷ []) (for (at 2 1) Upward (constant 1) (constant 3) (block 2 (silent ∷ silent ∷ collections (0 ∷ []) ∷ object 1 (Access 0) None ∷ []) (assign (variable 3 1) (new 0 (Record 4) None None) ∷ assign (name 3 1 (Dereference ∷ Component 4 1 ∷ [])) (value 2 1 Integer) ∷ []) [] ∷ []) ∷ []) (when 2 (put_text (codes "SE") ∷ []) ∷ []) ∷ []) []) ∷ [])
    2

abbrev the_outcome : Outcome
the_outcome = record {
  trace = live (part 3 []) (of_collection 1) ∷ finalized (part 3 []) collected ∷ print (codes "F" ++ image 1) ∷ newline ∷ live (part 5 []) (of_collection 2) ∷ finalized (part 5 []) collected ∷ print (codes "F" ++ image 2) ∷ newline ∷ print (codes "SE") ∷ newline ∷ [];
  picks = [];
  end = Some Done;
  ticks = 103;
}

computes : computed the_program newest 300 ≡ the_outcome
unfolding opened_meaning computed
computes = refl

runs : outcome (checked the_program) newest 300 ≡ the_outcome
runs = is_computed the_program newest 300 _ computes
