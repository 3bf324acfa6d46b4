-- Free of an object that is gone stops the run.
use Rattle.std.proofs.Common.{None, Some, [], codes, refl, ◌++◌, ◌∷◌, ◌≡◌}
use Rattle.ctl_program.specs.declared.expression.Step.TheVariants.{Component, Dereference}
use Rattle.ctl_program.specs.declared.types.Ty.TheVariants.{Access, Record}
use Rattle.ctl_tree.specs.declared.ending.End.TheVariants.{Stopped}
use Rattle.ctl_tree.specs.declared.ending.Stop.TheVariants.{UseAfterFree}
use Rattle.ctl_meaning.proofs.worked.Build.{Program, access_type, assign, block, checked, collections, computed, constant, counted_type, finalized, free, freed, image, is_computed, live, master, name, new, newline, object, of_collection, part, print, prints_a, prints_f, procedure, program, put_text, silent, value, variable, when}
use Rattle.ctl_meaning.specs.Choice.{newest}
use Rattle.ctl_meaning.specs.Run.{Outcome, opened_meaning, outcome}

abbrev the_program : Program
the_program =
    program (counted_type ∷ [])
    (access_type 2 0 (Record 4) None ∷ [])
    (prints_a ∷
    prints_f ∷
    procedure 0 (master 0 (silent ∷ silent ∷ silent ∷ silent ∷ silent ∷ []) (block 3 (collections (0 ∷ []) ∷ silent ∷ object 1 (Access 0) None ∷ object 2 (Access 0) None ∷ []) (block 0 [] (assign (name 2 1 (Dereference ∷ Component 4 1 ∷ [])) (constant 1) ∷ []) (when 0 (put_text (codes "CE") ∷ []) ∷ []) ∷ assign (variable 2 1) (new 0 (Record 4) None None) ∷ assign (variable 2 2) (value 2 1 (Access 0)) ∷ free 0 (variable 2 1) ∷ free 0 (variable 2 1) ∷ free 0 (variable 2 2) ∷ []) [] ∷ []) []) ∷
    [])
    2

abbrev the_outcome : Outcome
the_outcome = record {
  trace = print (codes "CE") ∷ newline ∷ live (part 3 []) (of_collection 1) ∷ finalized (part 3 []) freed ∷ print (codes "F" ++ image 0) ∷ newline ∷ [];
  picks = [];
  end = Some (Stopped UseAfterFree);
  ticks = 46;
}

computes : computed the_program newest 100 ≡ the_outcome
unfolding opened_meaning computed
computes = refl

runs : outcome (checked the_program) newest 100 ≡ the_outcome
runs = is_computed the_program newest 100 _ computes
