-- A collection that is frozen after an object is finalized before it.
use Rattle.std.proofs.Common.{None, Some, [], codes, refl, ◌++◌, ◌∷◌, ◌≡◌}
use Rattle.ctl_program.specs.declared.expression.Step.TheVariants.{Component, Dereference}
use Rattle.ctl_program.specs.declared.operators.BinaryOp.TheVariants.{Equal}
use Rattle.ctl_program.specs.declared.types.Ty.TheVariants.{Access, Boolean, Record}
use Rattle.ctl_tree.specs.declared.ending.End.TheVariants.{Done}
use Rattle.ctl_meaning.proofs.worked.Build.{Program, access_type, arm, assign, block, chain, checked, choose, collected, collections, computed, constant, counted_type, finalized, free, freed, image, is_computed, live, master, name, new, newline, object, of_collection, of_master, operand, part, print, prints_a, prints_f, procedure, program, put_text, scope, silent, value, variable}
use Rattle.ctl_meaning.specs.Choice.{newest}
use Rattle.ctl_meaning.specs.Run.{Outcome, opened_meaning, outcome}

abbrev the_program : Program
the_program =
    program (counted_type ∷ [])
    (access_type 2 0 (Record 4) None ∷ [])
    (prints_a ∷
    prints_f ∷
    procedure 0 (master 0 (silent ∷ silent ∷ silent ∷ silent ∷ silent ∷ []) (block 4 (silent ∷ object 1 (Record 4) None ∷ collections (0 ∷ []) ∷ silent ∷ object 2 (Access 0) None ∷ object 3 (Access 0) None ∷ []) (assign (name 2 1 (Component 4 1 ∷ [])) (constant 9) ∷ assign (variable 2 2) (new 0 (Record 4) None None) ∷ assign (name 2 2 (Dereference ∷ Component 4 1 ∷ [])) (constant 1) ∷ assign (variable 2 3) (new 0 (Record 4) None None) ∷ assign (name 2 3 (Dereference ∷ Component 4 1 ∷ [])) (constant 2) ∷ free 0 (variable 2 2) ∷ choose (arm (chain (value 2 2 (Access 0)) (operand Equal Boolean (constant 0)) []) (put_text (codes "null") ∷ []) ∷ []) [] ∷ []) [] ∷ []) []) ∷ [])
    2

abbrev the_outcome : Outcome
the_outcome = record {
  trace = live (part 1 []) (of_master 2) ∷ live (part 4 []) (of_collection 1) ∷ live (part 5 []) (of_collection 1) ∷ finalized (part 4 []) freed ∷ print (codes "F" ++ image 1) ∷ newline ∷ print (codes "null") ∷ newline ∷ finalized (part 5 []) collected ∷ print (codes "F" ++ image 2) ∷ newline ∷ finalized (part 1 []) scope ∷ print (codes "F" ++ image 9) ∷ newline ∷ [];
  picks = [];
  end = Some Done;
  ticks = 93;
}

computes : computed the_program newest 300 ≡ the_outcome
unfolding opened_meaning computed
computes = refl

runs : outcome (checked the_program) newest 300 ≡ the_outcome
runs = is_computed the_program newest 300 _ computes
