-- General access values, a conversion between access types, and their equality.
use Rattle.std.proofs.Common.{None, Some, [], codes, refl, ◌++◌, ◌∷◌, ◌≡◌}
use Rattle.ctl_program.specs.declared.expression.Step.TheVariants.{Component, Dereference}
use Rattle.ctl_program.specs.declared.operators.BinaryOp.TheVariants.{Equal}
use Rattle.ctl_program.specs.declared.types.Ty.TheVariants.{Access, Boolean, Integer, Record}
use Rattle.ctl_tree.specs.declared.ending.End.TheVariants.{Done}
use Rattle.ctl_meaning.proofs.worked.Build.{Program, access_to, access_type, arm, assign, at, block, chain, checked, choose, collected, collections, computed, constant, convert, counted_type, finalized, image, integer_image, is_computed, live, master, name, new, newline, object, of_collection, of_master, operand, part, print, prints_a, prints_f, procedure, program, put_line, put_text, read, scope, silent, text, value, variable}
use Rattle.ctl_meaning.specs.Choice.{newest}
use Rattle.ctl_meaning.specs.Run.{Outcome, opened_meaning, outcome}

abbrev the_program : Program
the_program =
    program (counted_type ∷ [])
    (access_type 2 0 (Record 4) None ∷ access_type 2 1 (Record 4) None ∷ [])
    (prints_a ∷
    prints_f ∷
    procedure 0 (master 0 (silent ∷ silent ∷ silent ∷ silent ∷ silent ∷ []) (block 5 (object 2 (Record 4) None ∷ collections (0 ∷ []) ∷ object 3 (Access 0) None ∷ collections (1 ∷ []) ∷ object 4 (Access 1) None ∷ []) (assign (name 2 2 (Component 4 1 ∷ [])) (constant 4) ∷ assign (variable 2 4) (access_to (at 2 2)) ∷ assign (name 2 4 (Dereference ∷ Component 4 1 ∷ [])) (constant 5) ∷ assign (variable 2 3) (new 0 (Record 4) None None) ∷ assign (name 2 3 (Dereference ∷ Component 4 1 ∷ [])) (constant 6) ∷ assign (variable 2 4) (convert (Access 1) (value 2 3 (Access 0))) ∷ put_line (text (codes "v") ∷ integer_image (read (name 2 4 (Dereference ∷ Component 4 1 ∷ [])) Integer) ∷ []) ∷ choose (arm (chain (value 2 4 (Access 1)) (operand Equal Boolean (convert (Access 1) (value 2 3 (Access 0)))) []) (put_text (codes "same") ∷ []) ∷ []) [] ∷ []) [] ∷ []) []) ∷
    [])
    2

abbrev the_outcome : Outcome
the_outcome = record {
  trace = live (part 1 []) (of_master 2) ∷ live (part 4 []) (of_collection 1) ∷ print (codes "v" ++ image 6) ∷ newline ∷ print (codes "same") ∷ newline ∷ finalized (part 4 []) collected ∷ print (codes "F" ++ image 6) ∷ newline ∷ finalized (part 1 []) scope ∷ print (codes "F" ++ image 5) ∷ newline ∷ [];
  picks = [];
  end = Some Done;
  ticks = 93;
}

computes : computed the_program newest 100 ≡ the_outcome
unfolding opened_meaning computed
computes = refl

runs : outcome (checked the_program) newest 100 ≡ the_outcome
runs = is_computed the_program newest 100 _ computes
