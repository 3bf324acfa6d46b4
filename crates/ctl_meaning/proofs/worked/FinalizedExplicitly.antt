-- A class-wide object is finalized by an explicit call, by its own type, and once more at its end.
use Rattle.std.proofs.Common.{None, Some, [], codes, refl, ◌++◌, ◌∷◌, ◌≡◌}
use Rattle.ctl_program.specs.declared.expression.Step.TheVariants.{Component, Dereference}
use Rattle.ctl_program.specs.declared.operators.BinaryOp.TheVariants.{Equal}
use Rattle.ctl_program.specs.declared.operators.Operation.TheVariants.{Finalize}
use Rattle.ctl_program.specs.declared.types.Root.TheVariants.{Controlled}
use Rattle.ctl_program.specs.declared.types.Ty.TheVariants.{Access, Boolean, Integer, Record}
use Rattle.ctl_tree.specs.declared.ending.End.TheVariants.{Done}
use Rattle.ctl_meaning.proofs.worked.Build.{Program, access_to, access_type, arm, assign, at, block, chain, checked, choose, collections, component, computed, constant, convert, counted_type, dispatch, finalized, image, integer_image, is_computed, live, master, name, newline, object, of_master, operand, operations, part, print, prints_a, prints_f, procedure, program, put_line, put_text, read, record_type, scope, silent, text, value, variable}
use Rattle.ctl_meaning.specs.Choice.{newest}
use Rattle.ctl_meaning.specs.Run.{Outcome, opened_meaning, outcome}

abbrev the_program : Program
the_program =
    program (counted_type ∷ record_type 2 Controlled (Some 4) (component Integer None ∷ []) (operations None (Some 0) (Some 2)) ∷ [])
    (access_type 2 0 (Record 4) None ∷ access_type 2 1 (Record 4) None ∷ [])
    (prints_a ∷
    prints_f ∷
    procedure 2 (master 1 [] (put_line (text (codes "R") ∷ integer_image (read (name 3 0 (Component 5 1 ∷ [])) Integer) ∷ integer_image (read (name 3 0 (Component 5 2 ∷ [])) Integer) ∷ []) ∷ []) []) ∷
    procedure 0 (master 0 (silent ∷ silent ∷ silent ∷ silent ∷ silent ∷ []) (block 6 (silent ∷ silent ∷ silent ∷ collections (0 ∷ []) ∷ object 2 (Access 0) None ∷ object 3 (Access 0) None ∷ object 4 (Record 5) None ∷ collections (1 ∷ []) ∷ object 5 (Access 1) None ∷ []) (assign (name 2 4 (Component 5 1 ∷ [])) (constant 3) ∷ assign (variable 2 5) (access_to (at 2 4)) ∷ dispatch Finalize (name 2 5 (Dereference ∷ [])) ∷ assign (variable 2 5) (convert (Access 1) (value 2 2 (Access 0))) ∷ choose (arm (chain (value 2 5 (Access 1)) (operand Equal Boolean (constant 0)) []) (put_text (codes "null") ∷ []) ∷ []) [] ∷ []) [] ∷ []) []) ∷
    [])
    3

abbrev the_outcome : Outcome
the_outcome = record {
  trace = live (part 3 []) (of_master 2) ∷ print ((codes "R" ++ image 3) ++ image 0) ∷ newline ∷ print (codes "null") ∷ newline ∷ finalized (part 3 []) scope ∷ print ((codes "R" ++ image 3) ++ image 0) ∷ newline ∷ [];
  picks = [];
  end = Some Done;
  ticks = 80;
}

computes : computed the_program newest 100 ≡ the_outcome
unfolding opened_meaning computed
computes = refl

runs : outcome (checked the_program) newest 100 ≡ the_outcome
runs = is_computed the_program newest 100 _ computes
