-- Class-wide access: an object is finalized by its own type.
use Rattle.std.proofs.Common.{None, Some, [], codes, refl, ◌++◌, ◌∷◌, ◌≡◌}
use Rattle.ctl_program.specs.declared.expression.Step.TheVariants.{Component, Dereference, Narrow}
use Rattle.ctl_program.specs.declared.operators.BinaryOp.TheVariants.{Add}
use Rattle.ctl_program.specs.declared.types.Root.TheVariants.{Controlled}
use Rattle.ctl_program.specs.declared.types.Ty.TheVariants.{Access, Integer, Record}
use Rattle.ctl_tree.specs.declared.ending.End.TheVariants.{Done}
use Rattle.ctl_meaning.proofs.worked.Build.{Program, access_type, assign, block, by_name, call, chain, checked, collected, collections, component, computed, constant, counted_type, finalized, free, freed, image, integer_image, is_computed, live, master, name, new, newline, object, of_collection, operand, operations, part, print, prints_a, prints_f, procedure, program, put_line, put_text, read, record_type, silent, text, variable, when}
use Rattle.ctl_meaning.specs.Choice.{newest}
use Rattle.ctl_meaning.specs.Run.{Outcome, opened_meaning, outcome}

abbrev the_program : Program
the_program =
    program (counted_type ∷ record_type 2 Controlled (Some 4) (component Integer None ∷ []) (operations None (Some 0) (Some 2)) ∷ [])
    (access_type 2 0 (Record 4) None ∷ [])
    (prints_a ∷
    prints_f ∷
    procedure 2 (master 1 [] (put_line (text (codes "R") ∷ integer_image (read (name 3 0 (Component 5 1 ∷ [])) Integer) ∷ integer_image (read (name 3 0 (Component 5 2 ∷ [])) Integer) ∷ []) ∷ []) []) ∷
    procedure 2 (master 1 [] (assign (name 3 0 (Component 5 2 ∷ [])) (chain (read (name 3 0 (Component 5 2 ∷ [])) Integer) (operand Add Integer (constant 1)) []) ∷ []) []) ∷
    procedure 0 (master 0 (silent ∷ silent ∷ silent ∷ silent ∷ silent ∷ []) (block 3 (silent ∷ silent ∷ silent ∷ collections (0 ∷ []) ∷ silent ∷ silent ∷ silent ∷ object 1 (Access 0) None ∷ object 2 (Access 0) None ∷ []) (assign (variable 2 1) (new 0 (Record 4) None None) ∷ assign (name 2 1 (Dereference ∷ Component 4 1 ∷ [])) (constant 1) ∷ assign (variable 2 2) (new 0 (Record 5) None None) ∷ assign (name 2 2 (Dereference ∷ Component 4 1 ∷ [])) (constant 2) ∷ call 3 (by_name (name 2 2 (Dereference ∷ Narrow 5 ∷ [])) (Record 5) ∷ []) ∷ block 0 [] (call 3 (by_name (name 2 1 (Dereference ∷ Narrow 5 ∷ [])) (Record 5) ∷ []) ∷ []) (when 0 (put_text (codes "CE") ∷ []) ∷ []) ∷ free 0 (variable 2 1) ∷ []) [] ∷ []) []) ∷ [])
    4

abbrev the_outcome : Outcome
the_outcome = record {
  trace = live (part 3 []) (of_collection 1) ∷ live (part 4 []) (of_collection 1) ∷ print (codes "CE") ∷ newline ∷ finalized (part 3 []) freed ∷ print (codes "F" ++ image 1) ∷ newline ∷ finalized (part 4 []) collected ∷ print ((codes "R" ++ image 2) ++ image 1) ∷ newline ∷ [];
  picks = [];
  end = Some Done;
  ticks = 100;
}

computes : computed the_program newest 300 ≡ the_outcome
unfolding opened_meaning computed
computes = refl

runs : outcome (checked the_program) newest 300 ≡ the_outcome
runs = is_computed the_program newest 300 _ computes
