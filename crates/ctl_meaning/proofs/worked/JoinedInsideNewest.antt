-- Members that join while another one is created, the last first.
use Rattle.std.proofs.Common.{None, Some, [], codes, refl, ◌++◌, ◌∷◌, ◌≡◌}
use Rattle.ctl_program.specs.declared.expression.Step.TheVariants.{Component}
use Rattle.ctl_program.specs.declared.operators.BinaryOp.TheVariants.{Add, Less}
use Rattle.ctl_program.specs.declared.types.Root.TheVariants.{Controlled}
use Rattle.ctl_program.specs.declared.types.Ty.TheVariants.{Access, Boolean, Integer, Record}
use Rattle.ctl_tree.specs.declared.ending.End.TheVariants.{Done}
use Rattle.ctl_meaning.proofs.worked.Build.{Program, access_type, arm, assign, block, chain, checked, choose, collected, collections, component, computed, constant, counted_type, finalized, image, initialized, integer_image, is_computed, live, master, name, new, newline, object, of_collection, operand, operations, part, pick, print, prints_a, prints_f, procedure, program, put_line, read, record_type, silent, text, value, variable}
use Rattle.ctl_meaning.specs.Choice.{newest}
use Rattle.ctl_meaning.specs.Run.{Outcome, opened_meaning, outcome}

abbrev the_program : Program
the_program =
    program (counted_type ∷ record_type 2 Controlled (Some 1) (component Integer (Some (constant 0)) ∷ component (Access 0) None ∷ []) (operations (Some 2) None (Some 3)) ∷ [])
    (access_type 2 1 (Record 5) None ∷ [])
    (prints_a ∷
    prints_f ∷
    procedure 2 (master 1 [] (assign (variable 2 0) (chain (value 2 0 Integer) (operand Add Integer (constant 1)) []) ∷ assign (name 3 0 (Component 5 1 ∷ [])) (value 2 0 Integer) ∷ choose (arm (chain (value 2 0 Integer) (operand Less Boolean (constant 3)) []) (assign (name 3 0 (Component 5 2 ∷ [])) (new 0 (Record 5) None None) ∷ []) ∷ []) [] ∷ []) []) ∷
    procedure 2 (master 1 [] (put_line (text (codes "N") ∷ integer_image (read (name 3 0 (Component 5 1 ∷ [])) Integer) ∷ []) ∷ []) []) ∷
    procedure 0 (master 0 (silent ∷ silent ∷ silent ∷ silent ∷ silent ∷ []) (block 3 (object 0 Integer (Some (constant 0)) ∷ silent ∷ silent ∷ silent ∷ silent ∷ silent ∷ collections (0 ∷ []) ∷ silent ∷ silent ∷ object 2 (Access 0) None ∷ []) (assign (variable 2 2) (new 0 (Record 5) None None) ∷ []) [] ∷ []) []) ∷ [])
    4

abbrev the_outcome : Outcome
the_outcome = record {
  trace = initialized (part 3 []) ∷ initialized (part 4 []) ∷ initialized (part 5 []) ∷ live (part 5 []) (of_collection 1) ∷ live (part 4 []) (of_collection 1) ∷ live (part 3 []) (of_collection 1) ∷ finalized (part 5 []) collected ∷ print (codes "N" ++ image 3) ∷ newline ∷ finalized (part 4 []) collected ∷ print (codes "N" ++ image 2) ∷ newline ∷ finalized (part 3 []) collected ∷ print (codes "N" ++ image 1) ∷ newline ∷ [];
  picks = (pick 3 2) ∷ (pick 2 1) ∷ [];
  end = Some Done;
  ticks = 137;
}

computes : computed the_program newest 300 ≡ the_outcome
unfolding opened_meaning computed
computes = refl

runs : outcome (checked the_program) newest 300 ≡ the_outcome
runs = is_computed the_program newest 300 _ computes
