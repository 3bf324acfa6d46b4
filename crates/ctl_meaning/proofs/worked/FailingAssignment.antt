-- A Finalize that raises in an assignment: Program_Error at once, and the target is still finalized with its master.
use Rattle.std.proofs.Common.{None, Some, [], codes, refl, ◌++◌, ◌∷◌, ◌≡◌}
use Rattle.ctl_program.specs.declared.expression.Step.TheVariants.{Component}
use Rattle.ctl_program.specs.declared.operators.BinaryOp.TheVariants.{Equal}
use Rattle.ctl_program.specs.declared.types.Root.TheVariants.{Controlled}
use Rattle.ctl_program.specs.declared.types.Ty.TheVariants.{Boolean, Integer, Record}
use Rattle.ctl_tree.specs.declared.ending.End.TheVariants.{Done}
use Rattle.ctl_meaning.proofs.worked.Build.{Program, arm, assign, assign_record, assigned, block, by_name, chain, checked, choose, computed, constant, counted_type, finalized, image, integer_image, is_computed, live, master, name, newline, object, of_master, operand, operations, part, print, prints_a, prints_f, procedure, program, put_line, put_text, raise, read, record_type, scope, silent, text, variable, when}
use Rattle.ctl_meaning.specs.Choice.{newest}
use Rattle.ctl_meaning.specs.Run.{Outcome, opened_meaning, outcome}

abbrev the_program : Program
the_program =
    program (counted_type ∷ record_type 2 Controlled (Some 4) [] (operations None (Some 0) (Some 2)) ∷ [])
    []
    (prints_a ∷
    prints_f ∷
    procedure 2 (master 1 [] (put_line (text (codes "R") ∷ integer_image (read (name 3 0 (Component 5 1 ∷ [])) Integer) ∷ []) ∷ choose (arm (chain (read (name 3 0 (Component 5 1 ∷ [])) Integer) (operand Equal Boolean (constant 1)) []) (raise 0 ∷ []) ∷ []) [] ∷ []) []) ∷
    procedure 0 (master 0 (silent ∷ silent ∷ silent ∷ silent ∷ silent ∷ []) (block 2 (silent ∷ silent ∷ silent ∷ object 0 (Record 5) None ∷ object 1 (Record 5) None ∷ []) (assign (name 2 0 (Component 5 1 ∷ [])) (constant 1) ∷ assign (name 2 1 (Component 5 1 ∷ [])) (constant 2) ∷ assign_record (variable 2 0) 5 (by_name (variable 2 1) (Record 5)) ∷ []) (when 1 (put_text (codes "PE") ∷ assign (name 2 0 (Component 5 1 ∷ [])) (constant 3) ∷ []) ∷ []) ∷ []) []) ∷ [])
    3

abbrev the_outcome : Outcome
the_outcome = record {
  trace = live (part 1 []) (of_master 2) ∷ live (part 2 []) (of_master 2) ∷ finalized (part 1 []) assigned ∷ print (codes "R" ++ image 1) ∷ newline ∷ print (codes "PE") ∷ newline ∷ finalized (part 2 []) scope ∷ print (codes "R" ++ image 2) ∷ newline ∷ finalized (part 1 []) scope ∷ print (codes "R" ++ image 3) ∷ newline ∷ [];
  picks = [];
  end = Some Done;
  ticks = 96;
}

computes : computed the_program newest 300 ≡ the_outcome
unfolding opened_meaning computed
computes = refl

runs : outcome (checked the_program) newest 300 ≡ the_outcome
runs = is_computed the_program newest 300 _ computes
