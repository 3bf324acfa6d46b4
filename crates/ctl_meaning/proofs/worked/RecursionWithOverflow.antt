-- The same with a result beyond the last Integer.
use Rattle.std.proofs.Common.{None, Some, [], codes, refl, ◌++◌, ◌∷◌, ◌≡◌}
use Rattle.ctl_program.specs.declared.expression.Step.TheVariants.{Component}
use Rattle.ctl_program.specs.declared.operators.BinaryOp.TheVariants.{Less, Multiply, Subtract}
use Rattle.ctl_program.specs.declared.types.Ty.TheVariants.{Boolean, Integer, Record}
use Rattle.ctl_tree.specs.declared.ending.End.TheVariants.{Raised}
use Rattle.ctl_meaning.proofs.worked.Build.{Program, arm, assign, block, by_name, by_value, call, call_of, chain, checked, choose, computed, constant, counted_type, finalized, function, image, integer_image, is_computed, live, master, name, newline, object, of_master, operand, part, print, prints_a, prints_f, procedure, program, put_line, read, return, scope, silent, text, value, variable}
use Rattle.ctl_meaning.specs.Choice.{newest}
use Rattle.ctl_meaning.specs.Run.{Outcome, opened_meaning, outcome}

abbrev the_program : Program
the_program =
    program (counted_type ∷ [])
    []
    (prints_a ∷
    prints_f ∷
    function 2 (master 1 [] (choose (arm (chain (value 3 0 Integer) (operand Less Boolean (constant 2)) []) (return (Some (constant 1)) ∷ []) ∷ []) [] ∷ return (Some (chain (value 3 0 Integer) (operand Multiply Integer (call_of 2 (by_value (chain (value 3 0 Integer) (operand Subtract Integer (constant 1)) []) Integer ∷ []) Integer)) [])) ∷ []) []) ∷
    function 2 (master 1 (object 0 (Record 4) None ∷ []) (assign (name 3 0 (Component 4 1 ∷ [])) (constant 7) ∷ return (Some (read (name 3 0 (Component 4 1 ∷ [])) Integer)) ∷ []) []) ∷
    procedure 2 (master 1 [] (assign (name 3 0 (Component 4 1 ∷ [])) (constant 5) ∷ []) []) ∷
    procedure 0 (master 0 (silent ∷ silent ∷ silent ∷ silent ∷ silent ∷ []) (block 1 (silent ∷ silent ∷ silent ∷ object 0 (Record 4) None ∷ []) (put_line (text (codes "f") ∷ integer_image (call_of 2 (by_value (constant 13) Integer ∷ []) Integer) ∷ []) ∷ put_line (text (codes "g") ∷ integer_image (call_of 3 [] Integer) ∷ []) ∷ call 4 (by_name (variable 2 0) (Record 4) ∷ []) ∷ []) [] ∷ []) []) ∷
    [])
    5

abbrev the_outcome : Outcome
the_outcome = record {
  trace = live (part 1 []) (of_master 2) ∷ finalized (part 1 []) scope ∷ print (codes "F" ++ image 0) ∷ newline ∷ [];
  picks = [];
  end = Some (Raised (codes "Constraint_Error"));
  ticks = 261;
}

computes : computed the_program newest 100 ≡ the_outcome
unfolding opened_meaning computed
computes = refl

runs : outcome (checked the_program) newest 100 ≡ the_outcome
runs = is_computed the_program newest 100 _ computes
