-- Operators with negative operands, the least Integer, and a sum beyond the last one.
use Rattle.std.proofs.Common.{Some, [], codes, refl, ◌++◌, ◌∷◌, ◌≡◌}
use Rattle.ctl_program.specs.declared.operators.BinaryOp.TheVariants.{Add, Divide, Equal, Greater, Modulo, Remainder, Subtract}
use Rattle.ctl_program.specs.declared.operators.Direction.TheVariants.{Upward}
use Rattle.ctl_program.specs.declared.operators.UnaryOp.TheVariants.{Minus}
use Rattle.ctl_program.specs.declared.types.Ty.TheVariants.{Boolean, Integer}
use Rattle.ctl_tree.specs.declared.ending.End.TheVariants.{Raised}
use Rattle.ctl_meaning.proofs.worked.Build.{Program, arm, assign, at, chain, checked, choose, computed, constant, exit, for, image, integer_image, is_computed, master, negative_image, newline, object, operand, print, procedure, program, put_line, text, unary, value, variable}
use Rattle.ctl_meaning.specs.Choice.{newest}
use Rattle.ctl_meaning.specs.Run.{Outcome, opened_meaning, outcome}

abbrev the_program : Program
the_program =
    program []
    []
    (procedure 0 (master 2 (object 0 Integer (Some (constant 0)) ∷ []) (for (at 1 1) Upward (constant 1) (constant 10) (choose (arm (chain (chain (value 1 1 Integer) (operand Remainder Integer (constant 2)) []) (operand Equal Boolean (constant 0)) []) (assign (variable 1 0) (chain (value 1 0 Integer) (operand Add Integer (value 1 1 Integer)) []) ∷ []) ∷ []) [] ∷ exit (Some (chain (value 1 0 Integer) (operand Greater Boolean (constant 11)) [])) ∷ []) ∷ put_line (text (codes "S") ∷ integer_image (value 1 0 Integer) ∷ []) ∷ put_line (text (codes "q") ∷ integer_image (unary Minus Integer (chain (constant 7) (operand Divide Integer (constant 2)) [])) ∷ []) ∷ put_line (text (codes "r") ∷ integer_image (chain (unary Minus Integer (constant 7)) (operand Remainder Integer (constant 2)) []) ∷ []) ∷ put_line (text (codes "m") ∷ integer_image (chain (unary Minus Integer (constant 7)) (operand Modulo Integer (constant 2)) []) ∷ []) ∷ put_line (text (codes "l") ∷ integer_image (chain (unary Minus Integer (constant 2147483647)) (operand Subtract Integer (constant 1)) []) ∷ []) ∷ assign (variable 1 0) (chain (constant 2147483647) (operand Add Integer (constant 1)) []) ∷ []) []) ∷
    [])
    0

abbrev the_outcome : Outcome
the_outcome = record {
  trace = print (codes "S" ++ image 12) ∷ newline ∷ print (codes "q" ++ negative_image 3) ∷ newline ∷ print (codes "r" ++ negative_image 1) ∷ newline ∷ print (codes "m" ++ image 1) ∷ newline ∷ print (codes "l" ++ negative_image 2147483648) ∷ newline ∷ [];
  picks = [];
  end = Some (Raised (codes "Constraint_Error"));
  ticks = 155;
}

computes : computed the_program newest 100 ≡ the_outcome
unfolding opened_meaning computed
computes = refl

runs : outcome (checked the_program) newest 100 ≡ the_outcome
runs = is_computed the_program newest 100 _ computes
