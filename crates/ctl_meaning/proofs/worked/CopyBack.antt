-- An `in out` copy does not go back where the subprogram raises.
use Rattle.std.proofs.Common.{Some, [], codes, refl, ◌++◌, ◌∷◌, ◌≡◌}
use Rattle.ctl_program.specs.declared.operators.CopyStart.TheVariants.{Actual as FromActual}
use Rattle.ctl_program.specs.declared.types.Ty.TheVariants.{Integer}
use Rattle.ctl_tree.specs.declared.ending.End.TheVariants.{Done}
use Rattle.ctl_meaning.proofs.worked.Build.{Program, assign, block, by_copy, call, checked, computed, constant, counted_type, image, integer_image, is_computed, master, newline, object, print, prints_a, prints_f, procedure, program, put_line, raise, silent, text, value, variable, when}
use Rattle.ctl_meaning.specs.Choice.{newest}
use Rattle.ctl_meaning.specs.Run.{Outcome, opened_meaning, outcome}

abbrev the_program : Program
the_program =
    program (counted_type ∷ [])
    []
    (prints_a ∷
    prints_f ∷
    procedure 2 (master 1 [] (assign (variable 3 0) (constant 9) ∷ raise 0 ∷ []) []) ∷
    procedure 0 (master 0 (silent ∷ silent ∷ silent ∷ silent ∷ silent ∷ []) (block 1 (object 0 Integer (Some (constant 1)) ∷ silent ∷ []) (call 2 (by_copy (variable 2 0) Integer FromActual ∷ []) ∷ []) (when 0 (put_line (text (codes "N") ∷ integer_image (value 2 0 Integer) ∷ []) ∷ []) ∷ []) ∷ []) []) ∷ [])
    3

abbrev the_outcome : Outcome
the_outcome = record {
  trace = print (codes "N" ++ image 1) ∷ newline ∷ [];
  picks = [];
  end = Some Done;
  ticks = 28;
}

computes : computed the_program newest 300 ≡ the_outcome
unfolding opened_meaning computed
computes = refl

runs : outcome (checked the_program) newest 300 ≡ the_outcome
runs = is_computed the_program newest 300 _ computes
