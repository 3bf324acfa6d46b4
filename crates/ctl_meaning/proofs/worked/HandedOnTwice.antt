-- The record that a function gives is handed on twice as a formal, and holds its value in the innermost body.
use Rattle.std.proofs.Common.{None, Some, [], refl, ◌∷◌, ◌≡◌}
use Rattle.ctl_program.specs.declared.expression.Step.TheVariants.{Component}
use Rattle.ctl_program.specs.declared.types.Root.TheVariants.{Untagged}
use Rattle.ctl_program.specs.declared.types.Ty.TheVariants.{Integer, Record}
use Rattle.ctl_tree.specs.declared.ending.End.TheVariants.{Done}
use Rattle.ctl_meaning.proofs.worked.Build.{Program, assign, by_name, by_value, call, call_of, checked, component, computed, constant, function, image, integer_image, is_computed, master, name, newline, no_operations, object, print, procedure, program, put_line, read, record_type, return, silent, value, variable}
use Rattle.ctl_meaning.specs.Choice.{newest}
use Rattle.ctl_meaning.specs.Run.{Outcome, opened_meaning, outcome}

abbrev the_program : Program
the_program =
    program (record_type 1 Untagged None (component Integer None ∷ []) no_operations ∷ [])
    []
    (function 1 (master 1 (object 0 (Record 4) None ∷ []) (assign (name 2 0 (Component 4 1 ∷ [])) (constant 7) ∷ return (Some (value 2 0 (Record 4))) ∷ []) []) ∷
    procedure 1 (master 1 [] (put_line (integer_image (read (name 2 0 (Component 4 1 ∷ [])) Integer) ∷ []) ∷ []) []) ∷
    procedure 1 (master 1 [] (call 1 (by_name (variable 2 0) (Record 4) ∷ []) ∷ []) []) ∷
    procedure 1 (master 1 [] (call 2 (by_name (variable 2 0) (Record 4) ∷ []) ∷ []) []) ∷
    procedure 0 (master 0 (silent ∷ silent ∷ silent ∷ silent ∷ silent ∷ []) (call 3 (by_value (call_of 0 [] (Record 4)) (Record 4) ∷ []) ∷ []) []) ∷ [])
    4

abbrev the_outcome : Outcome
the_outcome = record {
  trace = print (image 7) ∷ newline ∷ [];
  picks = [];
  end = Some Done;
  ticks = 40;
}

computes : computed the_program newest 300 ≡ the_outcome
unfolding opened_meaning computed
computes = refl

runs : outcome (checked the_program) newest 300 ≡ the_outcome
runs = is_computed the_program newest 300 _ computes
