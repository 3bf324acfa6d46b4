-- An Adjust that raises in a declaration.
use Rattle.std.proofs.Common.{None, Some, [], codes, refl, ◌++◌, ◌∷◌, ◌≡◌}
use Rattle.ctl_program.specs.declared.types.Root.TheVariants.{Controlled}
use Rattle.ctl_program.specs.declared.types.Ty.TheVariants.{Record}
use Rattle.ctl_tree.specs.declared.ending.End.TheVariants.{Done}
use Rattle.ctl_meaning.proofs.worked.Build.{Program, adjusted, block, checked, computed, counted_type, finalized, image, is_computed, live, master, newline, object, of_master, operations, part, print, prints_a, prints_f, procedure, program, put_text, raise, record_type, scope, silent, value, when}
use Rattle.ctl_meaning.specs.Choice.{newest}
use Rattle.ctl_meaning.specs.Run.{Outcome, opened_meaning, outcome}

abbrev the_program : Program
the_program =
    program (counted_type ∷ record_type 2 Controlled (Some 4) [] (operations None (Some 2) (Some 1)) ∷ [])
    []
    (prints_a ∷
    prints_f ∷
    procedure 2 (master 1 [] (raise 0 ∷ []) []) ∷
    procedure 0 (master 0 (silent ∷ silent ∷ silent ∷ silent ∷ silent ∷ []) (block 1 (silent ∷ silent ∷ silent ∷ object 0 (Record 5) None ∷ []) (block 1 (object 0 (Record 5) (Some (value 2 0 (Record 5))) ∷ []) (put_text (codes "no") ∷ []) [] ∷ []) (when 1 (put_text (codes "PE") ∷ []) ∷ []) ∷ []) []) ∷ [])
    3

abbrev the_outcome : Outcome
the_outcome = record {
  trace = live (part 1 []) (of_master 2) ∷ adjusted (part 2 []) ∷ print (codes "PE") ∷ newline ∷ finalized (part 1 []) scope ∷ print (codes "F" ++ image 0) ∷ newline ∷ [];
  picks = [];
  end = Some Done;
  ticks = 41;
}

computes : computed the_program newest 300 ≡ the_outcome
unfolding opened_meaning computed
computes = refl

runs : outcome (checked the_program) newest 300 ≡ the_outcome
runs = is_computed the_program newest 300 _ computes
