-- An Initialize that raises: the components that are complete are finalized, the one that failed is not.
use Rattle.std.proofs.Common.{None, Some, [], codes, refl, ◌++◌, ◌∷◌, ◌≡◌}
use Rattle.ctl_program.specs.declared.types.Root.TheVariants.{Controlled}
use Rattle.ctl_program.specs.declared.types.Ty.TheVariants.{Record}
use Rattle.ctl_tree.specs.declared.ending.End.TheVariants.{Done}
use Rattle.ctl_meaning.proofs.worked.Build.{Program, block, checked, component, computed, counted_type, failed, finalized, image, initialized, is_computed, live, master, newline, null, object, of_master, operations, part, pick, print, prints_a, prints_f, procedure, program, put_text, raise, record_type, silent, when}
use Rattle.ctl_meaning.specs.Choice.{oldest}
use Rattle.ctl_meaning.specs.Run.{Outcome, opened_meaning, outcome}

abbrev the_program : Program
the_program =
    program (counted_type ∷ record_type 2 Controlled (Some 4) [] (operations (Some 2) (Some 0) (Some 1)) ∷ record_type 3 Controlled (Some 1) (component (Record 4) None ∷ component (Record 4) None ∷ component (Record 5) None ∷ []) (operations None None (Some 3)) ∷ [])
    []
    (prints_a ∷
    prints_f ∷
    procedure 2 (master 1 [] (put_text (codes "bad") ∷ raise 0 ∷ []) []) ∷
    procedure 3 (master 1 [] (put_text (codes "whole") ∷ []) []) ∷
    procedure 0 (master 0 (silent ∷ silent ∷ silent ∷ silent ∷ silent ∷ []) (block 0 (silent ∷ silent ∷ silent ∷ []) (block 1 (silent ∷ silent ∷ silent ∷ object 0 (Record 6) None ∷ []) (null ∷ []) [] ∷ []) (when 0 (put_text (codes "CE") ∷ []) ∷ []) ∷ []) []) ∷ [])
    4

abbrev the_outcome : Outcome
the_outcome = record {
  trace = live (part 1 (1 ∷ [])) (of_master 3) ∷ live (part 1 (2 ∷ [])) (of_master 3) ∷ initialized (part 1 (3 ∷ [])) ∷ print (codes "bad") ∷ newline ∷ finalized (part 1 (1 ∷ [])) failed ∷ print (codes "F" ++ image 0) ∷ newline ∷ finalized (part 1 (2 ∷ [])) failed ∷ print (codes "F" ++ image 0) ∷ newline ∷ print (codes "CE") ∷ newline ∷ [];
  picks = (pick 3 0) ∷ (pick 2 0) ∷ (pick 2 0) ∷ [];
  end = Some Done;
  ticks = 71;
}

computes : computed the_program oldest 300 ≡ the_outcome
unfolding opened_meaning computed
computes = refl

runs : outcome (checked the_program) oldest 300 ≡ the_outcome
runs = is_computed the_program oldest 300 _ computes
