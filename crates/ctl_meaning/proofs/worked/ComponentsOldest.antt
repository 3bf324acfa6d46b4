-- The same with the first component first.
use Rattle.std.proofs.Common.{None, Some, [], codes, refl, ◌++◌, ◌∷◌, ◌≡◌}
use Rattle.ctl_program.specs.declared.expression.Step.TheVariants.{Component}
use Rattle.ctl_program.specs.declared.types.Root.TheVariants.{Controlled}
use Rattle.ctl_program.specs.declared.types.Ty.TheVariants.{Record}
use Rattle.ctl_tree.specs.declared.ending.End.TheVariants.{Done}
use Rattle.ctl_meaning.proofs.worked.Build.{Program, assign, block, checked, component, computed, constant, counted_type, finalized, image, is_computed, live, master, name, newline, object, of_master, operations, part, pick, print, prints_a, prints_f, procedure, program, put_text, record_type, scope, silent}
use Rattle.ctl_meaning.specs.Choice.{oldest}
use Rattle.ctl_meaning.specs.Run.{Outcome, opened_meaning, outcome}

abbrev the_program : Program
the_program =
    program (counted_type ∷ record_type 2 Controlled (Some 1) (component (Record 4) None ∷ component (Record 4) None ∷ []) (operations None None (Some 2)) ∷ [])
    []
    (prints_a ∷
    prints_f ∷
    procedure 2 (master 1 [] (put_text (codes "whole") ∷ []) []) ∷
    procedure 0 (master 0 (silent ∷ silent ∷ silent ∷ silent ∷ silent ∷ []) (block 1 (silent ∷ silent ∷ silent ∷ object 0 (Record 5) None ∷ []) (assign (name 2 0 (Component 5 1 ∷ Component 4 1 ∷ [])) (constant 1) ∷ assign (name 2 0 (Component 5 2 ∷ Component 4 1 ∷ [])) (constant 2) ∷ []) [] ∷ []) []) ∷ [])
    3

abbrev the_outcome : Outcome
the_outcome = record {
  trace = live (part 1 (1 ∷ [])) (of_master 2) ∷ live (part 1 (2 ∷ [])) (of_master 2) ∷ live (part 1 []) (of_master 2) ∷ finalized (part 1 []) scope ∷ print (codes "whole") ∷ newline ∷ finalized (part 1 (1 ∷ [])) scope ∷ print (codes "F" ++ image 1) ∷ newline ∷ finalized (part 1 (2 ∷ [])) scope ∷ print (codes "F" ++ image 2) ∷ newline ∷ [];
  picks = (pick 2 0) ∷ (pick 2 0) ∷ [];
  end = Some Done;
  ticks = 66;
}

computes : computed the_program oldest 300 ≡ the_outcome
unfolding opened_meaning computed
computes = refl

runs : outcome (checked the_program) oldest 300 ≡ the_outcome
runs = is_computed the_program oldest 300 _ computes
