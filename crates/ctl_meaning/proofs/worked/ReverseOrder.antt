-- Objects are finalized in the reverse order of their creation.
use Rattle.std.proofs.Common.{None, Some, [], codes, refl, ◌++◌, ◌∷◌, ◌≡◌}
use Rattle.ctl_program.specs.declared.expression.Step.TheVariants.{Component}
use Rattle.ctl_program.specs.declared.types.Ty.TheVariants.{Record}
use Rattle.ctl_tree.specs.declared.ending.End.TheVariants.{Done}
use Rattle.ctl_meaning.proofs.worked.Build.{Program, assign, block, checked, computed, constant, counted_type, finalized, image, is_computed, live, master, name, newline, object, of_master, part, print, prints_a, prints_f, procedure, program, put_text, scope, silent}
use Rattle.ctl_meaning.specs.Choice.{newest}
use Rattle.ctl_meaning.specs.Run.{Outcome, opened_meaning, outcome}

abbrev the_program : Program
the_program =
    program (counted_type ∷ [])
    []
    (prints_a ∷
    prints_f ∷
    procedure 0 (master 0 (silent ∷ silent ∷ silent ∷ silent ∷ silent ∷ []) (block 2 (object 0 (Record 4) None ∷ object 1 (Record 4) None ∷ []) (assign (name 2 0 (Component 4 1 ∷ [])) (constant 1) ∷ assign (name 2 1 (Component 4 1 ∷ [])) (constant 2) ∷ []) [] ∷ put_text (codes "done") ∷ []) []) ∷ [])
    2

abbrev the_outcome : Outcome
the_outcome = record {
  trace = live (part 1 []) (of_master 2) ∷ live (part 2 []) (of_master 2) ∷ finalized (part 2 []) scope ∷ print (codes "F" ++ image 2) ∷ newline ∷ finalized (part 1 []) scope ∷ print (codes "F" ++ image 1) ∷ newline ∷ print (codes "done") ∷ newline ∷ [];
  picks = [];
  end = Some Done;
  ticks = 52;
}

computes : computed the_program newest 300 ≡ the_outcome
unfolding opened_meaning computed
computes = refl

runs : outcome (checked the_program) newest 300 ≡ the_outcome
runs = is_computed the_program newest 300 _ computes
