-- A Finalize that raises, in a block that is left by exit: the other objects are finalized, and then Program_Error is raised.
use Rattle.std.proofs.Common.{None, Some, [], codes, refl, ◌++◌, ◌∷◌, ◌≡◌}
use Rattle.ctl_program.specs.declared.expression.Step.TheVariants.{Component}
use Rattle.ctl_program.specs.declared.types.Root.TheVariants.{Controlled}
use Rattle.ctl_program.specs.declared.types.Ty.TheVariants.{Record}
use Rattle.ctl_tree.specs.declared.ending.End.TheVariants.{Done}
use Rattle.ctl_meaning.proofs.worked.Build.{Program, assign, block, checked, computed, constant, counted_type, exit, finalized, image, is_computed, live, loop, master, name, newline, object, of_master, operations, part, print, prints_a, prints_f, procedure, program, put_text, raise, record_type, scope, silent, when}
use Rattle.ctl_meaning.specs.Choice.{newest}
use Rattle.ctl_meaning.specs.Run.{Outcome, opened_meaning, outcome}

abbrev the_program : Program
the_program =
    program (counted_type ∷ record_type 2 Controlled (Some 4) [] (operations None (Some 0) (Some 2)) ∷ [])
    []
    (prints_a ∷
    prints_f ∷
    procedure 2 (master 1 [] (put_text (codes "R") ∷ raise 0 ∷ []) []) ∷
    procedure 0 (master 0 (silent ∷ silent ∷ silent ∷ silent ∷ silent ∷ []) (loop (block 1 (silent ∷ silent ∷ silent ∷ object 0 (Record 4) None ∷ []) (assign (name 2 0 (Component 4 1 ∷ [])) (constant 1) ∷ block 2 (object 0 (Record 4) None ∷ object 1 (Record 5) None ∷ []) (assign (name 3 0 (Component 4 1 ∷ [])) (constant 2) ∷ exit None ∷ []) [] ∷ []) (when 1 (put_text (codes "PE") ∷ []) ∷ []) ∷ exit None ∷ []) ∷ put_text (codes "after") ∷ []) []) ∷ [])
    3

abbrev the_outcome : Outcome
the_outcome = record {
  trace = live (part 1 []) (of_master 2) ∷ live (part 2 []) (of_master 3) ∷ live (part 3 []) (of_master 3) ∷ finalized (part 3 []) scope ∷ print (codes "R") ∷ newline ∷ finalized (part 2 []) scope ∷ print (codes "F" ++ image 2) ∷ newline ∷ print (codes "PE") ∷ newline ∷ finalized (part 1 []) scope ∷ print (codes "F" ++ image 1) ∷ newline ∷ print (codes "after") ∷ newline ∷ [];
  picks = [];
  end = Some Done;
  ticks = 78;
}

computes : computed the_program newest 300 ≡ the_outcome
unfolding opened_meaning computed
computes = refl

runs : outcome (checked the_program) newest 300 ≡ the_outcome
runs = is_computed the_program newest 300 _ computes
