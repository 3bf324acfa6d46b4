-- An exit statement leaves two blocks, whose objects are finalized from the inner one on.
use Rattle.std.proofs.Common.{None, Some, [], codes, refl, ◌∷◌, ◌≡◌}
use Rattle.ctl_program.specs.declared.types.Root.TheVariants.{Controlled}
use Rattle.ctl_program.specs.declared.types.Ty.TheVariants.{Record}
use Rattle.ctl_tree.specs.declared.ending.End.TheVariants.{Done}
use Rattle.ctl_meaning.proofs.worked.Build.{Program, block, checked, computed, exit, finalized, initialized, is_computed, live, loop, master, newline, object, of_master, operations, part, print, procedure, program, put_text, record_type, scope, silent}
use Rattle.ctl_meaning.specs.Choice.{newest}
use Rattle.ctl_meaning.specs.Run.{Outcome, opened_meaning, outcome}

abbrev the_program : Program
the_program =
    program (record_type 1 Controlled (Some 0) [] (operations None None (Some 0)) ∷ record_type 1 Controlled (Some 0) [] (operations (Some 1) None (Some 2)) ∷ [])
    []
    (procedure 1 (master 1 [] (put_text (codes "a") ∷ []) []) ∷
    procedure 1 (master 1 [] (put_text (codes "i") ∷ []) []) ∷
    procedure 1 (master 1 [] (put_text (codes "b") ∷ []) []) ∷
    procedure 0 (master 0 (silent ∷ silent ∷ silent ∷ silent ∷ silent ∷ silent ∷ silent ∷ silent ∷ []) (loop (block 1 (object 0 (Record 4) None ∷ []) (block 1 (object 0 (Record 5) None ∷ []) (exit None ∷ []) [] ∷ []) [] ∷ []) ∷ put_text (codes "out") ∷ []) []) ∷
    [])
    3

abbrev the_outcome : Outcome
the_outcome = record {
  trace = live (part 1 []) (of_master 2) ∷ initialized (part 2 []) ∷ print (codes "i") ∷ newline ∷ live (part 2 []) (of_master 3) ∷ finalized (part 2 []) scope ∷ print (codes "b") ∷ newline ∷ finalized (part 1 []) scope ∷ print (codes "a") ∷ newline ∷ print (codes "out") ∷ newline ∷ [];
  picks = [];
  end = Some Done;
  ticks = 40;
}

computes : computed the_program newest 100 ≡ the_outcome
unfolding opened_meaning computed
computes = refl

runs : outcome (checked the_program) newest 100 ≡ the_outcome
runs = is_computed the_program newest 100 _ computes
