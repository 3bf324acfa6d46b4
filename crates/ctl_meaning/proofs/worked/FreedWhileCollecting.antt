-- Members free one another while their collection is finalized.
use Rattle.std.proofs.Common.{None, Some, [], codes, refl, ◌++◌, ◌∷◌, ◌≡◌}
use Rattle.ctl_program.specs.declared.expression.Step.TheVariants.{Component, Dereference}
use Rattle.ctl_program.specs.declared.operators.Direction.TheVariants.{Upward}
use Rattle.ctl_program.specs.declared.types.Root.TheVariants.{Controlled}
use Rattle.ctl_program.specs.declared.types.Ty.TheVariants.{Access, Integer, Record}
use Rattle.ctl_tree.specs.declared.ending.End.TheVariants.{Done}
use Rattle.ctl_meaning.proofs.worked.Build.{Program, access_type, assign, at, block, checked, collected, collections, component, computed, constant, counted_type, finalized, for, free, image, integer_image, is_computed, live, master, name, new, newline, object, of_collection, operations, part, pick, print, prints_a, prints_f, procedure, program, put_line, read, record_type, silent, text, value, variable}
use Rattle.ctl_meaning.specs.Choice.{oldest}
use Rattle.ctl_meaning.specs.Run.{Outcome, opened_meaning, outcome}

abbrev pub the_program : Program
the_program =
    program (counted_type ∷ record_type 2 Controlled (Some 1) (component Integer (Some (constant 0)) ∷ component (Access 0) None ∷ []) (operations None None (Some 2)) ∷ [])
    (access_type 2 0 (Record 5) None ∷ [])
    (prints_a ∷
    prints_f ∷
    procedure 2 (master 1 [] (put_line (text (codes "N") ∷ integer_image (read (name 3 0 (Component 5 1 ∷ [])) Integer) ∷ []) ∷ free 0 (name 3 0 (Component 5 2 ∷ [])) ∷ []) []) ∷
    procedure 0 (master 0 (silent ∷ silent ∷ silent ∷ silent ∷ silent ∷ []) (block 4 (silent ∷ silent ∷ silent ∷ silent ∷ collections (0 ∷ []) ∷ silent ∷ silent ∷ object 1 (Access 0) None ∷ object 2 (Access 0) None ∷ []) (for (at 2 3) Upward (constant 1) (constant 3) (assign (variable 2 2) (new 0 (Record 5) None None) ∷ assign (name 2 2 (Dereference ∷ Component 5 1 ∷ [])) (value 2 3 Integer) ∷ assign (name 2 2 (Dereference ∷ Component 5 2 ∷ [])) (value 2 1 (Access 0)) ∷ assign (variable 2 1) (value 2 2 (Access 0)) ∷ []) ∷ []) [] ∷ []) []) ∷ [])
    3

abbrev the_outcome : Outcome
the_outcome = record {
  trace = live (part 3 []) (of_collection 1) ∷ live (part 4 []) (of_collection 1) ∷ live (part 5 []) (of_collection 1) ∷ finalized (part 3 []) collected ∷ print (codes "N" ++ image 1) ∷ newline ∷ finalized (part 4 []) collected ∷ print (codes "N" ++ image 2) ∷ newline ∷ finalized (part 5 []) collected ∷ print (codes "N" ++ image 3) ∷ newline ∷ [];
  picks = (pick 3 0) ∷ (pick 2 0) ∷ [];
  end = Some Done;
  ticks = 143;
}

computes : computed the_program oldest 300 ≡ the_outcome
unfolding opened_meaning computed
computes = refl

runs : outcome (checked the_program) oldest 300 ≡ the_outcome
runs = is_computed the_program oldest 300 _ computes
