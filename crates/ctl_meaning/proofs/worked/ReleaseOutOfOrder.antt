-- A subpool that is released before a later one is dead, and Program_Error is raised.
use Rattle.std.proofs.Common.{None, Some, [], codes, refl, ◌++◌, ◌∷◌, ◌≡◌}
use Rattle.ctl_program.specs.declared.expression.Step.TheVariants.{Component, Dereference}
use Rattle.ctl_program.specs.declared.operators.SubpoolFunction.TheVariants.{Mark}
use Rattle.ctl_program.specs.declared.types.Ty.TheVariants.{Access, Handle, Record}
use Rattle.ctl_tree.specs.declared.ending.End.TheVariants.{Done}
use Rattle.ctl_meaning.proofs.worked.Build.{Program, access_type, assign, at, block, checked, collected, collections, computed, constant, counted_type, discriminant, finalized, image, is_computed, live, master, name, new, newline, object, of_collection, part, pick, pool, print, prints_a, prints_f, procedure, program, put_text, release, silent, subpool, subpooled, value, variable, when}
use Rattle.ctl_meaning.specs.Choice.{newest}
use Rattle.ctl_meaning.specs.Run.{Outcome, opened_meaning, outcome}

abbrev the_program : Program
the_program =
    program (counted_type ∷ [])
    (access_type 2 1 (Record 4) (Some (at 2 0)) ∷ [])
    (prints_a ∷
    prints_f ∷
    procedure 0 (master 0 (silent ∷ silent ∷ silent ∷ silent ∷ silent ∷ []) (block 6 (pool 0 3 (discriminant 0 (constant 32) ∷ []) ∷ silent ∷ silent ∷ collections (0 ∷ []) ∷ object 2 (Access 0) None ∷ object 3 (Access 0) None ∷ object 4 Handle None ∷ object 5 Handle None ∷ []) (assign (variable 2 5) (subpool Mark (variable 2 0)) ∷ assign (variable 2 2) (new 0 (Record 4) (Some (value 2 5 Handle)) None) ∷ assign (name 2 2 (Dereference ∷ Component 4 1 ∷ [])) (constant 1) ∷ assign (variable 2 4) (subpool Mark (variable 2 0)) ∷ assign (variable 2 3) (new 0 (Record 4) (Some (value 2 4 Handle)) None) ∷ assign (name 2 3 (Dereference ∷ Component 4 1 ∷ [])) (constant 2) ∷ block 0 [] (release (variable 2 5) ∷ []) (when 1 (put_text (codes "PE") ∷ []) ∷ []) ∷ release (variable 2 4) ∷ assign (variable 2 2) (new 0 (Record 4) None None) ∷ assign (variable 2 3) (new 0 (Record 4) None None) ∷ put_text (codes "both") ∷ []) [] ∷ []) []) ∷ [])
    2

abbrev the_outcome : Outcome
the_outcome = record {
  trace = live (part 6 []) (of_collection 1) ∷ live (part 7 []) (of_collection 1) ∷ finalized (part 6 []) subpooled ∷ print (codes "F" ++ image 1) ∷ newline ∷ print (codes "PE") ∷ newline ∷ finalized (part 7 []) subpooled ∷ print (codes "F" ++ image 2) ∷ newline ∷ live (part 8 []) (of_collection 1) ∷ live (part 9 []) (of_collection 1) ∷ print (codes "both") ∷ newline ∷ finalized (part 9 []) collected ∷ print (codes "F" ++ image 0) ∷ newline ∷ finalized (part 8 []) collected ∷ print (codes "F" ++ image 0) ∷ newline ∷ [];
  picks = (pick 2 1) ∷ [];
  end = Some Done;
  ticks = 137;
}

computes : computed the_program newest 300 ≡ the_outcome
unfolding opened_meaning computed
computes = refl

runs : outcome (checked the_program) newest 300 ≡ the_outcome
runs = is_computed the_program newest 300 _ computes
