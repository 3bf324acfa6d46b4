-- Storage_Error where no block is free or the object is too large; Free gives a block back.
use Rattle.std.proofs.Common.{None, Some, [], codes, refl, ◌++◌, ◌∷◌, ◌≡◌}
use Rattle.ctl_program.specs.declared.types.Root.TheVariants.{Untagged}
use Rattle.ctl_program.specs.declared.types.Ty.TheVariants.{Access, Integer, Record}
use Rattle.ctl_tree.specs.declared.ending.End.TheVariants.{Done}
use Rattle.ctl_meaning.proofs.worked.Build.{Program, access_type, assign, at, block, checked, collected, collections, component, computed, constant, counted_type, discriminant, finalized, free, freed, image, is_computed, live, master, new, newline, no_operations, object, of_collection, part, pick, pool, print, prints_a, prints_f, procedure, program, put_text, record_type, silent, variable, when}
use Rattle.ctl_meaning.specs.Choice.{newest}
use Rattle.ctl_meaning.specs.Run.{Outcome, opened_meaning, outcome}

abbrev the_program : Program
the_program =
    program (counted_type ∷ record_type 2 Untagged None (component Integer None ∷ component Integer None ∷ component Integer None ∷ []) no_operations ∷ [])
    (access_type 2 1 (Record 4) (Some (at 2 0)) ∷ access_type 2 2 (Record 5) (Some (at 2 0)) ∷ [])
    (prints_a ∷
    prints_f ∷
    procedure 0 (master 0 (silent ∷ silent ∷ silent ∷ silent ∷ silent ∷ []) (block 7 (pool 0 2 (discriminant 0 (constant 16) ∷ discriminant 1 (constant 2) ∷ []) ∷ silent ∷ silent ∷ silent ∷ silent ∷ silent ∷ collections (0 ∷ []) ∷ silent ∷ object 3 (Access 0) None ∷ object 4 (Access 0) None ∷ object 5 (Access 0) None ∷ collections (1 ∷ []) ∷ object 6 (Access 1) None ∷ []) (assign (variable 2 3) (new 0 (Record 4) None None) ∷ assign (variable 2 4) (new 0 (Record 4) None None) ∷ block 0 [] (assign (variable 2 5) (new 0 (Record 4) None None) ∷ []) (when 2 (put_text (codes "SE") ∷ []) ∷ []) ∷ free 0 (variable 2 3) ∷ block 0 [] (assign (variable 2 6) (new 1 (Record 5) None None) ∷ []) (when 2 (put_text (codes "SE24") ∷ []) ∷ []) ∷ assign (variable 2 5) (new 0 (Record 4) None None) ∷ put_text (codes "ok") ∷ []) [] ∷ []) []) ∷ [])
    2

abbrev the_outcome : Outcome
the_outcome = record {
  trace = live (part 6 []) (of_collection 1) ∷ live (part 7 []) (of_collection 1) ∷ print (codes "SE") ∷ newline ∷ finalized (part 6 []) freed ∷ print (codes "F" ++ image 0) ∷ newline ∷ print (codes "SE24") ∷ newline ∷ live (part 8 []) (of_collection 1) ∷ print (codes "ok") ∷ newline ∷ finalized (part 8 []) collected ∷ print (codes "F" ++ image 0) ∷ newline ∷ finalized (part 7 []) collected ∷ print (codes "F" ++ image 0) ∷ newline ∷ [];
  picks = (pick 2 1) ∷ [];
  end = Some Done;
  ticks = 109;
}

computes : computed the_program newest 300 ≡ the_outcome
unfolding opened_meaning computed
computes = refl

runs : outcome (checked the_program) newest 300 ≡ the_outcome
runs = is_computed the_program newest 300 _ computes
