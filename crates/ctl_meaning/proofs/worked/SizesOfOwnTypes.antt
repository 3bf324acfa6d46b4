-- Storage is asked for by the size of the own type of an object of a class-wide access type.
use Rattle.std.proofs.Common.{None, Some, [], codes, refl, ◌++◌, ◌∷◌, ◌≡◌}
use Rattle.ctl_program.specs.declared.expression.Step.TheVariants.{Component}
use Rattle.ctl_program.specs.declared.types.Root.TheVariants.{BlockPool, Controlled}
use Rattle.ctl_program.specs.declared.types.Ty.TheVariants.{Access, Address, Boolean, Count, Integer, Record}
use Rattle.ctl_tree.specs.declared.ending.End.TheVariants.{Done}
use Rattle.ctl_meaning.proofs.worked.Build.{Program, access_type, allocated, arm, assign, at, block, checked, choose, collected, collections, component, computed, constant, counted_type, deallocated, discriminant, finalized, free, freed, image, is_computed, library_allocate, live, master, name, new, newline, object, of_collection, operations, part, pick, pool, pool_operations, print, prints_a, prints_f, procedure, program, read, record_type, silent, value, variable}
use Rattle.ctl_meaning.specs.Choice.{newest}
use Rattle.ctl_meaning.specs.Run.{Outcome, opened_meaning, outcome}

abbrev the_program : Program
the_program =
    program (counted_type ∷ record_type 2 BlockPool (Some 2) (component Address None ∷ component Boolean None ∷ []) (pool_operations None None None (Some 2) (Some 3)) ∷ record_type 3 Controlled (Some 4) (component Integer None ∷ []) (operations None (Some 0) (Some 1)) ∷ [])
    (access_type 3 0 (Record 4) (Some (at 2 0)) ∷ [])
    (prints_a ∷
    prints_f ∷
    procedure 2 (master 4 [] (choose (arm (read (name 3 0 (Component 5 2 ∷ [])) Boolean) (assign (variable 3 1) (read (name 3 0 (Component 5 1 ∷ [])) Address) ∷ assign (name 3 0 (Component 5 2 ∷ [])) (constant 0) ∷ []) ∷ []) (library_allocate (variable 3 0) (variable 3 1) (value 3 2 Count) (value 3 3 Count) ∷ []) ∷ []) []) ∷
    procedure 2 (master 4 [] (assign (name 3 0 (Component 5 1 ∷ [])) (value 3 1 Address) ∷ assign (name 3 0 (Component 5 2 ∷ [])) (constant 1) ∷ []) []) ∷
    procedure 0 (master 0 (silent ∷ silent ∷ silent ∷ silent ∷ silent ∷ []) (block 1 (silent ∷ silent ∷ silent ∷ silent ∷ silent ∷ pool 0 5 (discriminant 0 (constant 24) ∷ discriminant 1 (constant 2) ∷ []) ∷ []) (block 3 (silent ∷ collections (0 ∷ []) ∷ silent ∷ object 1 (Access 0) None ∷ object 2 (Access 0) None ∷ []) (assign (variable 3 1) (new 0 (Record 4) None None) ∷ assign (variable 3 2) (new 0 (Record 6) None None) ∷ free 0 (variable 3 2) ∷ assign (variable 3 2) (new 0 (Record 4) None None) ∷ []) [] ∷ []) [] ∷ []) []) ∷
    [])
    4

abbrev the_outcome : Outcome
the_outcome = record {
  trace = allocated 1 16 ∷ live (part 4 []) (of_collection 1) ∷ allocated 1 24 ∷ live (part 5 []) (of_collection 1) ∷ finalized (part 5 []) freed ∷ print (codes "F" ++ image 0) ∷ newline ∷ deallocated 1 24 ∷ allocated 1 16 ∷ live (part 6 []) (of_collection 1) ∷ finalized (part 6 []) collected ∷ print (codes "F" ++ image 0) ∷ newline ∷ finalized (part 4 []) collected ∷ print (codes "F" ++ image 0) ∷ newline ∷ [];
  picks = pick 2 1 ∷ [];
  end = Some Done;
  ticks = 144;
}

computes : computed the_program newest 100 ≡ the_outcome
unfolding opened_meaning computed
computes = refl

runs : outcome (checked the_program) newest 100 ≡ the_outcome
runs = is_computed the_program newest 100 _ computes
