-- An Allocate of the user gives an address that is out a second time: the run stops.
use Rattle.std.proofs.Common.{None, Some, [], codes, refl, ◌∷◌, ◌≡◌}
use Rattle.ctl_program.specs.declared.expression.Step.TheVariants.{Component}
use Rattle.ctl_program.specs.declared.operators.UnaryOp.TheVariants.{Not}
use Rattle.ctl_program.specs.declared.types.Root.TheVariants.{BlockPool}
use Rattle.ctl_program.specs.declared.types.Ty.TheVariants.{Access, Address, Boolean, Count, Record}
use Rattle.ctl_tree.specs.declared.ending.End.TheVariants.{Stopped}
use Rattle.ctl_tree.specs.declared.ending.Stop.TheVariants.{BadAddress}
use Rattle.ctl_meaning.proofs.worked.Build.{Program, access_type, allocated, arm, assign, at, block, checked, choose, collections, component, computed, constant, counted_type, discriminant, is_computed, library_allocate, live, master, name, new, newline, object, of_collection, part, pool, pool_operations, print, prints_a, prints_f, procedure, program, put_text, read, record_type, silent, unary, value, variable}
use Rattle.ctl_meaning.specs.Choice.{newest}
use Rattle.ctl_meaning.specs.Run.{Outcome, opened_meaning, outcome}

abbrev the_program : Program
the_program =
    program (counted_type ∷ record_type 2 BlockPool (Some 2) (component Address None ∷ component Boolean None ∷ []) (pool_operations None None None (Some 2) (Some 3)) ∷ [])
    (access_type 3 0 (Record 4) (Some (at 2 0)) ∷ [])
    (prints_a ∷
    prints_f ∷
    procedure 2 (master 4 [] (choose (arm (unary Not Boolean (read (name 3 0 (Component 5 2 ∷ [])) Boolean)) (library_allocate (variable 3 0) (variable 3 1) (value 3 2 Count) (value 3 3 Count) ∷ assign (name 3 0 (Component 5 1 ∷ [])) (value 3 1 Address) ∷ assign (name 3 0 (Component 5 2 ∷ [])) (constant 1) ∷ []) ∷ []) (assign (variable 3 1) (read (name 3 0 (Component 5 1 ∷ [])) Address) ∷ []) ∷ []) []) ∷
    procedure 2 (master 4 [] (assign (name 3 0 (Component 5 1 ∷ [])) (value 3 1 Address) ∷ assign (name 3 0 (Component 5 2 ∷ [])) (constant 1) ∷ []) []) ∷
    procedure 0 (master 0 (silent ∷ silent ∷ silent ∷ silent ∷ silent ∷ []) (block 1 (silent ∷ silent ∷ silent ∷ silent ∷ silent ∷ pool 0 5 (discriminant 0 (constant 16) ∷ discriminant 1 (constant 1) ∷ []) ∷ []) (block 3 (collections (0 ∷ []) ∷ silent ∷ object 1 (Access 0) None ∷ object 2 (Access 0) None ∷ []) (assign (variable 3 1) (new 0 (Record 4) None None) ∷ put_text (codes "one") ∷ assign (variable 3 2) (new 0 (Record 4) None None) ∷ []) [] ∷ []) [] ∷ []) []) ∷
    [])
    4

abbrev the_outcome : Outcome
the_outcome = record {
  trace = allocated 1 16 ∷ live (part 4 []) (of_collection 1) ∷ print (codes "one") ∷ newline ∷ allocated 1 16 ∷ [];
  picks = [];
  end = Some (Stopped BadAddress);
  ticks = 69;
}

computes : computed the_program newest 100 ≡ the_outcome
unfolding opened_meaning computed
computes = refl

runs : outcome (checked the_program) newest 100 ≡ the_outcome
runs = is_computed the_program newest 100 _ computes
