-- A subpool is released in the Finalize of a member that its release finalizes: the run stops.
use Rattle.std.proofs.Common.{None, Some, [], codes, refl, ◌∷◌, ◌≡◌}
use Rattle.ctl_program.specs.declared.operators.SubpoolFunction.TheVariants.{Mark}
use Rattle.ctl_program.specs.declared.types.Root.TheVariants.{Controlled}
use Rattle.ctl_program.specs.declared.types.Ty.TheVariants.{Access, Handle, Record}
use Rattle.ctl_tree.specs.declared.ending.End.TheVariants.{Stopped}
use Rattle.ctl_tree.specs.declared.ending.Stop.TheVariants.{ReleasedSubpool}
use Rattle.ctl_meaning.proofs.worked.Build.{Program, access_type, assign, at, block, checked, collections, computed, constant, discriminant, finalized, is_computed, live, master, new, newline, object, of_collection, operations, part, pool, print, procedure, program, put_text, record_type, release, silent, subpool, subpooled, value, variable}
use Rattle.ctl_meaning.specs.Choice.{newest}
use Rattle.ctl_meaning.specs.Run.{Outcome, opened_meaning, outcome}

abbrev the_program : Program
the_program =
    program (record_type 2 Controlled (Some 1) [] (operations None None (Some 0)) ∷ [])
    (access_type 2 2 (Record 4) (Some (at 2 0)) ∷ [])
    (procedure 2 (master 1 [] (put_text (codes "n") ∷ release (variable 2 1) ∷ []) []) ∷
    procedure 0 (master 0 [] (block 4 (pool 0 3 (discriminant 0 (constant 64) ∷ []) ∷ object 1 Handle None ∷ silent ∷ silent ∷ silent ∷ silent ∷ collections (0 ∷ []) ∷ object 3 (Access 0) None ∷ []) (assign (variable 2 1) (subpool Mark (variable 2 0)) ∷ assign (variable 2 3) (new 0 (Record 4) (Some (value 2 1 Handle)) None) ∷ release (variable 2 1) ∷ []) [] ∷ []) []) ∷
    [])
    1

abbrev the_outcome : Outcome
the_outcome = record {
  trace = live (part 4 []) (of_collection 1) ∷ finalized (part 4 []) subpooled ∷ print (codes "n") ∷ newline ∷ [];
  picks = [];
  end = Some (Stopped ReleasedSubpool);
  ticks = 30;
}

computes : computed the_program newest 100 ≡ the_outcome
unfolding opened_meaning computed
computes = refl

runs : outcome (checked the_program) newest 100 ≡ the_outcome
runs = is_computed the_program newest 100 _ computes
