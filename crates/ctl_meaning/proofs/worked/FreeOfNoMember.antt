-- An object that is no member of the collection is freed: the run stops.
use Rattle.std.proofs.Common.{None, Some, [], refl, ◌∷◌, ◌≡◌}
use Rattle.ctl_program.specs.declared.types.Ty.TheVariants.{Access, Record}
use Rattle.ctl_tree.specs.declared.ending.End.TheVariants.{Stopped}
use Rattle.ctl_tree.specs.declared.ending.Stop.TheVariants.{ForeignFree}
use Rattle.ctl_meaning.proofs.worked.Build.{Program, access_to, access_type, assign, at, block, checked, collections, computed, counted_type, free, is_computed, live, master, object, of_master, part, prints_a, prints_f, procedure, program, silent, variable}
use Rattle.ctl_meaning.specs.Choice.{newest}
use Rattle.ctl_meaning.specs.Run.{Outcome, opened_meaning, outcome}

abbrev the_program : Program
the_program =
    program (counted_type ∷ [])
    (access_type 2 0 (Record 4) None ∷ [])
    (prints_a ∷
    prints_f ∷
    procedure 0 (master 0 (silent ∷ silent ∷ silent ∷ silent ∷ silent ∷ []) (block 3 (collections (0 ∷ []) ∷ silent ∷ object 1 (Record 4) None ∷ object 2 (Access 0) None ∷ []) (assign (variable 2 2) (access_to (at 2 1)) ∷ free 0 (variable 2 2) ∷ []) [] ∷ []) []) ∷
    [])
    2

abbrev the_outcome : Outcome
the_outcome = record {
  trace = live (part 1 []) (of_master 2) ∷ [];
  picks = [];
  end = Some (Stopped ForeignFree);
  ticks = 20;
}

computes : computed the_program newest 100 ≡ the_outcome
unfolding opened_meaning computed
computes = refl

runs : outcome (checked the_program) newest 100 ≡ the_outcome
runs = is_computed the_program newest 100 _ computes
