-- An allocator for a collection whose finalization has started raises Program_Error.
use Rattle.std.proofs.Common.{None, Some, [], codes, refl, ◌∷◌, ◌≡◌}
use Rattle.ctl_program.specs.declared.types.Root.TheVariants.{Controlled}
use Rattle.ctl_program.specs.declared.types.Ty.TheVariants.{Access, Record}
use Rattle.ctl_tree.specs.declared.ending.End.TheVariants.{Done}
use Rattle.ctl_meaning.proofs.worked.Build.{Program, access_type, assign, block, checked, collected, collections, computed, counted_type, finalized, is_computed, live, master, new, newline, object, of_collection, operations, part, print, prints_a, prints_f, procedure, program, put_text, record_type, silent, variable, when}
use Rattle.ctl_meaning.specs.Choice.{newest}
use Rattle.ctl_meaning.specs.Run.{Outcome, opened_meaning, outcome}

abbrev the_program : Program
the_program =
    program (counted_type ∷ record_type 2 Controlled (Some 1) [] (operations None None (Some 2)) ∷ [])
    (access_type 2 0 (Record 5) None ∷ [])
    (prints_a ∷
    prints_f ∷
    procedure 2 (master 2 (object 1 (Access 0) None ∷ []) (assign (variable 3 1) (new 0 (Record 5) None None) ∷ put_text (codes "made") ∷ []) (when 1 (put_text (codes "PE") ∷ []) ∷ [])) ∷
    procedure 0 (master 0 (silent ∷ silent ∷ silent ∷ silent ∷ silent ∷ []) (block 2 (silent ∷ silent ∷ silent ∷ silent ∷ collections (0 ∷ []) ∷ silent ∷ object 1 (Access 0) None ∷ []) (assign (variable 2 1) (new 0 (Record 5) None None) ∷ []) [] ∷ []) []) ∷ [])
    3

abbrev the_outcome : Outcome
the_outcome = record {
  trace = live (part 2 []) (of_collection 1) ∷ finalized (part 2 []) collected ∷ print (codes "PE") ∷ newline ∷ [];
  picks = [];
  end = Some Done;
  ticks = 33;
}

computes : computed the_program newest 300 ≡ the_outcome
unfolding opened_meaning computed
computes = refl

runs : outcome (checked the_program) newest 300 ≡ the_outcome
runs = is_computed the_program newest 300 _ computes
