-- An object is larger than the blocks of its pool: Storage_Error.
use Rattle.std.proofs.Common.{None, Some, [], codes, refl, ◌∷◌, ◌≡◌}
use Rattle.ctl_program.specs.declared.types.Ty.TheVariants.{Access, Record}
use Rattle.ctl_tree.specs.declared.ending.End.TheVariants.{Done}
use Rattle.ctl_meaning.proofs.worked.Build.{Program, access_type, assign, at, block, checked, collections, computed, constant, counted_type, discriminant, is_computed, master, new, newline, object, pool, print, prints_a, prints_f, procedure, program, put_text, silent, variable, when}
use Rattle.ctl_meaning.specs.Choice.{newest}
use Rattle.ctl_meaning.specs.Run.{Outcome, opened_meaning, outcome}

abbrev the_program : Program
the_program =
    program (counted_type ∷ [])
    (access_type 2 1 (Record 4) (Some (at 2 0)) ∷ [])
    (prints_a ∷
    prints_f ∷
    procedure 0 (master 0 (silent ∷ silent ∷ silent ∷ silent ∷ silent ∷ []) (block 3 (pool 0 2 (discriminant 0 (constant 12) ∷ discriminant 1 (constant 1) ∷ []) ∷ silent ∷ collections (0 ∷ []) ∷ object 2 (Access 0) None ∷ []) (assign (variable 2 2) (new 0 (Record 4) None None) ∷ []) (when 2 (put_text (codes "SE") ∷ []) ∷ []) ∷ []) []) ∷
    [])
    2

abbrev the_outcome : Outcome
the_outcome = record {
  trace = print (codes "SE") ∷ newline ∷ [];
  picks = [];
  end = Some Done;
  ticks = 27;
}

computes : computed the_program newest 100 ≡ the_outcome
unfolding opened_meaning computed
computes = refl

runs : outcome (checked the_program) newest 100 ≡ the_outcome
runs = is_computed the_program newest 100 _ computes
