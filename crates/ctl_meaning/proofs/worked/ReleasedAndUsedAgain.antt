-- A subpool that is released finalizes its objects and gives their storage back: as many fit again, and no more; nor does an eleventh mark.
use Rattle.std.proofs.Common.{None, Some, [], codes, refl, ◌++◌, ◌∷◌, ◌≡◌}
use Rattle.ctl_program.specs.declared.expression.Step.TheVariants.{Component, Dereference}
use Rattle.ctl_program.specs.declared.operators.BinaryOp.TheVariants.{Equal}
use Rattle.ctl_program.specs.declared.operators.Direction.TheVariants.{Upward}
use Rattle.ctl_program.specs.declared.operators.SubpoolFunction.TheVariants.{Mark}
use Rattle.ctl_program.specs.declared.types.Ty.TheVariants.{Access, Boolean, Handle, Record}
use Rattle.ctl_tree.specs.declared.ending.End.TheVariants.{Done}
use Rattle.ctl_meaning.proofs.worked.Build.{Program, access_type, arm, assign, at, block, chain, checked, choose, collected, collections, computed, constant, counted_type, discriminant, finalized, for, image, is_computed, live, master, name, new, newline, object, of_collection, operand, part, pick, pool, print, prints_a, prints_f, procedure, program, put_text, release, silent, subpool, subpooled, value, variable, when}
use Rattle.ctl_meaning.specs.Choice.{newest}
use Rattle.ctl_meaning.specs.Run.{Outcome, opened_meaning, outcome}

abbrev the_program : Program
the_program =
    program (counted_type ∷ [])
    (access_type 2 1 (Record 4) (Some (at 2 0)) ∷ [])
    (prints_a ∷
    prints_f ∷
    procedure 0 (master 0 (silent ∷ silent ∷ silent ∷ silent ∷ silent ∷ []) (block 6 (pool 0 3 (discriminant 0 (constant 32) ∷ []) ∷ silent ∷ silent ∷ collections (0 ∷ []) ∷ object 2 (Access 0) None ∷ object 3 (Access 0) None ∷ object 4 Handle None ∷ []) (assign (variable 2 4) (subpool Mark (variable 2 0)) ∷ assign (variable 2 2) (new 0 (Record 4) (Some (value 2 4 Handle)) None) ∷ assign (name 2 2 (Dereference ∷ Component 4 1 ∷ [])) (constant 1) ∷ assign (variable 2 3) (new 0 (Record 4) (Some (value 2 4 Handle)) None) ∷ assign (name 2 3 (Dereference ∷ Component 4 1 ∷ [])) (constant 2) ∷ release (variable 2 4) ∷ choose (arm (chain (value 2 4 Handle) (operand Equal Boolean (constant 0)) []) (put_text (codes "null") ∷ []) ∷ []) [] ∷ assign (variable 2 4) (subpool Mark (variable 2 0)) ∷ assign (variable 2 2) (new 0 (Record 4) (Some (value 2 4 Handle)) None) ∷ assign (variable 2 3) (new 0 (Record 4) None None) ∷ block 0 [] (assign (variable 2 2) (new 0 (Record 4) None None) ∷ []) (when 2 (put_text (codes "SE") ∷ []) ∷ []) ∷ for (at 2 5) Upward (constant 1) (constant 8) (assign (variable 2 4) (subpool Mark (variable 2 0)) ∷ []) ∷ block 0 [] (assign (variable 2 4) (subpool Mark (variable 2 0)) ∷ []) (when 2 (put_text (codes "ten") ∷ []) ∷ []) ∷ []) [] ∷ []) []) ∷ [])
    2

abbrev the_outcome : Outcome
the_outcome = record {
  trace = live (part 5 []) (of_collection 1) ∷ live (part 6 []) (of_collection 1) ∷ finalized (part 6 []) subpooled ∷ print (codes "F" ++ image 2) ∷ newline ∷ finalized (part 5 []) subpooled ∷ print (codes "F" ++ image 1) ∷ newline ∷ print (codes "null") ∷ newline ∷ live (part 7 []) (of_collection 1) ∷ live (part 8 []) (of_collection 1) ∷ print (codes "SE") ∷ newline ∷ print (codes "ten") ∷ newline ∷ finalized (part 8 []) collected ∷ print (codes "F" ++ image 0) ∷ newline ∷ finalized (part 7 []) collected ∷ print (codes "F" ++ image 0) ∷ newline ∷ [];
  picks = (pick 2 1) ∷ (pick 2 1) ∷ [];
  end = Some Done;
  ticks = 207;
}

computes : computed the_program newest 300 ≡ the_outcome
unfolding opened_meaning computed
computes = refl

runs : outcome (checked the_program) newest 300 ≡ the_outcome
runs = is_computed the_program newest 300 _ computes
