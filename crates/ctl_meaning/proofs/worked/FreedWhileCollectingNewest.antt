-- The same with the newest first: each member frees the one before it, so nothing is left to choose after the first choice.
use Rattle.std.proofs.Common.{Some, [], codes, refl, ◌++◌, ◌∷◌, ◌≡◌}
use Rattle.ctl_tree.specs.declared.ending.End.TheVariants.{Done}
use Rattle.ctl_meaning.proofs.worked.Build.{checked, collected, computed, finalized, freed, image, is_computed, live, newline, of_collection, part, pick, print}
use Rattle.ctl_meaning.proofs.worked.FreedWhileCollecting.{the_program}
use Rattle.ctl_meaning.specs.Choice.{newest}
use Rattle.ctl_meaning.specs.Run.{Outcome, opened_meaning, outcome}

abbrev the_outcome : Outcome
the_outcome = record {
  trace = live (part 3 []) (of_collection 1) ∷ live (part 4 []) (of_collection 1) ∷ live (part 5 []) (of_collection 1) ∷ finalized (part 5 []) collected ∷ print (codes "N" ++ image 3) ∷ newline ∷ finalized (part 4 []) freed ∷ print (codes "N" ++ image 2) ∷ newline ∷ finalized (part 3 []) freed ∷ print (codes "N" ++ image 1) ∷ newline ∷ [];
  picks = (pick 3 2) ∷ [];
  end = Some Done;
  ticks = 140;
}

computes : computed the_program newest 300 ≡ the_outcome
unfolding opened_meaning computed
computes = refl

runs : outcome (checked the_program) newest 300 ≡ the_outcome
runs = is_computed the_program newest 300 _ computes
