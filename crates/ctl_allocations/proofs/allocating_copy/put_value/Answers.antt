use Rattle.std.proofs.Common.{◌∷◌, ◌++◌, ◌∙◌, [], List, ap, sym}
use Rattle.std.specs.Prelude.{slice_set}
use Rattle.ctl_meaning.specs.Finalization.{Spot}
use Rattle.ctl_engine.specs.Shows.{kept}
use Rattle.ctl_frames.proofs.Words.{same_front}
use Rattle.ctl_allocations.proofs.allocating_copy.put_value.Goals as goal

pub returns-clause-kept : goal.returns-clause-kept
returns-clause-kept g c =
    let old = c.args.engine.now in
    let popped = same_front c.take_last.new.self.items g.below c.take_last.result c.requires.1.0 (sym c.take_last.ensures.items ∙ c.requires.1.1) in
    ap (λ (l : List Spot). record (kept old) { cells = slice_set old.cells.items c.args.cell 1; spots = l }) (c.push_reserved.ensures.items ∙ ap (λ (l : List Spot). l ++ c.of_value.result ∷ []) popped.0 ∙ ap (λ (p : Spot). g.below ++ p ∷ []) c.of_value.ensures)
