use Rattle.std.proofs.Common.{◌∙◌, ◌++◌, List, ℕ, ap}
use Rattle.ctl_meaning.specs.Objects.{first_cells}
use Rattle.ctl_frames.proofs.spots.first_of.Goals as goal

pub returns : goal.returns
returns c = c.save_first.ensures ∙ ap (λ (l : List ℕ). l ++ first_cells c.args.count c.args.cells.now) (c.in_ok-reserve.ensures.items ∙ c.new-first.ensures.items)
