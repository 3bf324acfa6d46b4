use Rattle.std.proofs.Common.{◌∙◌, ap}
use Rattle.ctl_meaning.specs.Objects.{first_cells}
use Rattle.ctl_engine.proofs.Ways.{newest_waits}
use Rattle.ctl_places.proofs.returning.cells_waiting.Goals as goal

pub returns : goal.returns
returns c = c.in_ok-cells.ensures ∙ ap (λ v. first_cells c.args.count v) (newest_waits c.args.engine.now.spots.items c.count_spots.result c.index.result.now c.requires c.count_spots.ensures.count c.index.ensures)
