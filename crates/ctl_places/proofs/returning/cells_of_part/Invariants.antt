use Rattle.ctl_frames.specs.Spots.{first_spot}
use Rattle.ctl_engine.proofs.MasterOf.{object_or}
use Rattle.ctl_places.proofs.returning.cells_of_part.Given as goal

abbrev pub ghost-newest_cells : goal.ghost-newest_cells
ghost-newest_cells g a = (g.s, object_or (first_spot g.s.operands).object a.engine.now.stock.objects)
