use Rattle.std.proofs.Common.{◌+◌, ap, refl}
use Rattle.std.specs.Prelude.{slice_set}
use Rattle.ctl_engine.specs.Shows.{kept, with_cells}
use Rattle.ctl_places.proofs.variables.set_cell.Goals as goal

pub returns-clause-goes : goal.returns-clause-goes
returns-clause-goes c = λ place.
    let old = c.args.engine.now in
    record { mode = refl; kept = ap (λ n. with_cells (kept old) (slice_set old.cells.items (n + c.args.to.now.at) c.args.value)) c.requires.window; events = refl; picks = refl }
