use Rattle.std.proofs.Common.{◌∙◌, ap, drop}
use Rattle.ctl_meaning.specs.Finalization.{Spot}
use Rattle.ctl_meaning.specs.Objects.{first_cells}
use Rattle.ctl_frames.specs.Spots.{first_spot, standing}
use Rattle.ctl_places.proofs.Located.{part_on_top, value_cells}
use Rattle.ctl_frames.proofs.Words.{newest_read}
use Rattle.ctl_places.proofs.record_values.newest_value.Goals as goal

pub returns : goal.returns
returns g c =
    let old = c.args.engine.now in
    let f = c.requires.0 in
    let b = f.1 in
    let p = part_on_top c.args.code.now old f.2 b.stack f.3 g.s b.inside f.4 in
    let count = c.count_spots in
    let read = newest_read old.spots.items (standing g.s.control (drop 1 g.s.operands)) (first_spot g.s.operands) c.index.result.now count.result p.spots count.ensures.count c.index.ensures in
    c.in_ok-cells.ensures ∙ (ap (λ (x : Spot). first_cells c.args.size x.path) read ∙ ap (λ v. first_cells c.args.size v) (value_cells g.s.operands c.requires.1))
