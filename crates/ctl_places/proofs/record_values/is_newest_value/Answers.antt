use Rattle.std.proofs.Common.{◌+◌, ◌-◌, ap, arith, drop, reverse}
use Rattle.std.proofs.lemmas.Option.{slice_get_within}
use Rattle.ctl_code.specs.Kinds.{stack_at}
use Rattle.ctl_code.specs.Windows.{height}
use Rattle.ctl_frames.specs.Masters.{first_window}
use Rattle.ctl_engine.specs.Shows.{kept}
use Rattle.ctl_places.proofs.TopValues.{newest_stands, part_read_there, value_there}
use Rattle.ctl_places.proofs.record_values.is_newest_value.Goals as goal

pub is_value_at-requires : goal.is_value_at-requires
is_value_at-requires g c =
    let e = c.args.engine.now in
    let cell = first_window (reverse e.masters.items) + height (drop 1 (stack_at c.args.code.now.kinds c.args.place)) in
    let h = newest_stands c.args.code.now e c.args.place (c.count_spots.result - 1) g.s c.requires (ap (λ n. n - 1) c.count_spots.ensures.count) in
    record { spot = slice_get_within e.spots.items (c.count_spots.result - 1) _ h.spot_read; cell = slice_get_within e.cells.items cell _ h.cell_read; bound = omega arith }

pub returns-clause-value : goal.returns-clause-value
returns-clause-value g c = λ t.
    let e = c.args.engine.now in
    let cell = first_window (reverse e.masters.items) + height (drop 1 (stack_at c.args.code.now.kinds c.args.place)) in
    let at = c.count_spots.result - 1 in
    let h = newest_stands c.args.code.now e c.args.place at g.s c.requires (ap (λ n. n - 1) c.count_spots.ensures.count) in
    value_there (kept e) at cell g.s.operands c.is_value_at.result h c.is_value_at.ensures t

pub returns-clause-part : goal.returns-clause-part
returns-clause-part g c = λ f.
    let e = c.args.engine.now in
    let cell = first_window (reverse e.masters.items) + height (drop 1 (stack_at c.args.code.now.kinds c.args.place)) in
    let at = c.count_spots.result - 1 in
    let h = newest_stands c.args.code.now e c.args.place at g.s c.requires (ap (λ n. n - 1) c.count_spots.ensures.count) in
    part_read_there (kept e) at cell g.s.operands c.is_value_at.result h c.is_value_at.ensures f
