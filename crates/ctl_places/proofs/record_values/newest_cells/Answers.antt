use Rattle.std.proofs.Common.{◌++◌, ◌∙◌, [], List, ℕ, ap, drop, sym}
use Rattle.std.specs.Option.{option_map_or}
use Rattle.ctl_meaning.specs.Finalization.{Spot}
use Rattle.ctl_meaning.specs.Objects.{cells_at, object_in}
use Rattle.ctl_engine.specs.Shows.{kept}
use Rattle.ctl_frames.specs.Spots.{first_spot, standing}
use Rattle.ctl_places.proofs.Located.{part_on_top}
use Rattle.ctl_engine.proofs.Owned.{object_shown}
use Rattle.ctl_frames.proofs.Words.{newest_read}
use Rattle.ctl_places.proofs.record_values.newest_cells.Goals as goal

pub returns : goal.returns
returns g c =
    let code = c.args.code.now in
    let old = c.args.engine.now in
    let s = g.s.0 in
    let f = c.requires.0 in
    let b = f.1 in
    let y = first_spot s.operands in
    let p = part_on_top code old f.2 b.stack f.3 s b.inside f.4 in
    let count = c.count_spots in
    let spot = newest_read old.spots.items (standing s.control (drop 1 s.operands)) y c.index-spot.result.now count.result p.spots count.ensures.count c.index-spot.ensures in
    let number = c.object.ensures ∙ ap (λ (x : Spot). x.object) spot in
    let start = c.offset.ensures ∙ ap (λ (x : Spot). x.offset) spot in
    let there = sym (object_shown code (kept old) s.control s.operands s.world y.object b.inside.holds) ∙ c.requires.1.1 in
    c.save.ensures.items
    ∙ (ap (λ (l : List ℕ). l ++ option_map_or (cells_at c.offset.result c.args.size) (object_in c.object.result old.stock.objects) []) (c.in_ok-reserve.ensures.items ∙ c.new-value.ensures.items)
    ∙ (ap (λ n. option_map_or (cells_at n c.args.size) (object_in c.object.result old.stock.objects) []) start
    ∙ (ap (λ n. option_map_or (cells_at y.offset c.args.size) (object_in n old.stock.objects) []) number
    ∙ ap (λ o. option_map_or (cells_at y.offset c.args.size) o []) there)))
