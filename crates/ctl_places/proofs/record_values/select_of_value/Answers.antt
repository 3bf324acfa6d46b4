use Rattle.std.proofs.Common.{◌∷◌, ◌++◌, ◌∙◌, [], List, ap, drop, refl}
use Rattle.ctl_meaning.specs.Finalization.{Spot}
use Rattle.ctl_engine.specs.Shows.{kept, with_spots}
use Rattle.ctl_frames.specs.Spots.{first_spot, standing, value_spot}
use Rattle.ctl_places.proofs.Located.{part_on_top, select_value_makes, value_cells}
use Rattle.ctl_frames.proofs.Words.{last_replaced, newest_read}
use Rattle.ctl_places.proofs.record_values.select_of_value.Goals as goal

pub returns-clause-ok : goal.returns-clause-ok
returns-clause-ok g c = λ t part same.
    let code = c.args.code.now in
    let old = c.args.engine.now in
    let b = c.requires.0.2 in
    let p = part_on_top code old c.requires.0.0 b.stack b.fine.0 g.s b.inside b.fine.1 in
    let below = standing g.s.control (drop 1 g.s.operands) in
    let y = first_spot g.s.operands in
    let count = c.count_spots-newest in
    let read = newest_read old.spots.items below y c.index.result.now count.result p.spots count.ensures.count c.index.ensures in
    let put = last_replaced old.spots.items below y c.in_ok-component.component count.result p.spots count.ensures.count in
    let is = c.in_ok-component.ensures ∙ (ap (λ (x : Spot). value_spot (drop c.args.offset x.path)) read ∙ ap (λ v. value_spot (drop c.args.offset v)) (value_cells g.s.operands c.requires.1.0)) in
    select_value_makes code old _ c.args.place g.s c.requires.0.0 c.args.position c.requires.0.1 c.args.offset b c.requires.1.0 refl
    (ap (λ (l : List Spot). with_spots (kept old) l) put
    ∙ ap (λ (x : Spot). with_spots (kept old) (below ++ x ∷ [])) is)
    refl refl t part same
