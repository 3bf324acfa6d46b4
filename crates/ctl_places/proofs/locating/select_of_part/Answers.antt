use Rattle.std.proofs.Common.{◌∷◌, ◌++◌, ◌∙◌, [], List, ap, drop}
use Rattle.ctl_meaning.specs.Finalization.{Spot}
use Rattle.ctl_code.specs.Table.{component_of}
use Rattle.ctl_engine.specs.Shows.{kept, with_spots}
use Rattle.ctl_frames.specs.Spots.{first_spot, standing}
use Rattle.ctl_places.proofs.Located.{part_on_top, select_makes}
use Rattle.ctl_frames.proofs.Words.{last_replaced, newest_read}
use Rattle.ctl_places.proofs.locating.select_of_part.Goals as goal
use Rattle.std.proofs.Common.{refl}

pub returns-clause-ok : goal.returns-clause-ok
returns-clause-ok g c = λ t part same.
    let code = c.args.code.now in
    let old = c.args.engine.now in
    let b = c.requires.0.2 in
    let p = part_on_top code old c.requires.0.0 b.stack b.fine.0 g.s b.inside b.fine.1 in
    let below = standing g.s.control (drop 1 g.s.operands) in
    let y = first_spot g.s.operands in
    let count = c.count_spots-newest in
    let read = newest_read old.spots.items below y c.index_mut.result.now count.result p.spots count.ensures.count c.index_mut.ensures.value in
    let put = last_replaced old.spots.items below y c.select.new.self count.result p.spots count.ensures.count in
    select_makes code old _ c.args.place g.s c.requires.0.0 c.args.position c.requires.0.1 c.args.offset b c.requires.1.0 refl
    (ap (λ (l : List Spot). with_spots (kept old) l) put
    ∙ ap (λ (x : Spot). with_spots (kept old) (below ++ x ∷ [])) (c.in_ok-select.ensures.ok ∙ ap (λ (x : Spot). component_of x c.args.offset c.args.position) read))
    refl refl t part same
