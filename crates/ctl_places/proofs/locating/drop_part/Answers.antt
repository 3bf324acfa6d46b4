use Rattle.std.proofs.Common.{List, ap, drop, refl, sym, ◌∙◌}
use Rattle.ctl_meaning.specs.Finalization.{Spot}
use Rattle.ctl_engine.specs.Shows.{kept, with_spots}
use Rattle.ctl_frames.specs.Spots.{first_spot, standing}
use Rattle.ctl_places.proofs.Located.{drop_makes, part_on_top}
use Rattle.ctl_frames.proofs.Words.{same_front}
use Rattle.ctl_places.proofs.locating.drop_part.Goals as goal

pub returns-clause-makes : goal.returns-clause-makes
returns-clause-makes g c = λ t.
    let code = c.args.code.now in
    let old = c.args.engine.now in
    let b = c.requires.0.1 in
    let p = part_on_top code old c.requires.0.0 b.stack b.fine.0 g.s b.inside b.fine.1 in
    let below = standing g.s.control (drop 1 g.s.operands) in
    let popped = (same_front c.take_last.new.self.items below c.take_last.result (first_spot g.s.operands) (sym c.take_last.ensures.items ∙ p.spots)).0 in
    drop_makes code old _ c.args.place g.s c.requires.0.0 b refl (ap (λ (l : List Spot). with_spots (kept old) l) popped) refl refl t
