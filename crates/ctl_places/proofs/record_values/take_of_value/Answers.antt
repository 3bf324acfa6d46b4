use Rattle.std.proofs.Common.{◌∙◌, List, ap, drop, refl, sym}
use Rattle.ctl_meaning.specs.Finalization.{Spot}
use Rattle.ctl_meaning.specs.Names.{scalar_of}
use Rattle.ctl_engine.specs.declared.engine.Engine.{Engine}
use Rattle.ctl_engine.specs.Shows.{kept, with_spots}
use Rattle.ctl_frames.specs.Spots.{first_spot, standing}
use Rattle.ctl_places.proofs.Located.{part_on_top, take_value_makes, take_within, value_cells}
use Rattle.ctl_frames.proofs.Words.{same_front}
use Rattle.ctl_places.proofs.record_values.take_of_value.Goals as goal

pub put-requires-clause-cell : goal.put-requires-clause-cell
put-requires-clause-cell g c =
    let code = c.args.code.now in
    let old = c.args.engine.now in
    let r = c.requires.1.0 in
    let b = r.3 in
    let p = part_on_top code old r.0 b.stack b.fine.1.0 g.s b.inside b.fine.1.1 in
    let popped = (same_front c.take_last-newest.new.self.items (standing g.s.control (drop 1 g.s.operands)) c.take_last-newest.result (first_spot g.s.operands) (sym c.take_last-newest.ensures.items ∙ p.spots)).0 in
    take_within code old (record old { spots = c.take_last-newest.new.self }) c.args.place g.s r.0 r.1 r.2 c.args.to.now c.requires.0 b (ap (λ (l : List Spot). with_spots (kept old) l) popped)

pub returns-clause-makes : goal.returns-clause-makes
returns-clause-makes g c = λ t position ty same.
    let code = c.args.code.now in
    let old = c.args.engine.now in
    let r = c.requires.1.0 in
    let b = r.3 in
    let p = part_on_top code old r.0 b.stack b.fine.1.0 g.s b.inside b.fine.1.1 in
    let below = standing g.s.control (drop 1 g.s.operands) in
    let y = first_spot g.s.operands in
    let front = same_front c.take_last-newest.new.self.items below c.take_last-newest.result y (sym c.take_last-newest.ensures.items ∙ p.spots) in
    let mid : Engine = record old { spots = c.take_last-newest.new.self } in
    let is = c.cell.ensures ∙ (ap (λ (x : Spot). scalar_of (drop c.args.offset x.path)) front.1 ∙ ap (λ v. scalar_of (drop c.args.offset v)) (value_cells g.s.operands c.requires.1.1.0)) in
    take_value_makes code old mid c.put.new.self c.args.place g.s r.0 r.1 c.args.offset r.2 c.args.to.now c.cell.result c.requires.0 b c.requires.1.1.0 is
    (ap (λ (l : List Spot). with_spots (kept old) l) front.0) refl refl c.put.ensures t position ty same
