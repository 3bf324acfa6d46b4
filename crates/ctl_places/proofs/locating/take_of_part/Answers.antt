use Rattle.std.proofs.Common.{◌∙◌, List, ap, drop, sym}
use Rattle.std.proofs.Common.{refl}
use Rattle.ctl_meaning.specs.Finalization.{Spot}
use Rattle.ctl_engine.specs.declared.engine.Engine.{Engine}
use Rattle.ctl_engine.specs.Shows.{kept, with_spots}
use Rattle.ctl_frames.specs.Spots.{first_spot, standing}
use Rattle.ctl_places.proofs.Located.{part_on_top, read_is, take_within, take_makes, take_gone}
use Rattle.ctl_frames.proofs.Words.{newest_read, same_front}
use Rattle.ctl_places.proofs.locating.take_of_part.Goals as goal

pub put-requires-clause-cell : goal.put-requires-clause-cell
put-requires-clause-cell g c =
    let code = c.args.code.now in
    let old = c.args.engine.now in
    let r = c.requires.1.0 in
    let b = r.3 in
    let p = part_on_top code old r.0 b.stack b.fine.1.0 g.s b.inside b.fine.1.1 in
    let popped = (same_front c.take_last.new.self.items (standing g.s.control (drop 1 g.s.operands)) c.take_last.result (first_spot g.s.operands) (sym c.take_last.ensures.items ∙ p.spots)).0 in
    take_within code old (record old { spots = c.take_last.new.self }) c.args.place g.s r.0 r.1 r.2 c.args.to.now c.requires.0 b (ap (λ (l : List Spot). with_spots (kept old) l) popped)

pub returns-in-Some-clause-passed : goal.returns-in-Some-clause-passed
returns-in-Some-clause-passed g c = λ t position ty same.
    let code = c.args.code.now in
    let old = c.args.engine.now in
    let r = c.requires.1.0 in
    let b = r.3 in
    let p = part_on_top code old r.0 b.stack b.fine.1.0 g.s b.inside b.fine.1.1 in
    let below = standing g.s.control (drop 1 g.s.operands) in
    let y = first_spot g.s.operands in
    let count = c.count_spots-newest in
    let read = newest_read old.spots.items below y c.index-spot.result.now count.result p.spots count.ensures.count c.index-spot.ensures in
    let popped = (same_front c.take_last.new.self.items below c.take_last.result y (sym c.take_last.ensures.items ∙ p.spots)).0 in
    let is = read_is _ c.offset.result c.object.result c.args.offset c.index-spot.result.now y g.s.world c.in-Some.ensures c.offset.ensures c.object.ensures read in
    let mid : Engine = record old { spots = c.take_last.new.self } in (
      c.put.ensures.mode,
      take_makes code old mid c.put.new.self c.args.place g.s r.0 r.1 c.args.offset r.2 c.args.to.now c.in-Some.value c.requires.0 b c.requires.1.1.0 is
          (ap (λ (l : List Spot). with_spots (kept old) l) popped) refl refl c.put.ensures t position ty same,
    )

pub returns-in-None-clause-gone : goal.returns-in-None-clause-gone
returns-in-None-clause-gone g c = λ t position ty same new goes.
    let code = c.args.code.now in
    let old = c.args.engine.now in
    let r = c.requires.1.0 in
    let b = r.3 in
    let p = part_on_top code old r.0 b.stack b.fine.1.0 g.s b.inside b.fine.1.1 in
    let y = first_spot g.s.operands in
    let count = c.count_spots-newest in
    let read = newest_read old.spots.items (standing g.s.control (drop 1 g.s.operands)) y c.index-spot.result.now count.result p.spots count.ensures.count c.index-spot.ensures in
    let is = read_is _ c.offset.result c.object.result c.args.offset c.index-spot.result.now y g.s.world c.in-None.ensures c.offset.ensures c.object.ensures read in
    take_gone code old new c.args.place g.s r.0 r.1 c.args.offset r.2 c.args.to.now b c.requires.1.1.0 is goes t position ty same
