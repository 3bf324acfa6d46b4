use Rattle.std.proofs.Common.{◌∙◌, List, ap, drop, refl, sym}
use Rattle.ctl_meaning.specs.Finalization.{Spot}
use Rattle.ctl_engine.specs.declared.engine.Engine.{Engine}
use Rattle.ctl_engine.specs.Shows.{kept, with_spots}
use Rattle.ctl_frames.specs.Spots.{first_spot, standing}
use Rattle.ctl_places.proofs.Located.{part_on_top}
use Rattle.ctl_places.proofs.PoolDiscriminants.{discriminant_gone, discriminant_makes, discriminant_read, discriminant_within}
use Rattle.ctl_frames.proofs.Words.{same_front}
use Rattle.ctl_places.proofs.pool_blocks.take_discriminant.Goals as goal

pub put-requires-clause-cell : goal.put-requires-clause-cell
put-requires-clause-cell g c =
    let code = c.args.code.now in
    let old = c.args.engine.now in
    let t = c.requires.1.0.0 in
    let b = c.requires.1.0.1 in
    let p = part_on_top code old t b.stack b.fine.0 g.s b.inside b.fine.1 in
    let popped = (same_front c.take_last.new.self.items (standing g.s.control (drop 1 g.s.operands)) c.take_last.result (first_spot g.s.operands) (sym c.take_last.ensures.items ∙ p.spots)).0 in
    discriminant_within code old (record old { spots = c.take_last.new.self }) c.args.place g.s t c.args.which c.args.to.now c.requires.0 b (ap (λ (l : List Spot). with_spots (kept old) l) popped)

pub returns-in-Some-clause-passed : goal.returns-in-Some-clause-passed
returns-in-Some-clause-passed g c = λ t'.
    let code = c.args.code.now in
    let old = c.args.engine.now in
    let t = c.requires.1.0.0 in
    let b = c.requires.1.0.1 in
    let p = part_on_top code old t b.stack b.fine.0 g.s b.inside b.fine.1 in
    let below = standing g.s.control (drop 1 g.s.operands) in
    let y = first_spot g.s.operands in
    let popped = (same_front c.take_last.new.self.items below c.take_last.result y (sym c.take_last.ensures.items ∙ p.spots)).0 in
    let read = discriminant_read code old c.args.place g.s t c.args.which c.args.to.now b c.index-spot.result.now c.count_spots-newest.result c.object.result c.count_spots-newest.ensures.count c.index-spot.ensures c.object.ensures in
    let is = c.in-Some.ensures (kept old).next_object g.s.world.pools b.inside.holds.pools ∙ read in
    let mid : Engine = record old { spots = c.take_last.new.self } in (
      c.put.ensures.mode,
      discriminant_makes code old mid c.put.new.self c.args.place g.s t c.args.which c.args.to.now c.in-Some.value c.requires.0 b is
          (ap (λ (l : List Spot). with_spots (kept old) l) popped) refl refl c.put.ensures t',
    )

pub returns-in-None-clause-gone : goal.returns-in-None-clause-gone
returns-in-None-clause-gone g c = λ t' new goes.
    let code = c.args.code.now in
    let old = c.args.engine.now in
    let t = c.requires.1.0.0 in
    let b = c.requires.1.0.1 in
    let read = discriminant_read code old c.args.place g.s t c.args.which c.args.to.now b c.index-spot.result.now c.count_spots-newest.result c.object.result c.count_spots-newest.ensures.count c.index-spot.ensures c.object.ensures in
    let is = c.in-None.ensures (kept old).next_object g.s.world.pools b.inside.holds.pools ∙ read in
    discriminant_gone code old new c.args.place g.s t c.args.which c.args.to.now b is goes t'
