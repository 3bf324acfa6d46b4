use Rattle.std.proofs.Common.{◌≡◌, ◌∙◌, List, ap, drop, refl, subst, sym}
use Rattle.std.specs.Prelude.{slice_get}
use Rattle.ctl_meaning.specs.Finalization.{Spot}
use Rattle.ctl_meaning.specs.Changes.{object_at}
use Rattle.ctl_code.specs.States.{NullPart}
use Rattle.ctl_code.specs.Table.{component_of, free_object}
use Rattle.ctl_engine.specs.Moves.{Makes, here_of}
use Rattle.ctl_engine.specs.Shows.{kept, with_spots}
use Rattle.ctl_frames.specs.Spots.{first_spot, standing}
use Rattle.ctl_allocations.proofs.FreedPart.{component, component_gone, component_null, component_read, component_some}
use Rattle.ctl_places.proofs.Located.{part_on_top}
use Rattle.ctl_engine.proofs.Steps.{on_ok}
use Rattle.ctl_frames.proofs.Words.{newest_read, same_front}
use Rattle.ctl_machine.proofs.freeing.free_part.Goals as goal

pub returns-in_default-clause-ok : goal.returns-in_default-clause-ok
returns-in_default-clause-ok g c =
    let code = c.args.code.now in
    let old = c.args.engine.now in
    let b = c.requires.1.0 in
    let s = g.s in
    let p = part_on_top code old c.args.record b.stack b.fine.1.0 s b.inside b.fine.1.1 in
    let below = standing s.control (drop 1 s.operands) in
    let y = first_spot s.operands in
    let count = c.count_spots-newest in
    let spot = newest_read old.spots.items below y c.index-spot.result.now count.result p.spots count.ensures.count c.index-spot.ensures in
    let read = component_read code c.args.record c.args.position s _ c.offset.result c.object.result c.offset_of-offset.result c.index-spot.result.now c.in_default.ensures c.offset.ensures c.object.ensures spot c.offset_of-offset.ensures in
    component_gone code old c.go_on.new.self c.args.access c.args.place c.args.record c.args.position s b read c.go_on.ensures

pub returns-then-object-eq0-clause-ok : goal.returns-then-object-eq0-clause-ok
returns-then-object-eq0-clause-ok g c =
    let code = c.args.code.now in
    let old = c.args.engine.now in
    let b = c.requires.1.0 in
    let s = g.s in
    let p = part_on_top code old c.args.record b.stack b.fine.1.0 s b.inside b.fine.1.1 in
    let below = standing s.control (drop 1 s.operands) in
    let y = first_spot s.operands in
    let count = c.count_spots-newest in
    let spot = newest_read old.spots.items below y c.index-spot.result.now count.result p.spots count.ensures.count c.index-spot.ensures in
    let read = component_read code c.args.record c.args.position s _ c.offset.result c.object.result c.offset_of-offset.result c.index-spot.result.now c.in-Some.ensures c.offset.ensures c.object.ensures spot c.offset_of-offset.ensures in
    let popped = (same_front c.take_last.new.self.items below c.take_last.result y (sym c.take_last.ensures.items ∙ p.spots)).0 in
    component_null code old _ c.args.access c.args.place c.args.record c.args.position c.in-Some.object s b read c.if-object-eq0.true refl (ap (λ (l : List Spot). with_spots (kept old) l) popped) refl refl

pub returns-clause-ok : goal.returns-clause-ok
returns-clause-ok g c =
    let code = c.args.code.now in
    let old = c.args.engine.now in
    let b = c.requires.1.0 in
    let s = g.s in
    let p = part_on_top code old c.args.record b.stack b.fine.1.0 s b.inside b.fine.1.1 in
    let below = standing s.control (drop 1 s.operands) in
    let y = first_spot s.operands in
    let count = c.count_spots-newest in
    let spot = newest_read old.spots.items below y c.index-spot.result.now count.result p.spots count.ensures.count c.index-spot.ensures in
    let read = component_read code c.args.record c.args.position s _ c.offset.result c.object.result c.offset_of-offset.result c.index-spot.result.now c.in-Some.ensures c.offset.ensures c.object.ensures spot c.offset_of-offset.ensures in
    let same : component_of y c.offset_of-offset.result c.args.position ≡ component code c.args.record c.args.position s = ap (λ n. component_of y n c.args.position) c.offset_of-offset.ensures in
    on_ok c.free_designated.result
    (λ made. component_some code old c.free_designated.new.engine c.args.access c.args.place c.args.record c.args.position c.in-Some.object s b read c.if-object-eq0.false
    (subst (λ (x : Spot). Makes code old c.free_designated.new.engine (free_object code (NullPart x) (slice_get code.accesses.items c.args.access) (object_at c.in-Some.object s.world) (drop 1 s.operands) (here_of c.args.place s))) same made))
    c.free_designated.ensures.ok
