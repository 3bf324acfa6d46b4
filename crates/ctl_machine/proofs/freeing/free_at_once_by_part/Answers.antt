use Rattle.std.proofs.Common.{◌≡◌, ◌+◌, ◌++◌, ◌∙◌, List, ap, arith, drop, refl, sym}
use Rattle.ctl_meaning.specs.Finalization.{Spot}
use Rattle.ctl_frames.specs.declared.frame.Ended.TheVariants as EndedOf
use Rattle.ctl_engine.specs.Shows.{Kept, kept, with_cells, with_spots}
use Rattle.ctl_frames.specs.Spots.{first_spot, standing}
use Rattle.ctl_engine.proofs.Following.{makes_later}
use Rattle.ctl_places.proofs.Freed.{ending_at, ending_kept}
use Rattle.ctl_allocations.proofs.FreedPart.{component_lets_go}
use Rattle.ctl_places.proofs.Located.{part_on_top}
use Rattle.ctl_frames.proofs.Words.{many_of, same_front}
use Rattle.ctl_machine.proofs.freeing.free_at_once_by_part.Goals as goal

pub take_last-part-requires : goal.take_last-part-requires
take_last-part-requires g c =
    let old = c.args.engine.now in
    let s = g.s.0 in
    let b = c.requires.1.0.3 in
    let p = part_on_top c.args.code.now old c.requires.1.0.1 b.stack b.fine.1.0 s b.inside b.fine.1.1 in
    let ready = c.prepare_return.new.engine in
    let goes = c.in_ok-prepare_return.ensures.ok in
    let many = many_of ready.spots.items (standing s.control (drop 1 s.operands)) (first_spot s.operands) (ap (λ (e : Kept). e.spots) goes.1.kept ∙ p.spots) in
    omega (arith, many)

pub null_component-requires : goal.null_component-requires
null_component-requires g c =
    let code = c.args.code.now in
    let old = c.args.engine.now in
    let mid = c.prepare_return.new.engine in
    let x = c.args.release in
    let b = c.requires.1.0.3 in
    let s = g.s.0 in
    let part = g.s.1 in
    let same = c.requires.1.1.1.1.1 in
    let goes = c.in_ok-prepare_return.ensures.ok in
    let top = first_spot s.operands in
    let below = standing s.control (drop 1 s.operands) in
    let p = part_on_top code old c.requires.1.0.1 b.stack b.fine.1.0 s b.inside b.fine.1.1 in
    let taken = c.take_last-part in
    let front = same_front taken.new.self.items below taken.result top (sym taken.ensures.items ∙ (ap (λ (e : Kept). e.spots) goes.1.kept ∙ p.spots)) in
    let are : with_spots (kept mid) taken.new.self.items ≡ with_spots (with_cells (kept old) (old.cells.items ++ goes.0)) below = ap (λ (e : Kept). with_spots e taken.new.self.items) goes.1.kept ∙ ap (λ (l : List Spot). with_spots (with_cells (kept old) (old.cells.items ++ goes.0)) l) front.0 in
    let start : c.offset.result ≡ top.offset = c.offset.ensures ∙ ap (λ (y : Spot). y.offset) front.1 in
    let first = same.1 in
    let ends = ending_at code mid EndedOf.Complete x.storage (x.place + 1) b.fine.1.0 c.requires.0 b.fine.1.2.1 c.in_ok-prepare_return.ensures.room in (
      c.requires.0,
      (
        component_lets_go code old _ c.requires.1.0.0 x.place c.requires.1.0.1 c.requires.1.0.2 x.object part s goes.0 b c.requires.1.1.0 are,
        (
          (c.object.ensures ∙ (ap (λ (y : Spot). y.object) front.1 ∙ sym same.0), omega (arith, start, first)),
          (
            refl,
            ending_kept code mid _ _ ends refl refl refl refl refl (omega arith) refl (λ called. called),
          ),
        ),
      ),
    )

pub returns-clause-ok : goal.returns-clause-ok
returns-clause-ok g c =
    let goes = c.in_ok-prepare_return.ensures.ok.1 in
    makes_later c.args.code.now c.args.engine.now _ c.null_component.new.engine _ goes.events goes.picks c.null_component.ensures
