use Rattle.std.proofs.Common.{◌≡◌, ◌+◌, ◌∙◌, ℕ, Option, ap, drop, reverse, sym}
use Rattle.ctl_program.specs.declared.operators.CopyStart.{CopyStart}
use Rattle.ctl_code.specs.declared.code.Instr.TheVariants.{KeepPart}
use Rattle.ctl_meaning.specs.World.{World}
use Rattle.ctl_meaning.specs.Finalization.{Spot}
use Rattle.ctl_meaning.specs.Changes.{object_at}
use Rattle.ctl_frames.specs.Masters.{first_window}
use Rattle.ctl_places.specs.Parts.{begun_with, part_in}
use Rattle.ctl_engine.specs.Shows.{kept}
use Rattle.ctl_frames.specs.Spots.{first_spot, standing}
use Rattle.ctl_places.proofs.KeptPart.{copy_within, keep_gone, keep_makes, keep_none, keep_within, part_kept}
use Rattle.ctl_places.proofs.Located.{part_on_top}
use Rattle.ctl_frames.proofs.Words.{newest_read, same_front}
use Rattle.ctl_places.proofs.copies.keep_part.Goals as goal

-- what was read of the part that is kept
begun_is : (begins : CopyStart) (r : Option ℕ) (start number offset : ℕ) (y : Spot) (w : World) → r ≡ begun_with begins (part_in (start + offset) (object_at number w)) → start ≡ y.offset → number ≡ y.object → r ≡ begun_with begins (part_in (y.offset + offset) (object_at y.object w))
begun_is begins r start number offset y w read first object =
    read
    ∙ (ap (λ n. begun_with begins (part_in (n + offset) (object_at number w))) first
    ∙ ap (λ n. begun_with begins (part_in (y.offset + offset) (object_at n w))) object)

pub keep_spot-requires : goal.keep_spot-requires
keep_spot-requires g c =
    let r = c.requires.1.0 in
    keep_within c.args.code.now c.args.engine.now c.args.place r.0 r.1 c.args.begins r.2 c.args.depth c.args.base c.args.at g.s c.requires.0 r.3

pub put-requires-clause-cell : goal.put-requires-clause-cell
put-requires-clause-cell g c =
    let code = c.args.code.now in
    let old = c.args.engine.now in
    let r = c.requires.1.0 in
    let b = r.3 in
    let p = part_on_top code old r.0 b.stack b.fine.2.0 g.s b.inside b.fine.2.1 in
    let below = standing g.s.control (drop 1 g.s.operands) in
    let y = first_spot g.s.operands in
    let count = c.count_spots-newest in
    let spot = newest_read old.spots.items below y c.index-spot.result.now count.result p.spots count.ensures.count c.index-spot.ensures in
    let popped = (same_front c.take_last.new.self.items below c.take_last.result y (sym c.take_last.ensures.items ∙ p.spots)).0 in
    let number = c.object-object.ensures ∙ ap (λ (x : Spot). x.object) spot in
    let first = c.offset-start.ensures ∙ ap (λ (x : Spot). x.offset) spot in
    let mid_is = c.keep_spot.ensures.kept ∙ part_kept (kept old) c.take_last.new.self.items below (first_window (reverse old.masters.items) + c.args.base) c.object-object.result c.offset-start.result y popped number first in
    copy_within code old c.keep_spot.new.engine c.args.place g.s r.0 r.1 c.args.begins r.2 c.args.depth c.args.base c.args.at c.requires.0 b mid_is

pub returns-in-Some-clause-passed : goal.returns-in-Some-clause-passed
returns-in-Some-clause-passed g c = λ t position ty same.
    let code = c.args.code.now in
    let old = c.args.engine.now in
    let r = c.requires.1.0 in
    let b = r.3 in
    let p = part_on_top code old r.0 b.stack b.fine.2.0 g.s b.inside b.fine.2.1 in
    let below = standing g.s.control (drop 1 g.s.operands) in
    let y = first_spot g.s.operands in
    let count = c.count_spots-newest in
    let spot = newest_read old.spots.items below y c.index-spot.result.now count.result p.spots count.ensures.count c.index-spot.ensures in
    let popped = (same_front c.take_last.new.self.items below c.take_last.result y (sym c.take_last.ensures.items ∙ p.spots)).0 in
    let number = c.object-object.ensures ∙ ap (λ (x : Spot). x.object) spot in
    let first = c.offset-start.ensures ∙ ap (λ (x : Spot). x.offset) spot in
    let mid_is = c.keep_spot.ensures.kept ∙ part_kept (kept old) c.take_last.new.self.items below (first_window (reverse old.masters.items) + c.args.base) c.object-object.result c.offset-start.result y popped number first in
    let read = begun_is c.args.begins _ c.offset-start.result c.object-object.result c.args.offset y g.s.world c.in-Some.ensures first number in (
      c.put.ensures.mode,
      keep_makes code old c.keep_spot.new.engine c.put.new.self c.args.place g.s r.0 r.1 c.args.offset c.args.begins r.2 c.args.depth c.args.base c.args.at c.in-Some.value c.requires.0 b (c.is_newest_value.ensures.part c.if-is_newest_value.false) read mid_is c.keep_spot.ensures.events c.keep_spot.ensures.picks c.put.ensures t position ty same,
    )

pub returns-in-None-clause-gone : goal.returns-in-None-clause-gone
returns-in-None-clause-gone g c = λ t position ty same new goes.
    let code = c.args.code.now in
    let old = c.args.engine.now in
    let r = c.requires.1.0 in
    let b = r.3 in
    let p = part_on_top code old r.0 b.stack b.fine.2.0 g.s b.inside b.fine.2.1 in
    let y = first_spot g.s.operands in
    let count = c.count_spots-newest in
    let spot = newest_read old.spots.items (standing g.s.control (drop 1 g.s.operands)) y c.index-spot.result.now count.result p.spots count.ensures.count c.index-spot.ensures in
    let number = c.object-object.ensures ∙ ap (λ (x : Spot). x.object) spot in
    let first = c.offset-start.ensures ∙ ap (λ (x : Spot). x.offset) spot in
    let read = begun_is c.args.begins _ c.offset-start.result c.object-object.result c.args.offset y g.s.world c.in-None.ensures first number in
    keep_gone code old new c.args.place g.s r.0 r.1 c.args.offset c.args.begins r.2 c.args.depth c.args.base c.args.at b (c.is_newest_value.ensures.part c.if-is_newest_value.false) read goes t position ty same

pub is_newest_value-requires : goal.is_newest_value-requires
is_newest_value-requires g c = let r = c.requires.1.0 in (KeepPart r.0 r.1 c.args.begins r.2 c.args.depth c.args.base c.args.at, r.3, r.0, r.3.fine.2.0, r.3.fine.2.1)

pub returns-then-is_newest_value-clause-gone : goal.returns-then-is_newest_value-clause-gone
returns-then-is_newest_value-clause-gone g c = λ t position ty same new goes.
    let r = c.requires.1.0 in
    keep_none c.args.code.now c.args.engine.now new c.args.place g.s r.0 r.1 c.args.begins r.2 c.args.depth c.args.base c.args.at r.3 (c.is_newest_value.ensures.value c.if-is_newest_value.true) goes t position ty
