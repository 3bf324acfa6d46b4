use Rattle.std.proofs.Common.{◌∙◌, ap, drop, refl, sym}
use Rattle.ctl_meaning.specs.Finalization.{Spot}
use Rattle.ctl_meaning.specs.Objects.{object_in}
use Rattle.ctl_frames.specs.Spots.{first_spot, standing}
use Rattle.ctl_allocations.proofs.CopyAllocated.{copy_refused, copy_takes, source_found, source_gone, source_part, source_there}
use Rattle.ctl_engine.proofs.Owned.{none_there}
use Rattle.ctl_engine.proofs.Steps.{on_ok}
use Rattle.ctl_frames.proofs.Words.{newest_read}
use Rattle.ctl_allocations.proofs.allocating_copy.allocate_part.Goals as goal

pub returns-then-not-exists-clause-ok : goal.returns-then-not-exists-clause-ok
returns-then-not-exists-clause-ok g c =
    let code = c.args.code.now in
    let old = c.args.engine.now in
    let s = g.s.0 in
    let b = c.requires.1.0 in
    let p = source_part code old c.args.access c.args.place c.args.record g.s.2 g.s.1 s b in
    let count = c.count_spots-newest in
    let spot = newest_read old.spots.items (standing s.control (drop 1 s.operands)) (first_spot s.operands) c.index.result.now count.result p.spots count.ensures.count c.index.ensures in
    let none = none_there (object_in c.object.result old.stock.objects) (sym c.exists.ensures ∙ c.if-not-exists.true) in
    source_gone code old _ c.args.access c.args.place c.args.record g.s.2 g.s.1 s b c.requires.1.1.0 (ap (λ n. object_in n old.stock.objects) (sym (c.object.ensures ∙ ap (λ (x : Spot). x.object) spot)) ∙ none) c.go_on.ensures

pub set_for-requires : goal.set_for-requires
set_for-requires g c = let b = c.requires.1.0 in (b.inside.holds, (b.fine.1.0, b.fine.1.1, b.fine.1.2))

pub copy_member-requires : goal.copy_member-requires
copy_member-requires g c =
    let b = c.requires.1.0 in
    let count = c.count_spots-newest in
    let there = source_found c.args.code.now c.args.engine.now c.args.access c.args.place c.args.record g.s.2 g.s.1 g.s.0 b count.result c.object.result c.index.result.now count.ensures.count c.index.ensures c.object.ensures (sym c.exists.ensures ∙ c.if-not-exists.false) in
    (c.requires.0, ((g.s.1, g.s.2, b), (c.requires.1.1.0, (there, (refl, c.requires.1.1.1)))))

pub returns-in-Ok-clause-ok : goal.returns-in-Ok-clause-ok
returns-in-Ok-clause-ok g c =
    let b = c.requires.1.0 in
    let count = c.count_spots-newest in
    let there = source_found c.args.code.now c.args.engine.now c.args.access c.args.place c.args.record g.s.2 g.s.1 g.s.0 b count.result c.object.result c.index.result.now count.ensures.count c.index.ensures c.object.ensures (sym c.exists.ensures ∙ c.if-not-exists.false) in
    on_ok c.copy_member.result (copy_takes c.args.code.now c.args.engine.now c.copy_member.new.engine c.args.access c.args.place c.in-Ok.set c.args.record g.s.2 g.s.1 _ g.s.0 (source_there c.args.code.now c.args.access c.args.place c.args.record g.s.2 g.s.1 _ g.s.0 c.requires.1.1.0 there) c.in-Ok.ensures.ok) c.copy_member.ensures.ok

pub returns-in-Err-clause-ok : goal.returns-in-Err-clause-ok
returns-in-Err-clause-ok g c =
    let b = c.requires.1.0 in
    let count = c.count_spots-newest in
    let there = source_found c.args.code.now c.args.engine.now c.args.access c.args.place c.args.record g.s.2 g.s.1 g.s.0 b count.result c.object.result c.index.result.now count.ensures.count c.index.ensures c.object.ensures (sym c.exists.ensures ∙ c.if-not-exists.false) in
    copy_refused c.args.code.now c.args.engine.now c.go_on-in-Err.new.self c.args.access c.args.place c.args.record g.s.2 g.s.1 c.in-Err.refused _ g.s.0 b (source_there c.args.code.now c.args.access c.args.place c.args.record g.s.2 g.s.1 _ g.s.0 c.requires.1.1.0 there) c.in-Err.ensures.err c.go_on-in-Err.ensures
