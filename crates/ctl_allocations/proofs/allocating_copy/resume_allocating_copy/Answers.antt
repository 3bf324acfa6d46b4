use Rattle.std.proofs.Common.{◌≡◌, ◌∙◌, List, ap, refl, reverse}
use Rattle.ctl_meaning.specs.Finalization.{Spot}
use Rattle.ctl_engine.specs.declared.engine.Engine.{Engine}
use Rattle.ctl_frames.specs.declared.frame.Frame.{Frame}
use Rattle.ctl_frames.specs.declared.frame.Frame.TheVariants as FrameOf
use Rattle.ctl_engine.specs.Shows.{kept}
use Rattle.ctl_lifetimes.proofs.AfterInitialize.{rest_is}
use Rattle.ctl_engine.proofs.Allocated.{allocating_copy, copy_goes_on, member_behind}
use Rattle.ctl_lifetimes.proofs.CopyUndone.{allocated_copy}
use Rattle.ctl_engine.proofs.Stages.{Copies}
use Rattle.ctl_allocations.proofs.allocating_copy.resume_allocating_copy.Goals as goal

pub undo_copy-requires : goal.undo_copy-requires
undo_copy-requires g c =
    let top = c.requires.1.1.0 in
    (c.requires.0, (c.requires.1.0, (allocated_copy c.args.code.now c.args.engine.now c.args.object c.args.record c.args.place c.args.first top.0 g.s c.requires.1.0 top.1, c.requires.1.1.1)))

pub end_allocation-requires : goal.end_allocation-requires
end_allocation-requires g c =
    let code = c.args.code.now in
    let old = c.args.engine.now in
    let b = c.requires.1.0 in
    let top = c.requires.1.1.0 in
    let u = allocating_copy code old c.args.object c.args.record c.args.place c.args.first top.0 g.s b top.1 in
    let frame = FrameOf.AllocatingCopy c.args.object c.args.record c.args.place c.args.first in
    let rest : reverse c.take_last.new.self.items ≡ top.0 = rest_is old.control.items c.take_last.new.self.items c.take_last.result frame top.0 c.take_last.ensures.items top.1 in
    let mid : Engine = record old { control = c.take_last.new.self; noted = c.truncate.new.self } in
    let is = ap (λ (l : List Frame). record (kept old) { control = l; noted = c.truncate.new.self.items }) rest ∙ ap (λ (l : List Spot). record (kept old) { control = top.0; noted = l }) c.truncate.ensures.items in
    (c.requires.0, member_behind (Copies c.args.first u.0) code old mid c.args.object c.args.record c.args.place top.0 g.s b top.1 u.1 is)

pub returns-clause-ok : goal.returns-clause-ok
returns-clause-ok g c =
    let code = c.args.code.now in
    let old = c.args.engine.now in
    let top = c.requires.1.1.0 in
    let u = allocating_copy code old c.args.object c.args.record c.args.place c.args.first top.0 g.s c.requires.1.0 top.1 in
    let mid : Engine = record old { control = c.take_last.new.self; noted = c.truncate.new.self } in
    copy_goes_on code old mid c.end_allocation.new.engine c.args.ended c.args.object c.args.record c.args.place c.args.first u.0 top.0 g.s c.in_default.not-OperationFailed u.1 refl refl c.end_allocation.ensures
