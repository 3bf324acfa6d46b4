use Rattle.std.proofs.Common.{Some, subst, sym}
use Rattle.ctl_storage.specs.declared.existing.Step.{Step}
use Rattle.ctl_groups.specs.Groups.{Moves}
use Rattle.ctl_storage.specs.Allocated.{known}
use Rattle.ctl_storage.specs.Stages.{with_step}
use Rattle.ctl_groups.proofs.Grouped.{begins, ends}
use Rattle.ctl_groups.proofs.groups.Groups.follow.Goals as goal

pub returns-in-Begin : goal.returns-in-Begin
returns-in-Begin c =
    let x = known c.args.number c.args.before.now in
    subst (λ (z : Step). Moves c.args.needs.now c.args.number (Some x) (Some (with_step z x)) c.args.self.now c.leave.new.self) (sym c.in-Begin.is) (begins c.args.needs.now c.args.number x c.args.self.now c.leave.new.self c.leave.ensures)

pub returns-in-End : goal.returns-in-End
returns-in-End c =
    let x = known c.args.number c.args.before.now in
    subst (λ (z : Step). Moves c.args.needs.now c.args.number (Some x) (Some (with_step z x)) c.args.self.now c.args.self.now) (sym c.in-End.is) (ends c.args.needs.now c.args.number x c.args.self.now c.requires)
