use Rattle.std.proofs.Common.{◌≤◌}
use Rattle.ctl_code.specs.Windows.{height}
use Rattle.ctl_code.proofs.Numbers.{each_stack}
use Rattle.ctl_code.proofs.kinds.KindNotes.room.Goals as goal

pub returns : goal.returns
returns c =
    let each = each_stack (λ stack. height stack ≤ c.greatest_height.result) c.self.inside.stacks c.self.inside.before.items in
    rw (← c.self.view_is) (each.0 (rw c.as_slice.ensures.value at c.greatest_height.ensures))
