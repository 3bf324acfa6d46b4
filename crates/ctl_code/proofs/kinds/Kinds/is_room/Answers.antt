use Rattle.std.proofs.Common.{◌≤◌}
use Rattle.ctl_code.specs.Windows.{height}
use Rattle.ctl_code.proofs.Numbers.{each_stack}
use Rattle.ctl_code.proofs.kinds.Kinds.is_room.Goals as goal

pub returns : goal.returns
returns c =
    let each = each_stack (λ stack. height stack ≤ c.args.room) c.self.inside.stacks c.self.inside.before.items in
    let tested = rw c.as_slice.ensures.value at c.are_at_most.ensures in
    rw (← c.self.view_is) ((λ t. each.0 (tested.0 t), λ fits. tested.1 (each.1 fits)))
