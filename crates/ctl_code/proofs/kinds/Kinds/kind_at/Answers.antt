use Rattle.std.proofs.Common.{◌≡◌, drop, sym, ◌∙◌}
use Rattle.ctl_code.specs.Kinds.{stack_at, stack_in}
use Rattle.ctl_code.proofs.Lists.{get_by_drop, none_by_drop}
use Rattle.ctl_code.proofs.kinds.Kinds.kind_at.Goals as goal

pub returns-in-Some : goal.returns-in-Some
returns-in-Some c =
    let number : stack_in c.self.inside.stacks c.number_under-stack.result ≡ drop c.args.depth (stack_at c.args.self.now c.args.place) = rw (← c.self.view_is) (rw c.as_slice.ensures.value at c.number_under-stack.ensures) in
    sym (get_by_drop c.args.depth _ _ _ (sym number ∙ c.in-Some.ensures.top))

pub returns-in-None : goal.returns-in-None
returns-in-None c =
    let number : stack_in c.self.inside.stacks c.number_under-stack.result ≡ drop c.args.depth (stack_at c.args.self.now c.args.place) = rw (← c.self.view_is) (rw c.as_slice.ensures.value at c.number_under-stack.ensures) in
    sym (none_by_drop c.args.depth _ (sym number ∙ c.in-None.ensures.top))
