use Rattle.std.proofs.Common.{sym, ap, subst, ◌∙◌}
use Rattle.pool_of_ones_own.specs.Stack.{Stack, Keeps}
use Rattle.pool_of_ones_own.proofs.StackSteps.{keeps_back}
use Rattle.pool_of_ones_own.proofs.stack.StackPool.give.Goals as goal

pub invariant_of-self : goal.invariant_of-self
invariant_of-self g c =
    let p = c.self.inside in
    let b = c.args.block in
    let top = c.requires.1 ∙ ap (λ (v : Stack). v.used) (sym c.self.view_is) in
    subst (λ n. Keeps c.home.new.self p.size n) (sym c.start-self-inside.ensures)
    (keeps_back p.region c.home.new.self p.size p.used b.start b.words c.self.invariant top c.home.ensures.places)
