use Rattle.pool_of_ones_own.proofs.StackSteps.{keeps_new}
use Rattle.pool_of_ones_own.proofs.stack.StackPool.new.Goals as goal

pub invariant_of-result : goal.invariant_of-result
invariant_of-result g c = keeps_new c.in_ok-open.field-0 c.args.words c.in_ok-open.ensures.zero
