use Rattle.std.proofs.Common.{◌≡◌, drop}
use Rattle.ctl_code.specs.Kinds.{stack_in}
use Rattle.ctl_code.specs.Valid.{HaveNumbers}
use Rattle.ctl_code.proofs.stacks.Stacks.has_numbers.Given as goal

-- those so far are numbers
abbrev pub invariant-loop : goal.invariant-loop
invariant-loop l = (stack_in l.self l.left ≡ drop l.counter (stack_in l.self l.stack)) × HaveNumbers l.counter (stack_in l.self l.stack)
