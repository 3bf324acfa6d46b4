use Rattle.std.proofs.Common.{◌∙◌, ◌+◌, arith, sym}
use Rattle.ctl_objects.proofs.Waits.{none_before, none_over}
use Rattle.ctl_objects.proofs.allocations.Allocations.first_waiting.Goals as goal

pub returns-then-number : goal.returns-then-number
returns-then-number c =
    let g = c.args.group in
    let needs = c.args.self.now.needs in
    let os = c.args.self.now.objects in
    let n = c.in-Some.number in
    none_over needs g os (n + 1) c.are_numbered.ensures (none_before needs g os c.loop-number.start n c.loop-number.invariant.1 c.in-Some.ensures (sym c.has_joined.ensures ∙ c.if-has_joined.false)) (omega (arith, c.if-number.true))
