use Rattle.std.proofs.Common.{◌≡◌, ◌+◌, ◌-◌, arith, subst, take}
use Rattle.ctl_objects.specs.Declarations.{AreOlder}
use Rattle.ctl_objects.proofs.Kept.{older_at}
use Rattle.ctl_objects.proofs.declarations.count_before.Goals as goal

pub returns-then-objects-count-clause-older : goal.returns-then-objects-count-clause-older
returns-then-objects-count-clause-older c =
    let some = c.loop-count-test.true in
    let within = c.loop-count.invariant.0 in
    let back : c.loop-count.count - 1 + 1 ≡ c.loop-count.count = omega (arith, some) in
    subst (λ i. AreOlder c.args.master (take i c.args.objects.now)) back (older_at c.args.objects.now (c.loop-count.count - 1) c.args.master c.requires.rise c.requires.within (omega (arith, some, within)) c.if-objects-count.true)
