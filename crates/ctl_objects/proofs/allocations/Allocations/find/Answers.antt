use Rattle.std.proofs.Common.{None, Some, subst, sym}
use Rattle.ctl_objects.specs.declared.existing.Existing.{Existing}
use Rattle.ctl_objects.specs.Existing.{IsKnown}
use Rattle.ctl_objects.specs.Stock.{Stock}
use Rattle.ctl_objects.proofs.Filed.{known_existing}
use Rattle.ctl_objects.proofs.allocations.Allocations.find.Goals as goal

pub returns-in-Some : goal.returns-in-Some
returns-in-Some c =
    let n = c.args.number in
    subst (λ (v : Stock). IsKnown n (Some c.allocated.result) v.objects) c.self.view_is
    (subst (λ (e : Existing). IsKnown n (Some e) c.self.inside.objects.objects) (sym c.allocated.ensures) (known_existing n (Some c.in-Some.object) c.self.inside.objects.objects c.in-Some.ensures))

pub returns-in-None : goal.returns-in-None
returns-in-None c =
    let n = c.args.number in
    subst (λ (v : Stock). IsKnown n None v.objects) c.self.view_is (known_existing n None c.self.inside.objects.objects c.in-None.ensures)
