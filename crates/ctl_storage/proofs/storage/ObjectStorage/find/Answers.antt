use Rattle.std.proofs.Common.{None, Option, Some, subst}
use Rattle.ctl_storage.specs.declared.existing.Allocation.{Allocation}
use Rattle.ctl_storage.specs.Allocated.{IsKnown}
use Rattle.ctl_storage.specs.Storage.{Storage}
use Rattle.ctl_storage.proofs.InStore.{known_stored}
use Rattle.ctl_storage.proofs.storage.ObjectStorage.find.Goals as goal

pub returns-in-Some : goal.returns-in-Some
returns-in-Some c =
    let s = c.self.inside in
    let found : Option Allocation = Some c.in-Some.object.now in
    subst (λ (v : Storage). IsKnown c.args.number found v.objects) c.self.view_is (known_stored s.objects.values s.store c.args.number found c.self.invariant.each c.in-Some.ensures)

pub returns-in-None : goal.returns-in-None
returns-in-None c =
    let s = c.self.inside in
    let none : Option Allocation = None in
    subst (λ (v : Storage). IsKnown c.args.number none v.objects) c.self.view_is (known_stored s.objects.values s.store c.args.number none c.self.invariant.each c.in-None.ensures)
