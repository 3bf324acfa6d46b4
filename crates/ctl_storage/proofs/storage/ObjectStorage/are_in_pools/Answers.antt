use Rattle.std.proofs.Common.{◌∙◌, ap, subst}
use Rattle.std.specs.FinMap.{get}
use Rattle.ctl_storage.specs.Calls.{AreOutside}
use Rattle.ctl_storage.specs.Storage.{Storage}
use Rattle.ctl_storage.proofs.Kept.{none_closed}
use Rattle.ctl_storage.proofs.storage.ObjectStorage.are_in_pools.Goals as goal

pub returns : goal.returns
returns c = λ n closed.
    let s = c.self.inside in
    subst (λ (v : Storage). AreOutside n v.objects) c.self.view_is (none_closed s.objects.values s.sizes.values s.located s.store n (ap (λ (v : Storage). get v.blocks n) c.self.view_is ∙ closed) c.self.invariant)
