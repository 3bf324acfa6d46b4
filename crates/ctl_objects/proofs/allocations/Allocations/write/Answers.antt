use Rattle.std.proofs.Common.{◌+◌, [], ◌∷◌, List, subst, sym}
use Rattle.ctl_meaning.specs.World.{Object}
use Rattle.ctl_objects.specs.Filed.{AreFiled}
use Rattle.ctl_objects.specs.Stock.{Stock, storage_of}
use Rattle.ctl_storage.specs.Storage.{KeepsPools}
use Rattle.ctl_objects.proofs.Filed.{filed_written}
use Rattle.std.proofs.Common.{ap}
use Rattle.ctl_objects.specs.Stock.{stock_of}
use Rattle.ctl_storage.specs.Storage.{Storage}
use Rattle.std.proofs.Common.{◌≡◌}
use Rattle.ctl_objects.proofs.allocations.Allocations.write.Goals as goal

pub invariant_of-self : goal.invariant_of-self
invariant_of-self c =
    let s = c.self.inside in
    let offset = c.args.start + c.args.offset in
    let v = c.args.value ∷ [] in
    subst (λ (l : List Object). AreFiled s.needs.items l s.sets s.groups) (sym c.write.ensures.written) (filed_written s.needs.items s.objects.objects s.sets s.groups c.args.number offset v c.self.invariant)

pub returns-clause-pools : goal.returns-clause-pools
returns-clause-pools c = subst (λ (v : Stock). KeepsPools (storage_of v) c.write.new.self) c.self.view_is c.write.ensures.pools

pub returns-clause-same : goal.returns-clause-same
returns-clause-same c =
    let s = c.self.inside in
    subst (λ (v : Stock). stock_of c.write.new.self s.needs.items ≡ record v { objects = c.write.new.self.objects }) c.self.view_is (ap (λ (x : Storage). stock_of x s.needs.items) c.write.ensures.same)
