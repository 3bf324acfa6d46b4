use Rattle.std.proofs.Common.{subst}
use Rattle.ctl_storage.specs.Order.{Rise}
use Rattle.ctl_objects.specs.Stock.{Stock}
use Rattle.ctl_objects.proofs.Both.{rise_both}
use Rattle.ctl_objects.proofs.object_list.Objects.rises.Goals as goal

pub returns : goal.returns
returns c = subst (λ (v : Stock). Rise 0 v.objects) c.self.view_is (rise_both c.self.inside.allocated.objects c.self.inside.declared c.self.invariant)
