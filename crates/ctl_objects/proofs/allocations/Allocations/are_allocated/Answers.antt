use Rattle.std.proofs.Common.{◌≡◌, subst}
use Rattle.std.specs.Prelude.{not}
use Rattle.ctl_meaning.specs.Lists.{keep}
use Rattle.ctl_meaning.specs.Objects.{ends_with_master}
use Rattle.ctl_objects.specs.Sets.{is_of_sets}
use Rattle.ctl_objects.specs.Stock.{Stock}
use Rattle.ctl_objects.proofs.Listed.{with_master}
use Rattle.ctl_objects.proofs.allocations.Allocations.are_allocated.Goals as goal

pub returns : goal.returns
returns c = λ m sets. subst (λ (v : Stock). keep (λ o. not (is_of_sets sets o.origin)) v.objects ≡ keep (λ o. not (ends_with_master m sets o.origin)) v.objects) c.self.view_is (with_master c.self.inside.objects.objects c.self.inside.sets m sets c.self.invariant.listed)
