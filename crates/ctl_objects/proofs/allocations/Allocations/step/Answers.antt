use Rattle.std.proofs.Common.{◌<◌, ◌^◌, List, Some, length, subst, sym}
use Rattle.ctl_meaning.specs.World.{Object}
use Rattle.ctl_groups.specs.declared.needs.Need.{Need}
use Rattle.ctl_objects.specs.Filed.{AreFiled}
use Rattle.ctl_groups.specs.Groups.{Has, Moves}
use Rattle.ctl_storage.specs.Allocated.{known}
use Rattle.ctl_storage.specs.Stages.{with_step}
use Rattle.ctl_objects.specs.Stock.{Stock, storage_of}
use Rattle.ctl_storage.specs.Storage.{KeepsPools}
use Rattle.ctl_objects.proofs.Filed.{filed_stepped, filed_unstepped, has_found}
use Rattle.std.proofs.Common.{ap}
use Rattle.ctl_objects.specs.Stock.{stock_of}
use Rattle.ctl_storage.specs.Storage.{Storage}
use Rattle.std.proofs.Common.{◌≡◌}
use Rattle.ctl_objects.proofs.allocations.Allocations.step.Goals as goal

pub follow-requires : goal.follow-requires
follow-requires c =
    let s = c.self.inside in
    let few = subst (λ (v : Stock). length v.objects < 2 ^ 63) (sym c.self.view_is) c.are_few.ensures in
    subst (λ (l : List Need). Has l c.args.number (known c.args.number c.in-Some.before) s.groups) (sym c.as_slice-needs.ensures.value)
    (has_found s.needs.items s.objects.objects s.sets s.groups c.args.number c.in-Some.before few c.in-Some.ensures.before c.self.invariant)

pub invariant_of-self : goal.invariant_of-self
invariant_of-self c =
    let s = c.self.inside in
    subst (λ (l : List Object). AreFiled s.needs.items l s.sets s.groups) (sym c.in_default.ensures.stepped) (filed_unstepped s.needs.items s.objects.objects s.sets s.groups c.args.number c.args.step c.in_default.ensures.before c.self.invariant)

pub invariant_of-self-2 : goal.invariant_of-self-2
invariant_of-self-2 c =
    let s = c.self.inside in
    let moved = subst (λ (l : List Need). Moves l c.args.number (Some (known c.args.number c.in-Some.before)) (Some (with_step c.args.step (known c.args.number c.in-Some.before))) s.groups c.follow.new.self) c.as_slice-needs.ensures.value c.follow.ensures in
    subst (λ (l : List Object). AreFiled s.needs.items l s.sets c.follow.new.self) (sym c.in-Some.ensures.stepped)
    (filed_stepped s.needs.items s.objects.objects s.sets s.groups c.follow.new.self c.args.number c.args.step c.in-Some.before c.in-Some.ensures.before moved c.self.invariant)

pub returns-in_default-clause-pools : goal.returns-in_default-clause-pools
returns-in_default-clause-pools c = subst (λ (v : Stock). KeepsPools (storage_of v) c.step.new.self) c.self.view_is c.in_default.ensures.pools

pub returns-clause-pools : goal.returns-clause-pools
returns-clause-pools c = subst (λ (v : Stock). KeepsPools (storage_of v) c.step.new.self) c.self.view_is c.in-Some.ensures.pools

pub returns-in_default-clause-same : goal.returns-in_default-clause-same
returns-in_default-clause-same c =
    let s = c.self.inside in
    subst (λ (v : Stock). stock_of c.step.new.self s.needs.items ≡ record v { objects = c.step.new.self.objects }) c.self.view_is (ap (λ (x : Storage). stock_of x s.needs.items) c.in_default.ensures.same)

pub returns-clause-same : goal.returns-clause-same
returns-clause-same c =
    let s = c.self.inside in
    subst (λ (v : Stock). stock_of c.step.new.self s.needs.items ≡ record v { objects = c.step.new.self.objects }) c.self.view_is (ap (λ (x : Storage). stock_of x s.needs.items) c.in-Some.ensures.same)
