use Rattle.std.proofs.Common.{◌<◌, ◌^◌, List, None, Some, length, subst, sym}
use Rattle.ctl_meaning.specs.World.{Object}
use Rattle.ctl_groups.specs.declared.needs.Need.{Need}
use Rattle.ctl_objects.specs.Filed.{AreFiled}
use Rattle.ctl_groups.specs.Groups.{Has, Moves}
use Rattle.ctl_storage.specs.Allocated.{known}
use Rattle.ctl_objects.specs.Stock.{Stock, storage_of}
use Rattle.ctl_storage.specs.Storage.{KeepsPools}
use Rattle.ctl_objects.proofs.Filed.{filed_gone, filed_still, has_found}
use Rattle.std.proofs.Common.{ap}
use Rattle.ctl_objects.specs.Stock.{stock_of}
use Rattle.ctl_storage.specs.Storage.{Storage}
use Rattle.std.proofs.Common.{◌≡◌}
use Rattle.ctl_objects.proofs.allocations.Allocations.forget.Goals as goal

pub leave-requires : goal.leave-requires
leave-requires c =
    let s = c.self.inside in
    let few = subst (λ (v : Stock). length v.objects < 2 ^ 63) (sym c.self.view_is) c.are_few.ensures in
    subst (λ (l : List Need). Has l c.args.number (known c.args.number c.in-Some.object) s.groups) (sym c.as_slice-needs.ensures.value)
    (has_found s.needs.items s.objects.objects s.sets s.groups c.args.number c.in-Some.object few c.in-Some.ensures.before c.self.invariant)

pub invariant_of-self : goal.invariant_of-self
invariant_of-self c =
    let s = c.self.inside in
    let went = subst (λ (l : List Need). Moves l c.args.number (Some (known c.args.number c.in-Some.object)) None s.groups c.leave.new.self) c.as_slice-needs.ensures.value c.leave.ensures in
    subst (λ (l : List Object). AreFiled s.needs.items l c.unlist.new.self c.leave.new.self) (sym c.in-Some.ensures.gone)
    (filed_gone s.needs.items s.objects.objects s.sets c.unlist.new.self s.groups c.leave.new.self c.args.number c.in-Some.object c.in-Some.ensures.before c.in-Some.ensures.collection c.unlist.ensures.gone c.unlist.ensures.size went c.self.invariant)

pub invariant_of-self-in_default : goal.invariant_of-self-in_default
invariant_of-self-in_default c =
    let s = c.self.inside in
    subst (λ (l : List Object). AreFiled s.needs.items l s.sets s.groups) (sym c.in_default.ensures.gone) (filed_still s.needs.items s.objects.objects s.sets s.groups c.args.number c.in_default.ensures.before c.self.invariant)

pub returns-in-Some-clause-pools : goal.returns-in-Some-clause-pools
returns-in-Some-clause-pools c = subst (λ (v : Stock). KeepsPools (storage_of v) c.remove.new.self) c.self.view_is c.in-Some.ensures.pools

pub returns-in_default-clause-pools : goal.returns-in_default-clause-pools
returns-in_default-clause-pools c = subst (λ (v : Stock). KeepsPools (storage_of v) c.remove.new.self) c.self.view_is c.in_default.ensures.pools

pub returns-in_default-clause-same : goal.returns-in_default-clause-same
returns-in_default-clause-same c =
    let s = c.self.inside in
    subst (λ (v : Stock). stock_of c.remove.new.self s.needs.items ≡ record v { objects = c.remove.new.self.objects; blocks = c.remove.new.self.blocks }) c.self.view_is (ap (λ (x : Storage). stock_of x s.needs.items) c.in_default.ensures.same)

pub returns-in-Some-clause-same : goal.returns-in-Some-clause-same
returns-in-Some-clause-same c =
    let s = c.self.inside in
    subst (λ (v : Stock). stock_of c.remove.new.self s.needs.items ≡ record v { objects = c.remove.new.self.objects; blocks = c.remove.new.self.blocks }) c.self.view_is (ap (λ (x : Storage). stock_of x s.needs.items) c.in-Some.ensures.same)
