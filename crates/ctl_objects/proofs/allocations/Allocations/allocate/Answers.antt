use Rattle.std.proofs.Common.{◌<◌, ◌^◌, ap, List, None, Some, length, replicate, subst, sym}
use Rattle.ctl_meaning.specs.World.{Object}
use Rattle.ctl_storage.specs.declared.existing.Stage.{Stage}
use Rattle.ctl_groups.specs.declared.needs.Need.{Need}
use Rattle.ctl_objects.specs.Filed.{AreFiled}
use Rattle.ctl_groups.specs.Groups.{Has, Moves}
use Rattle.ctl_storage.specs.Allocated.{known}
use Rattle.ctl_storage.specs.Order.{AreBelow}
use Rattle.ctl_storage.specs.declared.existing.Place.TheVariants.{Standard}
use Rattle.ctl_storage.specs.Storage.{Storage, ArePools}
use Rattle.ctl_objects.specs.Stock.{Stock, storage_of}
use Rattle.ctl_objects.proofs.Filed.{filed_new, filed_refused, filed_undone, has_new, new_in, not_listed}
use Rattle.std.proofs.Common.{ap}
use Rattle.ctl_objects.specs.Stock.{stock_of}
use Rattle.ctl_storage.specs.Storage.{Storage}
use Rattle.std.proofs.Common.{◌≡◌}
use Rattle.ctl_objects.proofs.allocations.Allocations.allocate.Goals as goal

pub add-requires-clause-new : goal.add-requires-clause-new
add-requires-clause-new c =
    let s = c.self.inside in
    new_in s.needs.items s.objects.objects s.sets s.groups c.args.number c.self.invariant (subst (λ (v : Stock). AreBelow c.args.number v.objects) (sym c.self.view_is) c.requires)

pub invariant_of-self-in-Err : goal.invariant_of-self-in-Err
invariant_of-self-in-Err c =
    let s = c.self.inside in
    let a = c.args in
    let below = subst (λ (v : Stock). AreBelow a.number v.objects) (sym c.self.view_is) c.requires in
    filed_refused s.needs.items s.objects.objects s.sets c.list.new.self c.unlist.new.self s.groups c.add.new.self a.collection a.number below c.in_ok-list.ensures.ok c.in_ok-list.ensures.size c.unlist.ensures.gone
    c.unlist.ensures.size c.in-Err.ensures.err c.self.invariant

pub invariant_of-self-in-Ok : goal.invariant_of-self-in-Ok
invariant_of-self-in-Ok c =
    let s = c.self.inside in
    let a = c.args in
    let below = subst (λ (v : Stock). AreBelow a.number v.objects) (sym c.self.view_is) c.requires in
    let added = subst (λ (l : List Need). Moves l a.number None (Some (known a.number (record { ty = a.ty; collection = a.collection; place = Standard; cells = a.cells; stage = c.start.result }))) s.groups c.add.new.self) c.as_slice-needs.ensures.value c.in_default.ensures.ok in
    let came = subst (λ (g : Stage). Moves s.needs.items a.number None (Some (known a.number (record { ty = a.ty; collection = a.collection; place = Standard; cells = a.cells; stage = g }))) s.groups c.add.new.self) c.start.ensures added in
    subst (λ (l : List Object). AreFiled s.needs.items l c.list.new.self c.add.new.self) (sym c.in-Ok.ensures.objects)
    (filed_new s.needs.items s.objects.objects s.sets c.list.new.self s.groups c.add.new.self a.number a.ty a.collection Standard a.cells (replicate a.cells 0) c.ranges.number.fits below c.in_ok-list.ensures.ok c.in_ok-list.ensures.size came
    c.self.invariant)

pub leave-requires : goal.leave-requires
leave-requires c =
    let s = c.self.inside in
    let a = c.args in
    let below = subst (λ (v : Stock). AreBelow a.number v.objects) (sym c.self.view_is) c.requires in
    let few = subst (λ (v : Stock). length v.objects < 2 ^ 63) (sym c.self.view_is) c.are_few.ensures in
    let added = subst (λ (l : List Need). Moves l a.number None (Some (known a.number (record { ty = a.ty; collection = a.collection; place = Standard; cells = a.cells; stage = c.start.result }))) s.groups c.add.new.self) c.as_slice-needs.ensures.value c.in_default.ensures.ok in
    let came = subst (λ (g : Stage). Moves s.needs.items a.number None (Some (known a.number (record { ty = a.ty; collection = a.collection; place = Standard; cells = a.cells; stage = g }))) s.groups c.add.new.self) c.start.ensures added in
    subst (λ (l : List Need). Has l a.number (known a.number (record { ty = a.ty; collection = a.collection; place = Standard; cells = a.cells; stage = c.start.result })) c.add.new.self) (sym c.as_slice-needs.ensures.value)
    (subst (λ (g : Stage). Has s.needs.items a.number (known a.number (record { ty = a.ty; collection = a.collection; place = Standard; cells = a.cells; stage = g })) c.add.new.self) (sym c.start.ensures)
    (has_new s.needs.items s.objects.objects s.sets s.groups c.add.new.self a.number a.ty a.collection Standard a.cells below few came c.self.invariant))

pub invariant_of-self-in-Err-add : goal.invariant_of-self-in-Err-add
invariant_of-self-in-Err-add c =
    let s = c.self.inside in
    let a = c.args in
    let below = subst (λ (v : Stock). AreBelow a.number v.objects) (sym c.self.view_is) c.requires in
    let added = subst (λ (l : List Need). Moves l a.number None (Some (known a.number (record { ty = a.ty; collection = a.collection; place = Standard; cells = a.cells; stage = c.start.result }))) s.groups c.add.new.self) c.as_slice-needs.ensures.value c.in_default.ensures.ok in
    let came = subst (λ (g : Stage). Moves s.needs.items a.number None (Some (known a.number (record { ty = a.ty; collection = a.collection; place = Standard; cells = a.cells; stage = g }))) s.groups c.add.new.self) c.start.ensures added in
    let left = subst (λ (l : List Need). Moves l a.number (Some (known a.number (record { ty = a.ty; collection = a.collection; place = Standard; cells = a.cells; stage = c.start.result }))) None c.add.new.self c.leave.new.self) c.as_slice-needs.ensures.value c.leave.ensures in
    let went = subst (λ (g : Stage). Moves s.needs.items a.number (Some (known a.number (record { ty = a.ty; collection = a.collection; place = Standard; cells = a.cells; stage = g }))) None c.add.new.self c.leave.new.self) c.start.ensures left in
    subst (λ (l : List Object). AreFiled s.needs.items l c.unlist-in-Err-add.new.self c.leave.new.self) (ap (λ (v : Storage). v.objects) (sym c.in-Err-add.ensures.err))
    (filed_undone s.needs.items s.objects.objects s.sets c.list.new.self c.unlist-in-Err-add.new.self s.groups c.add.new.self c.leave.new.self a.number a.ty a.collection Standard a.cells below c.in_ok-list.ensures.ok c.in_ok-list.ensures.size
    c.unlist-in-Err-add.ensures.gone c.unlist-in-Err-add.ensures.size came went c.self.invariant)

pub returns-in-Ok-clause-pools : goal.returns-in-Ok-clause-pools
returns-in-Ok-clause-pools c = λ x h. c.in-Ok.ensures.pools x (subst (λ (v : Stock). ArePools c.args.number x (storage_of v)) (sym c.self.view_is) h)

pub returns-in-Ok-clause-same : goal.returns-in-Ok-clause-same
returns-in-Ok-clause-same c =
    let s = c.self.inside in
    subst (λ (v : Stock). stock_of c.add-2.new.self s.needs.items ≡ record v { objects = c.add-2.new.self.objects }) c.self.view_is (ap (λ (x : Storage). stock_of x s.needs.items) c.in-Ok.ensures.same)

pub list-requires : goal.list-requires
list-requires c = λ set.
    let s = c.self.inside in
    not_listed s.objects.objects s.sets set c.args.number c.self.invariant.listed (subst (λ (v : Stock). AreBelow c.args.number v.objects) (sym c.self.view_is) c.requires)
