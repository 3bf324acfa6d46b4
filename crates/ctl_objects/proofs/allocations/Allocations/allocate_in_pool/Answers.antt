use Rattle.std.proofs.Common.{◌∙◌, ◌<◌, ◌^◌, ap, List, None, Some, length, replicate, subst, sym}
use Rattle.ctl_meaning.specs.World.{Object}
use Rattle.ctl_storage.specs.declared.existing.Stage.{Stage}
use Rattle.ctl_groups.specs.declared.needs.Need.{Need}
use Rattle.ctl_objects.specs.Filed.{AreFiled}
use Rattle.ctl_groups.specs.Groups.{Has, Moves}
use Rattle.ctl_storage.specs.Allocated.{known}
use Rattle.ctl_storage.specs.Order.{AreBelow}
use Rattle.ctl_storage.specs.declared.existing.Place.{Place}
use Rattle.ctl_storage.specs.declared.existing.Place.TheVariants.{InBlock, Standard}
use Rattle.ctl_storage.specs.Storage.{Storage, ArePools}
use Rattle.ctl_objects.specs.Stock.{Stock, storage_of}
use Rattle.ctl_storage.proofs.Served.{none_then, some_then}
use Rattle.ctl_objects.proofs.Filed.{filed_new, filed_refused, filed_undone, has_new, new_in, not_listed}
use Rattle.ctl_objects.proofs.Served.{comes_placed}
use Rattle.ctl_objects.proofs.allocations.Allocations.allocate_in_pool.Goals as goal

pub add-requires-clause-new : goal.add-requires-clause-new
add-requires-clause-new c =
    let s = c.self.inside in
    new_in s.needs.items s.objects.objects s.sets s.groups c.args.number c.self.invariant (subst (λ (v : Stock). AreBelow c.args.number v.objects) (sym c.self.view_is) c.requires.below)

pub invariant_of-self-in-Err : goal.invariant_of-self-in-Err
invariant_of-self-in-Err c =
    let s = c.self.inside in
    let a = c.args in
    let below = subst (λ (v : Stock). AreBelow a.number v.objects) (sym c.self.view_is) c.requires.below in
    filed_refused s.needs.items s.objects.objects s.sets c.list.new.self c.unlist.new.self s.groups c.add.new.self a.collection a.number below c.in_ok-list.ensures.ok c.in_ok-list.ensures.size c.unlist.ensures.gone
    c.unlist.ensures.size c.in-Err.ensures.err c.self.invariant

pub invariant_of-self-in-Ok-Some : goal.invariant_of-self-in-Ok-Some
invariant_of-self-in-Ok-Some c =
    let s = c.self.inside in
    let a = c.args in
    let place : Place = InBlock (record { pool = a.pool; address = c.in-Ok-Some.address }) in
    let below = subst (λ (v : Stock). AreBelow a.number v.objects) (sym c.self.view_is) c.requires.below in
    let added = subst (λ (l : List Need). Moves l a.number None (Some (known a.number (record { ty = a.ty; collection = a.collection; place = Standard; cells = a.cells; stage = c.start.result }))) s.groups c.add.new.self) c.as_slice-needs.ensures.value c.in_default.ensures.ok in
    let came = subst (λ (g : Stage). Moves s.needs.items a.number None (Some (known a.number (record { ty = a.ty; collection = a.collection; place = Standard; cells = a.cells; stage = g }))) s.groups c.add.new.self) c.start.ensures added in
    subst (λ (l : List Object). AreFiled s.needs.items l c.list.new.self c.add.new.self) (sym (some_then _ _ c.in-Ok-Some.field-0 c.in-Ok-Some.address c.in-Ok-Some.field-0-is c.in-Ok-Some.ensures.objects))
    (filed_new s.needs.items s.objects.objects s.sets c.list.new.self s.groups c.add.new.self a.number a.ty a.collection place a.cells (replicate a.cells 0) c.ranges.number.fits below c.in_ok-list.ensures.ok c.in_ok-list.ensures.size
    (comes_placed s.needs.items a.number a.ty a.collection Standard place a.cells s.groups c.add.new.self came)
    c.self.invariant)

pub leave-requires : goal.leave-requires
leave-requires c =
    let s = c.self.inside in
    let a = c.args in
    let below = subst (λ (v : Stock). AreBelow a.number v.objects) (sym c.self.view_is) c.requires.below in
    let few = subst (λ (v : Stock). length v.objects < 2 ^ 63) (sym c.self.view_is) c.are_few.ensures in
    let added = subst (λ (l : List Need). Moves l a.number None (Some (known a.number (record { ty = a.ty; collection = a.collection; place = Standard; cells = a.cells; stage = c.start.result }))) s.groups c.add.new.self) c.as_slice-needs.ensures.value c.in_default.ensures.ok in
    let came = subst (λ (g : Stage). Moves s.needs.items a.number None (Some (known a.number (record { ty = a.ty; collection = a.collection; place = Standard; cells = a.cells; stage = g }))) s.groups c.add.new.self) c.start.ensures added in
    subst (λ (l : List Need). Has l a.number (known a.number (record { ty = a.ty; collection = a.collection; place = Standard; cells = a.cells; stage = c.start.result })) c.add.new.self) (sym c.as_slice-needs.ensures.value)
    (subst (λ (g : Stage). Has s.needs.items a.number (known a.number (record { ty = a.ty; collection = a.collection; place = Standard; cells = a.cells; stage = g })) c.add.new.self) (sym c.start.ensures)
    (has_new s.needs.items s.objects.objects s.sets s.groups c.add.new.self a.number a.ty a.collection Standard a.cells below few came c.self.invariant))

pub leave-requires-in-Err-add_in_pool : goal.leave-requires-in-Err-add_in_pool
leave-requires-in-Err-add_in_pool c =
    let s = c.self.inside in
    let a = c.args in
    let below = subst (λ (v : Stock). AreBelow a.number v.objects) (sym c.self.view_is) c.requires.below in
    let few = subst (λ (v : Stock). length v.objects < 2 ^ 63) (sym c.self.view_is) c.are_few.ensures in
    let added = subst (λ (l : List Need). Moves l a.number None (Some (known a.number (record { ty = a.ty; collection = a.collection; place = Standard; cells = a.cells; stage = c.start.result }))) s.groups c.add.new.self) c.as_slice-needs.ensures.value c.in_default.ensures.ok in
    let came = subst (λ (g : Stage). Moves s.needs.items a.number None (Some (known a.number (record { ty = a.ty; collection = a.collection; place = Standard; cells = a.cells; stage = g }))) s.groups c.add.new.self) c.start.ensures added in
    subst (λ (l : List Need). Has l a.number (known a.number (record { ty = a.ty; collection = a.collection; place = Standard; cells = a.cells; stage = c.start.result })) c.add.new.self) (sym c.as_slice-needs.ensures.value)
    (subst (λ (g : Stage). Has s.needs.items a.number (known a.number (record { ty = a.ty; collection = a.collection; place = Standard; cells = a.cells; stage = g })) c.add.new.self) (sym c.start.ensures)
    (has_new s.needs.items s.objects.objects s.sets s.groups c.add.new.self a.number a.ty a.collection Standard a.cells below few came c.self.invariant))

pub invariant_of-self-in-Ok-None : goal.invariant_of-self-in-Ok-None
invariant_of-self-in-Ok-None c =
    let s = c.self.inside in
    let a = c.args in
    let below = subst (λ (v : Stock). AreBelow a.number v.objects) (sym c.self.view_is) c.requires.below in
    let added = subst (λ (l : List Need). Moves l a.number None (Some (known a.number (record { ty = a.ty; collection = a.collection; place = Standard; cells = a.cells; stage = c.start.result }))) s.groups c.add.new.self) c.as_slice-needs.ensures.value c.in_default.ensures.ok in
    let came = subst (λ (g : Stage). Moves s.needs.items a.number None (Some (known a.number (record { ty = a.ty; collection = a.collection; place = Standard; cells = a.cells; stage = g }))) s.groups c.add.new.self) c.start.ensures added in
    let left = subst (λ (l : List Need). Moves l a.number (Some (known a.number (record { ty = a.ty; collection = a.collection; place = Standard; cells = a.cells; stage = c.start.result }))) None c.add.new.self c.leave.new.self) c.as_slice-needs.ensures.value c.leave.ensures in
    let went = subst (λ (g : Stage). Moves s.needs.items a.number (Some (known a.number (record { ty = a.ty; collection = a.collection; place = Standard; cells = a.cells; stage = g }))) None c.add.new.self c.leave.new.self) c.start.ensures left in
    subst (λ (l : List Object). AreFiled s.needs.items l c.unlist-in-Ok-None.new.self c.leave.new.self) (ap (λ (v : Storage). v.objects) (sym (none_then _ _ c.in-Ok-None.field-0 c.in-Ok-None.field-0-is c.in-Ok-None.ensures.exhausted)))
    (filed_undone s.needs.items s.objects.objects s.sets c.list.new.self c.unlist-in-Ok-None.new.self s.groups c.add.new.self c.leave.new.self a.number a.ty a.collection Standard a.cells below c.in_ok-list.ensures.ok c.in_ok-list.ensures.size
    c.unlist-in-Ok-None.ensures.gone c.unlist-in-Ok-None.ensures.size came went c.self.invariant)

pub invariant_of-self-in-Err-add_in_pool : goal.invariant_of-self-in-Err-add_in_pool
invariant_of-self-in-Err-add_in_pool c =
    let s = c.self.inside in
    let a = c.args in
    let below = subst (λ (v : Stock). AreBelow a.number v.objects) (sym c.self.view_is) c.requires.below in
    let added = subst (λ (l : List Need). Moves l a.number None (Some (known a.number (record { ty = a.ty; collection = a.collection; place = Standard; cells = a.cells; stage = c.start.result }))) s.groups c.add.new.self) c.as_slice-needs.ensures.value c.in_default.ensures.ok in
    let came = subst (λ (g : Stage). Moves s.needs.items a.number None (Some (known a.number (record { ty = a.ty; collection = a.collection; place = Standard; cells = a.cells; stage = g }))) s.groups c.add.new.self) c.start.ensures added in
    let left = subst (λ (l : List Need). Moves l a.number (Some (known a.number (record { ty = a.ty; collection = a.collection; place = Standard; cells = a.cells; stage = c.start.result }))) None c.add.new.self c.leave-in-Err-add_in_pool.new.self) c.as_slice-needs.ensures.value c.leave-in-Err-add_in_pool.ensures in
    let went = subst (λ (g : Stage). Moves s.needs.items a.number (Some (known a.number (record { ty = a.ty; collection = a.collection; place = Standard; cells = a.cells; stage = g }))) None c.add.new.self c.leave-in-Err-add_in_pool.new.self) c.start.ensures left in
    subst (λ (l : List Object). AreFiled s.needs.items l c.unlist-in-Err-add_in_pool.new.self c.leave-in-Err-add_in_pool.new.self) (ap (λ (v : Storage). v.objects) (sym c.in-Err-add_in_pool.ensures.err))
    (filed_undone s.needs.items s.objects.objects s.sets c.list.new.self c.unlist-in-Err-add_in_pool.new.self s.groups c.add.new.self c.leave-in-Err-add_in_pool.new.self a.number a.ty a.collection Standard a.cells below c.in_ok-list.ensures.ok c.in_ok-list.ensures.size
    c.unlist-in-Err-add_in_pool.ensures.gone c.unlist-in-Err-add_in_pool.ensures.size came went c.self.invariant)

pub returns-in-Ok-Some-clause-answer : goal.returns-in-Ok-Some-clause-answer
returns-in-Ok-Some-clause-answer c = λ next x h.
    sym c.in-Ok-Some.field-0-is
    ∙ c.in-Ok-Some.ensures.answer next x (subst (λ (v : Stock). ArePools next x (storage_of v)) (sym c.self.view_is) h)

pub returns-in-Ok-None-clause-answer : goal.returns-in-Ok-None-clause-answer
returns-in-Ok-None-clause-answer c = λ next x h.
    sym c.in-Ok-None.field-0-is
    ∙ c.in-Ok-None.ensures.answer next x (subst (λ (v : Stock). ArePools next x (storage_of v)) (sym c.self.view_is) h)

pub list-requires : goal.list-requires
list-requires c = λ set.
    let s = c.self.inside in
    not_listed s.objects.objects s.sets set c.args.number c.self.invariant.listed (subst (λ (v : Stock). AreBelow c.args.number v.objects) (sym c.self.view_is) c.requires.below)
