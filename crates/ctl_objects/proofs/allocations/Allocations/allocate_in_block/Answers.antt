use Rattle.std.proofs.Common.{◌∙◌, ◌<◌, ◌^◌, ap, List, None, Some, length, replicate, subst, sym}
use Rattle.ctl_meaning.specs.World.{Object}
use Rattle.ctl_storage.specs.declared.existing.Stage.{Stage}
use Rattle.ctl_groups.specs.declared.needs.Need.{Need}
use Rattle.ctl_objects.specs.Filed.{AreFiled}
use Rattle.ctl_groups.specs.Groups.{Has, Moves}
use Rattle.ctl_storage.specs.Allocated.{known}
use Rattle.ctl_storage.specs.Order.{AreBelow}
use Rattle.ctl_storage.specs.declared.existing.Place.TheVariants.{InBlock}
use Rattle.ctl_storage.specs.Storage.{Storage, ArePools}
use Rattle.ctl_storage.specs.Calls.{is_fit_at, placing}
use Rattle.ctl_objects.specs.Stock.{Stock, storage_of}
use Rattle.ctl_storage.proofs.Calls.{placed_then, refused_then}
use Rattle.ctl_objects.proofs.Filed.{filed_new, filed_refused, filed_undone, has_new, new_in, not_listed}
use Rattle.ctl_objects.proofs.allocations.Allocations.allocate_in_block.Goals as goal

pub add-requires-clause-new : goal.add-requires-clause-new
add-requires-clause-new c =
    let s = c.self.inside in
    new_in s.needs.items s.objects.objects s.sets s.groups c.args.number c.self.invariant (subst (λ (v : Stock). AreBelow c.args.number v.objects) (sym c.self.view_is) c.requires.below)

pub invariant_of-self-in-Err : goal.invariant_of-self-in-Err
invariant_of-self-in-Err c =
    let s = c.self.inside in
    let a = c.args in
    let below = subst (λ (v : Stock). AreBelow a.number v.objects) (sym c.self.view_is) c.requires.below in
    filed_refused s.needs.items s.objects.objects s.sets c.list.new.self c.unlist.new.self s.groups c.add.new.self a.collection a.number below c.in_ok-list.ensures.ok c.in_ok-list.ensures.size c.unlist.ensures.gone
    c.unlist.ensures.size c.in-Err.ensures.err c.self.invariant

pub invariant_of-self-in-Ok-Placed : goal.invariant_of-self-in-Ok-Placed
invariant_of-self-in-Ok-Placed c =
    let s = c.self.inside in
    let a = c.args in
    let below = subst (λ (v : Stock). AreBelow a.number v.objects) (sym c.self.view_is) c.requires.below in
    let added = subst (λ (l : List Need). Moves l a.number None (Some (known a.number (record { ty = a.ty; collection = a.collection; place = InBlock a.spot; cells = a.cells; stage = c.start.result }))) s.groups c.add.new.self) c.as_slice-needs.ensures.value c.in_default.ensures.ok in
    let came = subst (λ (g : Stage). Moves s.needs.items a.number None (Some (known a.number (record { ty = a.ty; collection = a.collection; place = InBlock a.spot; cells = a.cells; stage = g }))) s.groups c.add.new.self) c.start.ensures added in
    subst (λ (l : List Object). AreFiled s.needs.items l c.list.new.self c.add.new.self) (sym (placed_then _ c.in-Ok-Placed.field-0 c.in-Ok-Placed.field-0-is c.in-Ok-Placed.ensures.objects))
    (filed_new s.needs.items s.objects.objects s.sets c.list.new.self s.groups c.add.new.self a.number a.ty a.collection (InBlock a.spot) a.cells (replicate a.cells 0) c.ranges.number.fits below c.in_ok-list.ensures.ok c.in_ok-list.ensures.size came
    c.self.invariant)

pub leave-requires : goal.leave-requires
leave-requires c =
    let s = c.self.inside in
    let a = c.args in
    let below = subst (λ (v : Stock). AreBelow a.number v.objects) (sym c.self.view_is) c.requires.below in
    let few = subst (λ (v : Stock). length v.objects < 2 ^ 63) (sym c.self.view_is) c.are_few.ensures in
    let added = subst (λ (l : List Need). Moves l a.number None (Some (known a.number (record { ty = a.ty; collection = a.collection; place = InBlock a.spot; cells = a.cells; stage = c.start.result }))) s.groups c.add.new.self) c.as_slice-needs.ensures.value c.in_default.ensures.ok in
    let came = subst (λ (g : Stage). Moves s.needs.items a.number None (Some (known a.number (record { ty = a.ty; collection = a.collection; place = InBlock a.spot; cells = a.cells; stage = g }))) s.groups c.add.new.self) c.start.ensures added in
    subst (λ (l : List Need). Has l a.number (known a.number (record { ty = a.ty; collection = a.collection; place = InBlock a.spot; cells = a.cells; stage = c.start.result })) c.add.new.self) (sym c.as_slice-needs.ensures.value)
    (subst (λ (g : Stage). Has s.needs.items a.number (known a.number (record { ty = a.ty; collection = a.collection; place = InBlock a.spot; cells = a.cells; stage = g })) c.add.new.self) (sym c.start.ensures)
    (has_new s.needs.items s.objects.objects s.sets s.groups c.add.new.self a.number a.ty a.collection (InBlock a.spot) a.cells below few came c.self.invariant))

pub leave-requires-in-Err-add_in_block : goal.leave-requires-in-Err-add_in_block
leave-requires-in-Err-add_in_block c =
    let s = c.self.inside in
    let a = c.args in
    let below = subst (λ (v : Stock). AreBelow a.number v.objects) (sym c.self.view_is) c.requires.below in
    let few = subst (λ (v : Stock). length v.objects < 2 ^ 63) (sym c.self.view_is) c.are_few.ensures in
    let added = subst (λ (l : List Need). Moves l a.number None (Some (known a.number (record { ty = a.ty; collection = a.collection; place = InBlock a.spot; cells = a.cells; stage = c.start.result }))) s.groups c.add.new.self) c.as_slice-needs.ensures.value c.in_default.ensures.ok in
    let came = subst (λ (g : Stage). Moves s.needs.items a.number None (Some (known a.number (record { ty = a.ty; collection = a.collection; place = InBlock a.spot; cells = a.cells; stage = g }))) s.groups c.add.new.self) c.start.ensures added in
    subst (λ (l : List Need). Has l a.number (known a.number (record { ty = a.ty; collection = a.collection; place = InBlock a.spot; cells = a.cells; stage = c.start.result })) c.add.new.self) (sym c.as_slice-needs.ensures.value)
    (subst (λ (g : Stage). Has s.needs.items a.number (known a.number (record { ty = a.ty; collection = a.collection; place = InBlock a.spot; cells = a.cells; stage = g })) c.add.new.self) (sym c.start.ensures)
    (has_new s.needs.items s.objects.objects s.sets s.groups c.add.new.self a.number a.ty a.collection (InBlock a.spot) a.cells below few came c.self.invariant))

pub invariant_of-self-in-Ok-Refused : goal.invariant_of-self-in-Ok-Refused
invariant_of-self-in-Ok-Refused c =
    let s = c.self.inside in
    let a = c.args in
    let below = subst (λ (v : Stock). AreBelow a.number v.objects) (sym c.self.view_is) c.requires.below in
    let added = subst (λ (l : List Need). Moves l a.number None (Some (known a.number (record { ty = a.ty; collection = a.collection; place = InBlock a.spot; cells = a.cells; stage = c.start.result }))) s.groups c.add.new.self) c.as_slice-needs.ensures.value c.in_default.ensures.ok in
    let came = subst (λ (g : Stage). Moves s.needs.items a.number None (Some (known a.number (record { ty = a.ty; collection = a.collection; place = InBlock a.spot; cells = a.cells; stage = g }))) s.groups c.add.new.self) c.start.ensures added in
    let left = subst (λ (l : List Need). Moves l a.number (Some (known a.number (record { ty = a.ty; collection = a.collection; place = InBlock a.spot; cells = a.cells; stage = c.start.result }))) None c.add.new.self c.leave.new.self) c.as_slice-needs.ensures.value c.leave.ensures in
    let went = subst (λ (g : Stage). Moves s.needs.items a.number (Some (known a.number (record { ty = a.ty; collection = a.collection; place = InBlock a.spot; cells = a.cells; stage = g }))) None c.add.new.self c.leave.new.self) c.start.ensures left in
    subst (λ (l : List Object). AreFiled s.needs.items l c.unlist-in-Ok-Refused.new.self c.leave.new.self) (ap (λ (v : Storage). v.objects) (sym (refused_then _ c.in-Ok-Refused.field-0 c.in-Ok-Refused.field-0-is c.in-Ok-Refused.ensures.refused)))
    (filed_undone s.needs.items s.objects.objects s.sets c.list.new.self c.unlist-in-Ok-Refused.new.self s.groups c.add.new.self c.leave.new.self a.number a.ty a.collection (InBlock a.spot) a.cells below c.in_ok-list.ensures.ok c.in_ok-list.ensures.size
    c.unlist-in-Ok-Refused.ensures.gone c.unlist-in-Ok-Refused.ensures.size came went c.self.invariant)

pub invariant_of-self-in-Err-add_in_block : goal.invariant_of-self-in-Err-add_in_block
invariant_of-self-in-Err-add_in_block c =
    let s = c.self.inside in
    let a = c.args in
    let below = subst (λ (v : Stock). AreBelow a.number v.objects) (sym c.self.view_is) c.requires.below in
    let added = subst (λ (l : List Need). Moves l a.number None (Some (known a.number (record { ty = a.ty; collection = a.collection; place = InBlock a.spot; cells = a.cells; stage = c.start.result }))) s.groups c.add.new.self) c.as_slice-needs.ensures.value c.in_default.ensures.ok in
    let came = subst (λ (g : Stage). Moves s.needs.items a.number None (Some (known a.number (record { ty = a.ty; collection = a.collection; place = InBlock a.spot; cells = a.cells; stage = g }))) s.groups c.add.new.self) c.start.ensures added in
    let left = subst (λ (l : List Need). Moves l a.number (Some (known a.number (record { ty = a.ty; collection = a.collection; place = InBlock a.spot; cells = a.cells; stage = c.start.result }))) None c.add.new.self c.leave-in-Err-add_in_block.new.self) c.as_slice-needs.ensures.value c.leave-in-Err-add_in_block.ensures in
    let went = subst (λ (g : Stage). Moves s.needs.items a.number (Some (known a.number (record { ty = a.ty; collection = a.collection; place = InBlock a.spot; cells = a.cells; stage = g }))) None c.add.new.self c.leave-in-Err-add_in_block.new.self) c.start.ensures left in
    subst (λ (l : List Object). AreFiled s.needs.items l c.unlist-in-Err-add_in_block.new.self c.leave-in-Err-add_in_block.new.self) (ap (λ (v : Storage). v.objects) (sym c.in-Err-add_in_block.ensures.err))
    (filed_undone s.needs.items s.objects.objects s.sets c.list.new.self c.unlist-in-Err-add_in_block.new.self s.groups c.add.new.self c.leave-in-Err-add_in_block.new.self a.number a.ty a.collection (InBlock a.spot) a.cells below c.in_ok-list.ensures.ok c.in_ok-list.ensures.size
    c.unlist-in-Err-add_in_block.ensures.gone c.unlist-in-Err-add_in_block.ensures.size came went c.self.invariant)

pub returns-in-Ok-Placed-clause-answer : goal.returns-in-Ok-Placed-clause-answer
returns-in-Ok-Placed-clause-answer c = λ next x h.
    sym c.in-Ok-Placed.field-0-is
    ∙ c.in-Ok-Placed.ensures.answer next x (subst (λ (v : Stock). ArePools next x (storage_of v)) (sym c.self.view_is) h)
    ∙ ap (λ (v : Stock). placing (is_fit_at c.args.spot.pool c.args.spot.address c.args.size v.objects x)) c.self.view_is

pub returns-in-Ok-Refused-clause-answer : goal.returns-in-Ok-Refused-clause-answer
returns-in-Ok-Refused-clause-answer c = λ next x h.
    sym c.in-Ok-Refused.field-0-is
    ∙ c.in-Ok-Refused.ensures.answer next x (subst (λ (v : Stock). ArePools next x (storage_of v)) (sym c.self.view_is) h)
    ∙ ap (λ (v : Stock). placing (is_fit_at c.args.spot.pool c.args.spot.address c.args.size v.objects x)) c.self.view_is

pub list-requires : goal.list-requires
list-requires c = λ set.
    let s = c.self.inside in
    not_listed s.objects.objects s.sets set c.args.number c.self.invariant.listed (subst (λ (v : Stock). AreBelow c.args.number v.objects) (sym c.self.view_is) c.requires.below)
