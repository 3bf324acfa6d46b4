use Rattle.std.proofs.Common.{◌≡◌, ◌∙◌, ◌*◌, ◌++◌, [], ◌∷◌, List, ap, arith, replicate, refl, subst, sym}
use Rattle.std.specs.FinMap.{get, insert}
use Rattle.pool_store.specs.Store.{Store, is_fit_in}
use Rattle.ctl_meaning.specs.World as W
use Rattle.ctl_meaning.specs.World.{Object}
use Rattle.ctl_meaning.specs.Changes.{new_object, opened_changes}
use Rattle.ctl_storage.specs.declared.existing.Allocation.{Allocation}
use Rattle.ctl_storage.specs.declared.existing.Place.TheVariants.{InBlock}
use Rattle.ctl_storage.specs.Calls.{placing}
use Rattle.ctl_storage.specs.Order.{AreBelow}
use Rattle.ctl_storage.specs.Inside.{AreStored, lies_in, seen, view_of}
use Rattle.ctl_storage.specs.Storage.{Storage, exists}
use Rattle.ctl_storage.proofs.Calls.{fit_of, held_blocks, placed_is, placed_then, refused_fit, refused_then}
use Rattle.ctl_storage.proofs.InStore.{new_kept, new_number, seen_with}
use Rattle.ctl_storage.proofs.Kept.{exists_newest, kept_held, newest_exists, unlisted}
use Rattle.ctl_storage.proofs.Seen.{Objects}
use Rattle.ctl_storage.proofs.Shown.{fit_at, put_in, unfit_at}
use Rattle.ctl_storage.proofs.storage.ObjectStorage.add_in_block.Goals as goal

pub occupy-requires-clause-new : goal.occupy-requires-clause-new
occupy-requires-clause-new c =
    let s = c.self.inside in
    new_number s.objects.values s.store c.args.number c.self.invariant.each (subst (λ (v : Storage). AreBelow c.args.number v.objects) (sym c.self.view_is) c.requires.below)

pub occupy-requires-clause-few : goal.occupy-requires-clause-few
occupy-requires-clause-few c = let fits = c.requires.size in omega (arith, fits)

pub invariant_of-self-in-Ok-Placed : goal.invariant_of-self-in-Ok-Placed
invariant_of-self-in-Ok-Placed c =
    let s = c.self.inside in
    let a = c.args in
    let x : Allocation = record { ty = a.ty; collection = a.collection; place = InBlock a.spot; cells = a.cells; stage = c.start.result } in
    let objects : c.put_new.new.self.values ≡ insert s.objects.values a.number x = c.put_new.ensures.values ∙ ap (λ (m : Objects). insert m a.number x) c.reserve.ensures.values in
    let below = subst (λ (v : Storage). AreBelow a.number v.objects) (sym c.self.view_is) c.requires.below in
    let fit = placed_is (is_fit_in a.spot.pool a.spot.address (8 * a.cells) s.store) (sym c.in-Ok-Placed.field-0-is ∙ c.in-Ok-Placed.ensures.answer) in
    subst (λ (m : Objects). AreStored m s.sizes.values c.list.new.self c.occupy.new.store) (sym objects)
    (subst (λ (t : Store). AreStored (insert s.objects.values a.number x) s.sizes.values c.list.new.self t) (sym (placed_then _ c.in-Ok-Placed.field-0 c.in-Ok-Placed.field-0-is c.in-Ok-Placed.ensures.placed))
    (kept_held s.objects.values s.sizes.values s.located c.list.new.self s.store a.number (8 * a.cells) a.spot x (new_kept s.objects.values s.store a.number below) refl fit c.in_ok-list.ensures.ok c.self.invariant))

pub returns-in-Ok-Placed-clause-answer : goal.returns-in-Ok-Placed-clause-answer
returns-in-Ok-Placed-clause-answer c = λ next x h.
    let s = c.self.inside in
    let a = c.args in
    let large = sym c.has_blocks_of.ensures ∙ c.if-not-has_blocks_of.false in
    let fit = placed_is (is_fit_in a.spot.pool a.spot.address (8 * a.cells) s.store) (sym c.in-Ok-Placed.field-0-is ∙ c.in-Ok-Placed.ensures.answer) in
    ap placing (sym (sym (fit_at next a.spot.pool a.spot.address (8 * a.cells) a.size x a.self.now c.requires.size large c.requires.open h) ∙ (ap (fit_of a.spot.pool a.spot.address (8 * a.cells)) (sym c.self.view_is) ∙ fit)))

pub returns-in-Ok-Placed-clause-objects : goal.returns-in-Ok-Placed-clause-objects
returns-in-Ok-Placed-clause-objects c =
    let s = c.self.inside in
    let a = c.args in
    let x : Allocation = record { ty = a.ty; collection = a.collection; place = InBlock a.spot; cells = a.cells; stage = c.start.result } in
    let objects : c.put_new.new.self.values ≡ insert s.objects.values a.number x = c.put_new.ensures.values ∙ ap (λ (m : Objects). insert m a.number x) c.reserve.ensures.values in
    ap (λ (m : Objects). seen m c.occupy.new.store) objects
    ∙ (seen_with s.objects.values s.store c.occupy.new.store a.number x (ap (λ (t : Store). t.objects) (placed_then _ c.in-Ok-Placed.field-0 c.in-Ok-Placed.field-0-is c.in-Ok-Placed.ensures.placed)) (subst (λ (v : Storage). AreBelow a.number v.objects) (sym c.self.view_is) c.requires.below) c.start.ensures
    ∙ ap (λ (v : Storage). v.objects ++ new_object a.number a.ty (replicate a.cells 0) (W.Allocated a.collection (W.InBlock a.spot.pool a.spot.address)) ∷ []) c.self.view_is)

pub returns-in-Ok-Placed-clause-pools : goal.returns-in-Ok-Placed-clause-pools
unfolding opened_changes
returns-in-Ok-Placed-clause-pools c = λ x h.
    let s = c.self.inside in
    let a = c.args in
    let o = new_object a.number a.ty (replicate a.cells 0) (W.Allocated a.collection (W.InBlock a.spot.pool a.spot.address)) in
    let objects = returns-in-Ok-Placed-clause-objects c in
    put_in a.number a.spot.pool a.spot.address x a.self.now (view_of c.put_new.new.self.values s.sizes.values c.occupy.new.store)
    (ap (λ (l : List Object). exists a.number l) objects ∙ newest_exists a.self.now.objects o)
    (λ m less. ap (λ (l : List Object). exists m l) objects ∙ exists_newest a.self.now.objects o m less)
    (ap (λ (v : Storage). v.sizes) c.self.view_is)
    (ap (λ (t : Store). t.blocks) (placed_then _ c.in-Ok-Placed.field-0 c.in-Ok-Placed.field-0-is c.in-Ok-Placed.ensures.placed) ∙ ap (λ (v : Storage). held_blocks a.spot.pool a.spot.address a.number v) c.self.view_is)
    (ap (λ (t : Store). t.given) (placed_then _ c.in-Ok-Placed.field-0 c.in-Ok-Placed.field-0-is c.in-Ok-Placed.ensures.placed) ∙ ap (λ (v : Storage). v.given) c.self.view_is) h

pub returns-then-not-has_blocks_of-clause-answer : goal.returns-then-not-has_blocks_of-clause-answer
returns-then-not-has_blocks_of-clause-answer c = λ next x h.
    ap placing (sym (unfit_at next c.args.spot.pool c.args.spot.address c.args.size x c.args.self.now (sym c.has_blocks_of.ensures ∙ c.if-not-has_blocks_of.true) h))

pub invariant_of-self-in-Ok-Refused : goal.invariant_of-self-in-Ok-Refused
invariant_of-self-in-Ok-Refused c =
    let s = c.self.inside in
    let a = c.args in
    let below = subst (λ (v : Storage). AreBelow a.number v.objects) (sym c.self.view_is) c.requires.below in
    subst (λ (m : Objects). AreStored m s.sizes.values c.unlist.new.self c.occupy.new.store) (sym c.reserve.ensures.values)
    (subst (λ (t : Store). AreStored s.objects.values s.sizes.values c.unlist.new.self t) (sym (refused_then _ c.in-Ok-Refused.field-0 c.in-Ok-Refused.field-0-is c.in-Ok-Refused.ensures.refused))
    (unlisted s.objects.values s.sizes.values s.located c.list.new.self c.unlist.new.self s.store a.number a.spot.pool (new_kept s.objects.values s.store a.number below) c.in_ok-list.ensures.ok c.unlist.ensures.gone c.self.invariant))

pub returns-in-Ok-Refused-clause-answer : goal.returns-in-Ok-Refused-clause-answer
returns-in-Ok-Refused-clause-answer c = λ next x h.
    let s = c.self.inside in
    let a = c.args in
    let large = sym c.has_blocks_of.ensures ∙ c.if-not-has_blocks_of.false in
    let unfit = refused_fit (is_fit_in a.spot.pool a.spot.address (8 * a.cells) s.store) (sym c.in-Ok-Refused.field-0-is ∙ c.in-Ok-Refused.ensures.answer) in
    ap placing (sym (sym (fit_at next a.spot.pool a.spot.address (8 * a.cells) a.size x a.self.now c.requires.size large c.requires.open h) ∙ (ap (fit_of a.spot.pool a.spot.address (8 * a.cells)) (sym c.self.view_is) ∙ unfit)))

pub invariant_of-self-in-Err : goal.invariant_of-self-in-Err
invariant_of-self-in-Err c =
    let s = c.self.inside in
    let a = c.args in
    let below = subst (λ (v : Storage). AreBelow a.number v.objects) (sym c.self.view_is) c.requires.below in
    subst (λ (m : Objects). AreStored m s.sizes.values c.unlist-in-Err.new.self c.occupy.new.store) (sym c.reserve.ensures.values)
    (subst (λ (t : Store). AreStored s.objects.values s.sizes.values c.unlist-in-Err.new.self t) (sym c.in-Err.ensures.err)
    (unlisted s.objects.values s.sizes.values s.located c.list.new.self c.unlist-in-Err.new.self s.store a.number a.spot.pool (new_kept s.objects.values s.store a.number below) c.in_ok-list.ensures.ok c.unlist-in-Err.ensures.gone c.self.invariant))

pub put_new-requires-clause-new : goal.put_new-requires-clause-new
put_new-requires-clause-new c =
    let s = c.self.inside in
    ap (λ (m : Objects). get m c.args.number) c.reserve.ensures.values ∙ new_kept s.objects.values s.store c.args.number (subst (λ (v : Storage). AreBelow c.args.number v.objects) (sym c.self.view_is) c.requires.below)

pub list-requires : goal.list-requires
list-requires c = λ p.
    let s = c.self.inside in
    let n = c.args.number in
    c.self.invariant.listed p n ∙ ap (lies_in p) (new_kept s.objects.values s.store n (subst (λ (v : Storage). AreBelow n v.objects) (sym c.self.view_is) c.requires.below))
