use Rattle.std.proofs.Common.{◌≡◌, ◌∙◌, ◌*◌, ◌+◌, ◌-◌, ◌<◌, ◌^◌, ◌++◌, [], ◌∷◌, List, Option, Some, None, ap, arith, cond, false, refl, replicate, subst, sym, true, ℕ}
use Rattle.std.specs.Prelude.{IsSome}
use Rattle.std.specs.FinMap.{get, insert}
use Rattle.pool_store.specs.Store as S
use Rattle.pool_store.specs.Store.{Store}
use Rattle.ctl_meaning.specs.World as W
use Rattle.ctl_meaning.specs.World.{Object}
use Rattle.ctl_meaning.specs.Changes.{new_object, opened_changes}
use Rattle.ctl_meaning.specs.Pools as P
use Rattle.ctl_storage.specs.declared.existing.Allocation.{Allocation}
use Rattle.ctl_storage.specs.declared.existing.Place.TheVariants.{InBlock}
use Rattle.ctl_storage.specs.Calls.{is_exhausted_at}
use Rattle.ctl_storage.specs.Order.{AreBelow}
use Rattle.ctl_storage.specs.Inside.{AreStored, lies_in, seen, view_of}
use Rattle.ctl_storage.specs.Storage.{ArePools, Storage, exists}
use Rattle.ctl_storage.proofs.Calls.{exhausted_of}
use Rattle.ctl_storage.proofs.InStore.{new_kept, new_number, seen_same, seen_with}
use Rattle.ctl_storage.proofs.Kept.{exists_newest, newest_exists, unlisted}
use Rattle.ctl_storage.proofs.Seen.{Objects}
use Rattle.ctl_storage.proofs.Served.{exhausted_beyond, exhausted_within, kept_served, none_then, some_then}
use Rattle.ctl_storage.proofs.Shown.{put_in, taken}
use Rattle.ctl_storage.proofs.storage.ObjectStorage.add_in_pool.Goals as goal

pub allocate_for-requires-clause-open : goal.allocate_for-requires-clause-open
allocate_for-requires-clause-open c = subst (λ (v : Storage). IsSome (get v.blocks c.args.pool)) (sym c.self.view_is) c.requires.open

pub allocate_for-requires-clause-addresses : goal.allocate_for-requires-clause-addresses
allocate_for-requires-clause-addresses c = subst (λ (v : Storage). v.given < 2 ^ 64 - 1) (sym c.self.view_is) c.requires.addresses

pub allocate_for-requires-clause-new : goal.allocate_for-requires-clause-new
allocate_for-requires-clause-new c =
    let s = c.self.inside in
    new_number s.objects.values s.store c.args.number c.self.invariant.each (subst (λ (v : Storage). AreBelow c.args.number v.objects) (sym c.self.view_is) c.requires.below)

pub allocate_for-requires-clause-few : goal.allocate_for-requires-clause-few
allocate_for-requires-clause-few c = let fits = c.requires.size in omega (arith, fits)

pub invariant_of-self-in-Ok-Some : goal.invariant_of-self-in-Ok-Some
invariant_of-self-in-Ok-Some c =
    let s = c.self.inside in
    let a = c.args in
    let x : Allocation = record { ty = a.ty; collection = a.collection; place = InBlock (record { pool = a.pool; address = c.in-Ok-Some.address }); cells = a.cells; stage = c.start.result } in
    let objects : c.put_new.new.self.values ≡ insert s.objects.values a.number x = c.put_new.ensures.values ∙ ap (λ (m : Objects). insert m a.number x) c.reserve.ensures.values in
    let below = subst (λ (v : Storage). AreBelow a.number v.objects) (sym c.self.view_is) c.requires.below in
    let served = some_then _ _ c.in-Ok-Some.field-0 c.in-Ok-Some.address c.in-Ok-Some.field-0-is c.in-Ok-Some.ensures.answer in
    let store : c.allocate_for.new.store ≡ S.hold_block a.pool (s.store.given + 1) a.number a.cells (S.take_block a.pool s.store) = served.2 ∙ ap (λ d. S.hold_block a.pool d a.number a.cells (S.take_block a.pool s.store)) served.1 in
    subst (λ (m : Objects). AreStored m s.sizes.values c.list.new.self c.allocate_for.new.store) (sym objects)
    (subst (λ (t : Store). AreStored (insert s.objects.values a.number x) s.sizes.values c.list.new.self t) (sym store)
    (kept_served s.objects.values s.sizes.values s.located c.list.new.self s.store a.number a.pool x (new_kept s.objects.values s.store a.number below) (ap (λ d. InBlock (record { pool = a.pool; address = d })) served.1)
    (subst (λ (v : Storage). IsSome (get v.blocks a.pool)) (sym c.self.view_is) c.requires.open) c.in_ok-list.ensures.ok c.self.invariant))

pub returns-in-Ok-Some-clause-answer : goal.returns-in-Ok-Some-clause-answer
returns-in-Ok-Some-clause-answer c = λ next x h.
    let a = c.args in
    let served = some_then _ _ c.in-Ok-Some.field-0 c.in-Ok-Some.address c.in-Ok-Some.field-0-is c.in-Ok-Some.ensures.answer in
    let large = sym c.has_blocks_of.ensures ∙ c.if-not-has_blocks_of.false in
    let free : is_exhausted_at a.pool a.size x ≡ false =
    sym (exhausted_within next a.pool (8 * a.cells) a.size x a.self.now c.requires.size large c.requires.open h) ∙ (ap (λ (v : Storage). exhausted_of a.pool (8 * a.cells) v) (sym c.self.view_is) ∙ served.0) in
    ap (λ n. let r : Option ℕ = Some n in r) (served.1 ∙ (ap (λ (v : Storage). v.given + 1) c.self.view_is ∙ sym h.address))
    ∙ sym (ap (λ b. let r : Option ℕ = cond b None (Some x.next_address) in r) free)

pub returns-in-Ok-Some-clause-objects : goal.returns-in-Ok-Some-clause-objects
returns-in-Ok-Some-clause-objects c =
    let s = c.self.inside in
    let a = c.args in
    let x : Allocation = record { ty = a.ty; collection = a.collection; place = InBlock (record { pool = a.pool; address = c.in-Ok-Some.address }); cells = a.cells; stage = c.start.result } in
    let objects : c.put_new.new.self.values ≡ insert s.objects.values a.number x = c.put_new.ensures.values ∙ ap (λ (m : Objects). insert m a.number x) c.reserve.ensures.values in
    let served = some_then _ _ c.in-Ok-Some.field-0 c.in-Ok-Some.address c.in-Ok-Some.field-0-is c.in-Ok-Some.ensures.answer in
    ap (λ (m : Objects). seen m c.allocate_for.new.store) objects
    ∙ (seen_with s.objects.values s.store c.allocate_for.new.store a.number x (ap (λ (t : Store). t.objects) served.2) (subst (λ (v : Storage). AreBelow a.number v.objects) (sym c.self.view_is) c.requires.below) c.start.ensures
    ∙ ap (λ (v : Storage). v.objects ++ new_object a.number a.ty (replicate a.cells 0) (W.Allocated a.collection (W.InBlock a.pool c.in-Ok-Some.address)) ∷ []) c.self.view_is)

pub returns-in-Ok-Some-clause-pools : goal.returns-in-Ok-Some-clause-pools
unfolding opened_changes
returns-in-Ok-Some-clause-pools c = λ x h.
    let s = c.self.inside in
    let a = c.args in
    let d = c.in-Ok-Some.address in
    let served = some_then _ _ c.in-Ok-Some.field-0 d c.in-Ok-Some.field-0-is c.in-Ok-Some.ensures.answer in
    let o = new_object a.number a.ty (replicate a.cells 0) (W.Allocated a.collection (W.InBlock a.pool d)) in
    let objects = returns-in-Ok-Some-clause-objects c in
    let v = view_of s.objects.values s.sizes.values s.store in
    let between = view_of s.objects.values s.sizes.values (S.take_block a.pool s.store) in
    let t = view_of c.put_new.new.self.values s.sizes.values c.allocate_for.new.store in
    let same : between.objects ≡ v.objects = seen_same s.objects.values s.store (S.take_block a.pool s.store) refl in
    let large = sym c.has_blocks_of.ensures ∙ c.if-not-has_blocks_of.false in
    let free : is_exhausted_at a.pool a.size x ≡ false =
    sym (exhausted_within a.number a.pool (8 * a.cells) a.size x a.self.now c.requires.size large c.requires.open h) ∙ (ap (λ (u : Storage). exhausted_of a.pool (8 * a.cells) u) (sym c.self.view_is) ∙ served.0) in
    let out = taken a.number a.pool x v between same refl refl refl (subst (λ (u : Storage). ArePools a.number x u) (sym c.self.view_is) h) in
    subst (λ b. ArePools (a.number + 1) (P.hold_block a.pool d a.number (cond b x (P.take_block a.pool x))) t) (sym free)
    (put_in a.number a.pool d (P.take_block a.pool x) between t
    (ap (λ (l : List Object). exists a.number l) objects ∙ newest_exists a.self.now.objects o)
    (λ m less. ap (λ (l : List Object). exists m l) objects ∙ (exists_newest a.self.now.objects o m less ∙ (ap (λ (u : Storage). exists m u.objects) (sym c.self.view_is) ∙ ap (λ (l : List Object). exists m l) (sym same))))
    refl (ap (λ (u : Store). u.blocks) served.2) (ap (λ (u : Store). u.given) served.2) out)

pub returns-then-not-has_blocks_of-clause-answer : goal.returns-then-not-has_blocks_of-clause-answer
returns-then-not-has_blocks_of-clause-answer c = λ next x h.
    let full = exhausted_beyond next c.args.pool c.args.size x c.args.self.now (sym c.has_blocks_of.ensures ∙ c.if-not-has_blocks_of.true) c.requires.open h in
    sym (ap (λ b. let r : Option ℕ = cond b None (Some x.next_address) in r) full)

pub invariant_of-self-in-Ok-None : goal.invariant_of-self-in-Ok-None
invariant_of-self-in-Ok-None c =
    let s = c.self.inside in
    let a = c.args in
    let below = subst (λ (v : Storage). AreBelow a.number v.objects) (sym c.self.view_is) c.requires.below in
    let none = none_then _ _ c.in-Ok-None.field-0 c.in-Ok-None.field-0-is c.in-Ok-None.ensures.answer in
    subst (λ (m : Objects). AreStored m s.sizes.values c.unlist.new.self c.allocate_for.new.store) (sym c.reserve.ensures.values)
    (subst (λ (t : Store). AreStored s.objects.values s.sizes.values c.unlist.new.self t) (sym none.1)
    (unlisted s.objects.values s.sizes.values s.located c.list.new.self c.unlist.new.self s.store a.number a.pool (new_kept s.objects.values s.store a.number below) c.in_ok-list.ensures.ok c.unlist.ensures.gone c.self.invariant))

pub returns-in-Ok-None-clause-answer : goal.returns-in-Ok-None-clause-answer
returns-in-Ok-None-clause-answer c = λ next x h.
    let a = c.args in
    let none = none_then _ _ c.in-Ok-None.field-0 c.in-Ok-None.field-0-is c.in-Ok-None.ensures.answer in
    let large = sym c.has_blocks_of.ensures ∙ c.if-not-has_blocks_of.false in
    let full : is_exhausted_at a.pool a.size x ≡ true =
    sym (exhausted_within next a.pool (8 * a.cells) a.size x a.self.now c.requires.size large c.requires.open h) ∙ (ap (λ (v : Storage). exhausted_of a.pool (8 * a.cells) v) (sym c.self.view_is) ∙ none.0) in
    sym (ap (λ b. let r : Option ℕ = cond b None (Some x.next_address) in r) full)

pub invariant_of-self-in-Err : goal.invariant_of-self-in-Err
invariant_of-self-in-Err c =
    let s = c.self.inside in
    let a = c.args in
    let below = subst (λ (v : Storage). AreBelow a.number v.objects) (sym c.self.view_is) c.requires.below in
    subst (λ (m : Objects). AreStored m s.sizes.values c.unlist-in-Err.new.self c.allocate_for.new.store) (sym c.reserve.ensures.values)
    (subst (λ (t : Store). AreStored s.objects.values s.sizes.values c.unlist-in-Err.new.self t) (sym c.in-Err.ensures.err)
    (unlisted s.objects.values s.sizes.values s.located c.list.new.self c.unlist-in-Err.new.self s.store a.number a.pool (new_kept s.objects.values s.store a.number below) c.in_ok-list.ensures.ok c.unlist-in-Err.ensures.gone c.self.invariant))

pub put_new-requires-clause-new : goal.put_new-requires-clause-new
put_new-requires-clause-new c =
    let s = c.self.inside in
    ap (λ (m : Objects). get m c.args.number) c.reserve.ensures.values ∙ new_kept s.objects.values s.store c.args.number (subst (λ (v : Storage). AreBelow c.args.number v.objects) (sym c.self.view_is) c.requires.below)

pub list-requires : goal.list-requires
list-requires c = λ p.
    let s = c.self.inside in
    let n = c.args.number in
    c.self.invariant.listed p n ∙ ap (lies_in p) (new_kept s.objects.values s.store n (subst (λ (v : Storage). AreBelow n v.objects) (sym c.self.view_is) c.requires.below))
