use Rattle.std.proofs.Common.{◌/◌, sym, ap, ◌∙◌}
use Rattle.std.specs.FinMap.{get}
use Rattle.std.proofs.lemmas.Result.{on_ok_weaker}
use Rattle.pool_store.specs.Joined.{side_by_side}
use Rattle.pool_store.specs.Store as store
use Rattle.pool_store.specs.Store.{Store}
use Rattle.pool_store.proofs.Sides.{free_left, free_right, put_apart_right, after_right, held_in_side}
use Rattle.pool_store.proofs.store.PoolStore.allocate_in.Goals as goal

pub allocate-requires-clause-new : goal.allocate-requires-clause-new
allocate-requires-clause-new g c =
    let s = c.self.inside in
    free_right s.blocks.objects s.marks.objects c.args.object (ap (λ v. get v.objects c.args.object) c.self.view_is ∙ c.requires.new)

pub invariant_of-self : goal.invariant_of-self
invariant_of-self g c =
    let s = c.self.inside in
    let a = c.args in
    let n = a.object in
    let none = free_left s.blocks.objects s.marks.objects n (ap (λ v. get v.objects n) c.self.view_is ∙ c.requires.new) in
    after_right c.allocate.result s.blocks c.allocate.new.self (store.hold_in a.subpool.0 a.pool n (a.units / 8) s.marks) s.marks (on_ok_weaker c.allocate.result (λ e. e.1) c.allocate.ensures.ok) c.allocate.ensures.err
    (put_apart_right s.blocks.objects s.marks.objects n _ none c.self.invariant) c.self.invariant

pub returns-clause-ok : goal.returns-clause-ok
returns-clause-ok g c =
    let s = c.self.inside in
    let a = c.args in
    let none = free_left s.blocks.objects s.marks.objects a.object (ap (λ v. get v.objects a.object) c.self.view_is ∙ c.requires.new) in
    on_ok_weaker c.allocate.result (λ e. (
      ap (store.refusal_in a.subpool.0 a.pool a.units) (sym c.self.view_is) ∙ e.0,
      ap (side_by_side s.blocks) e.1 ∙ held_in_side s.blocks s.marks a.subpool.0 a.pool a.object (a.units / 8) none ∙ ap (store.hold_in a.subpool.0 a.pool a.object (a.units / 8)) c.self.view_is,
    )) c.allocate.ensures.ok
