use Rattle.std.proofs.Common.{◌/◌, sym, ap, ◌∙◌}
use Rattle.std.specs.FinMap.{get}
use Rattle.std.proofs.lemmas.Result.{on_ok_weaker}
use Rattle.pool_store.specs.Joined.{side_by_side}
use Rattle.pool_store.specs.Store as store
use Rattle.pool_store.specs.Store.{Store}
use Rattle.pool_store.proofs.Sides.{free_left, free_right, put_apart_left, after_left, held_side}
use Rattle.pool_store.proofs.store.PoolStore.occupy.Goals as goal

pub occupy-requires : goal.occupy-requires
occupy-requires g c =
    let s = c.self.inside in
    free_left s.blocks.objects s.marks.objects c.args.object (ap (λ v. get v.objects c.args.object) c.self.view_is ∙ c.requires)

pub invariant_of-self : goal.invariant_of-self
invariant_of-self g c =
    let s = c.self.inside in
    let a = c.args in
    let n = a.object in
    let none = free_right s.blocks.objects s.marks.objects n (ap (λ v. get v.objects n) c.self.view_is ∙ c.requires) in
    after_left c.occupy.result c.occupy.new.self (store.hold_block a.pool a.address.0 n (a.units / 8) s.blocks) s.blocks s.marks (on_ok_weaker c.occupy.result (λ e. e.1) c.occupy.ensures.ok) c.occupy.ensures.err
    (put_apart_left s.blocks.objects s.marks.objects n _ none c.self.invariant) c.self.invariant

pub returns-clause-ok : goal.returns-clause-ok
returns-clause-ok g c =
    let s = c.self.inside in
    let a = c.args in
    on_ok_weaker c.occupy.result (λ e. (
      ap (store.is_fit_in a.pool a.address.0 a.units) (sym c.self.view_is) ∙ e.0,
      ap (λ v. side_by_side v s.marks) e.1 ∙ held_side s.blocks s.marks a.pool a.address.0 a.object (a.units / 8) ∙ ap (store.hold_block a.pool a.address.0 a.object (a.units / 8)) c.self.view_is,
    )) c.occupy.ensures.ok
