use Rattle.std.proofs.Common.{◌+◌, ◌/◌, sym, ap, ◌∙◌}
use Rattle.std.specs.FinMap.{get}
use Rattle.std.proofs.lemmas.Result.{IfOk-weaker}
use Rattle.pool_store.specs.Joined.{side_by_side}
use Rattle.pool_store.specs.Store as store
use Rattle.pool_store.specs.Store.{Store}
use Rattle.pool_store.proofs.Sides.{free_left, free_right, apart_when_held, held_side}
use Rattle.pool_store.proofs.store.PoolStore.allocate_for.Goals as goal

pub allocate_for-requires-clause-new : goal.allocate_for-requires-clause-new
allocate_for-requires-clause-new g c =
    let s = c.self.inside in
    free_left s.blocks.objects s.marks.objects c.args.object (ap (λ v. get v.objects c.args.object) c.self.view_is ∙ c.requires.new)

pub invariant_of-self : goal.invariant_of-self
invariant_of-self g c =
    let s = c.self.inside in
    let a = c.args in
    let none = free_right s.blocks.objects s.marks.objects a.object (ap (λ v. get v.objects a.object) c.self.view_is ∙ c.requires.new) in
    apart_when_held c.allocate_for.result c.allocate_for.new.self s.blocks s.marks a.pool a.object (a.units / 8)
    (IfOk-weaker c.allocate_for.result _ _ (λ x e. e.2) c.allocate_for.ensures.ok) c.allocate_for.ensures.err none c.self.invariant

pub returns-clause-ok : goal.returns-clause-ok
returns-clause-ok g c =
    let s = c.self.inside in
    let a = c.args in
    IfOk-weaker c.allocate_for.result _ _ (λ x e. (
      ap (store.is_exhausted_in a.pool a.units) (sym c.self.view_is) ∙ e.0,
      e.1 ∙ ap (λ v. v.given + 1) c.self.view_is,
      ap (λ v. side_by_side v s.marks) e.2 ∙ held_side (store.take_block a.pool s.blocks) s.marks a.pool x.0 a.object (a.units / 8)
          ∙ ap (λ v. store.hold_block a.pool x.0 a.object (a.units / 8) (store.take_block a.pool v)) c.self.view_is,
    )) c.allocate_for.ensures.ok
