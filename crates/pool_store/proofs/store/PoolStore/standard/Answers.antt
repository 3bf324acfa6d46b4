use Rattle.std.proofs.Common.{ap, ◌∙◌}
use Rattle.std.specs.FinMap.{get}
use Rattle.std.proofs.lemmas.Result.{on_ok_weaker}
use Rattle.pool_store.specs.Joined.{side_by_side}
use Rattle.pool_store.specs.Store as store
use Rattle.pool_store.specs.Store.{Store}
use Rattle.pool_store.proofs.Sides.{free_left, free_right, put_apart_left, after_left, standard_side}
use Rattle.pool_store.proofs.store.PoolStore.standard.Goals as goal

pub standard-requires : goal.standard-requires
standard-requires g c =
    let s = c.self.inside in
    free_left s.blocks.objects s.marks.objects c.args.object (ap (λ v. get v.objects c.args.object) c.self.view_is ∙ c.requires)

pub invariant_of-self : goal.invariant_of-self
invariant_of-self g c =
    let s = c.self.inside in
    let n = c.args.object in
    let none = free_right s.blocks.objects s.marks.objects n (ap (λ v. get v.objects n) c.self.view_is ∙ c.requires) in
    after_left c.standard.result c.standard.new.self (store.with_object n c.args.words s.blocks) s.blocks s.marks c.standard.ensures.ok c.standard.ensures.err
    (put_apart_left s.blocks.objects s.marks.objects n _ none c.self.invariant) c.self.invariant

pub returns-clause-ok : goal.returns-clause-ok
returns-clause-ok g c =
    let s = c.self.inside in
    let n = c.args.object in
    on_ok_weaker c.standard.result (λ e. ap (λ v. side_by_side v s.marks) e ∙ standard_side s.blocks s.marks n c.args.words ∙ ap (store.with_object n c.args.words) c.self.view_is) c.standard.ensures.ok
