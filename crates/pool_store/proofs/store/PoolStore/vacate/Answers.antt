use Rattle.std.proofs.Common.{sym, ap, subst, ◌∙◌}
use Rattle.pool_store.specs.Joined.{side_by_side, AreApart}
use Rattle.pool_store.specs.Store as store
use Rattle.pool_store.specs.Store.{Store}
use Rattle.pool_store.proofs.Sides.{not_other, not_right, less_left, less_right, less_drop, without_left, without_right, vacated_left, vacated_right}
use Rattle.pool_store.proofs.Vacated.{vacated_or_kept}
use Rattle.pool_store.proofs.store.PoolStore.vacate.Goals as goal

pub invariant_of-self : goal.invariant_of-self
invariant_of-self g c =
    let s = c.self.inside in
    subst (λ a. AreApart a s.marks) (sym c.vacate.ensures.store) (less_left s.blocks.objects _ s.marks.objects (less_drop s.blocks.objects c.args.object) c.self.invariant)

pub invariant_of-self-else-is_held : goal.invariant_of-self-else-is_held
invariant_of-self-else-is_held g c =
    let s = c.self.inside in
    subst (AreApart s.blocks) (sym c.vacate-else-is_held.ensures.store) (less_right s.blocks.objects s.marks.objects _ (less_drop s.marks.objects c.args.object) c.self.invariant)

pub returns-then-is_held-clause-result : goal.returns-then-is_held-clause-result
returns-then-is_held-clause-result g c =
    let s = c.self.inside in
    let n = c.args.object in
    let none = not_other s.blocks.objects s.marks.objects n c.self.invariant (sym c.is_held.ensures ∙ c.if-is_held.true) in
    c.vacate.ensures.result ∙ vacated_left s.blocks s.marks n none ∙ ap (store.vacated n) c.self.view_is

pub returns-then-is_held-clause-store : goal.returns-then-is_held-clause-store
returns-then-is_held-clause-store g c =
    let s = c.self.inside in
    let n = c.args.object in
    let none = not_other s.blocks.objects s.marks.objects n c.self.invariant (sym c.is_held.ensures ∙ c.if-is_held.true) in
    ap (λ a. side_by_side a s.marks) c.vacate.ensures.store ∙ without_left s.blocks s.marks n none ∙ ap (store.without_object n) c.self.view_is

pub returns-else-is_held-clause-result : goal.returns-else-is_held-clause-result
returns-else-is_held-clause-result g c =
    let s = c.self.inside in
    let n = c.args.object in
    let none = not_right s.blocks.objects n (sym c.is_held.ensures ∙ c.if-is_held.false) in
    c.vacate-else-is_held.ensures.result ∙ vacated_right s.blocks s.marks n none ∙ ap (store.vacated n) c.self.view_is

pub returns-else-is_held-clause-store : goal.returns-else-is_held-clause-store
returns-else-is_held-clause-store g c =
    let s = c.self.inside in
    let n = c.args.object in
    let none = not_right s.blocks.objects n (sym c.is_held.ensures ∙ c.if-is_held.false) in
    ap (side_by_side s.blocks) c.vacate-else-is_held.ensures.store ∙ without_right s.blocks s.marks n none c.vacate-else-is_held.ensures.spot ∙ ap (store.without_object n) c.self.view_is

pub returns-then-is_held-clause-err : goal.returns-then-is_held-clause-err
returns-then-is_held-clause-err g c =
    let answer = returns-then-is_held-clause-result g c in
    let after = returns-then-is_held-clause-store g c in
    vacated_or_kept c.args.object c.args.self.now _ c.vacate.result answer after

pub returns-else-is_held-clause-err : goal.returns-else-is_held-clause-err
returns-else-is_held-clause-err g c =
    let answer = returns-else-is_held-clause-result g c in
    let after = returns-else-is_held-clause-store g c in
    vacated_or_kept c.args.object c.args.self.now _ c.vacate-else-is_held.result answer after
