use Rattle.std.proofs.Common.{◌+◌, ℕ, List, sym, ap, subst, ◌∙◌}
use Rattle.std.specs.FinMap.{remove}
use Rattle.pool_store.specs.Cells.{is_out_of_pool, Places}
use Rattle.pool_store.specs.Kept.{kept}
use Rattle.pool_store.specs.Store as store
use Rattle.pool_store.specs.Store.{Store}
use Rattle.pool_store.proofs.Forgotten.{held_in, none_in, closed_places, closed_seen}
use Rattle.pool_store.proofs.MarkSteps.{seen}
use Rattle.pool_store.proofs.Placed.{Cells, Areas}
use Rattle.pool_store.proofs.mark_store.MarkStore.close_pool.Goals as goal

pub invariant_of-self : goal.invariant_of-self
invariant_of-self g c =
    let s = c.self.inside in
    let p = c.args.pool in
    subst (λ (t : Areas). Places s.cells.values t (s.numbered + 1)) (sym c.in_default.ensures.values)
    (subst (λ (t : Cells). Places t (remove s.pools.values p) (s.numbered + 1)) (none_in s.cells.values s.pools.values s.opened.items (s.numbered + 1) c.self.invariant p (sym c.in_default.ensures.value))
    (closed_places s.cells.values s.pools.values s.opened.items (s.numbered + 1) c.self.invariant p))

pub returns-in_default : goal.returns-in_default
returns-in_default g c =
    let s = c.self.inside in
    let p = c.args.pool in
    ap (λ (t : Areas). seen s.cells.values t c.forget_number.new.numbers.items (s.numbered + 1)) c.in_default.ensures.values
    ∙ ap (λ (l : List ℕ). seen s.cells.values (remove s.pools.values p) l (s.numbered + 1)) c.forget_number.ensures
    ∙ ap (λ (t : Cells). seen t (remove s.pools.values p) (store.others p s.opened.items) (s.numbered + 1)) (sym (none_in s.cells.values s.pools.values s.opened.items (s.numbered + 1) c.self.invariant p (sym c.in_default.ensures.value)))
    ∙ closed_seen s.cells.values s.pools.values s.opened.items (s.numbered + 1) c.self.invariant p ∙ ap (store.without_pool p) c.self.view_is

pub forget_pool-requires : goal.forget_pool-requires
forget_pool-requires g c =
    let s = c.self.inside in
    held_in s.cells.values s.pools.values s.opened.items (s.numbered + 1) c.self.invariant c.args.pool c.in-Some.area (sym c.in-Some.ensures.value)

pub invariant_of-self-2 : goal.invariant_of-self-2
invariant_of-self-2 g c =
    let s = c.self.inside in
    let p = c.args.pool in
    subst (λ (t : Cells). Places t c.remove.new.self.values (s.numbered + 1)) (sym c.forget_pool.ensures)
    (subst (λ (t : Areas). Places (kept (is_out_of_pool p) s.cells.values) t (s.numbered + 1)) (sym c.in-Some.ensures.values)
    (closed_places s.cells.values s.pools.values s.opened.items (s.numbered + 1) c.self.invariant p))

pub returns : goal.returns
returns g c =
    let s = c.self.inside in
    let p = c.args.pool in
    ap (λ (t : Cells). seen t c.remove.new.self.values c.forget_number.new.numbers.items (s.numbered + 1)) c.forget_pool.ensures
    ∙ ap (λ (t : Areas). seen (kept (is_out_of_pool p) s.cells.values) t c.forget_number.new.numbers.items (s.numbered + 1)) c.in-Some.ensures.values
    ∙ ap (λ (l : List ℕ). seen (kept (is_out_of_pool p) s.cells.values) (remove s.pools.values p) l (s.numbered + 1)) c.forget_number.ensures
    ∙ closed_seen s.cells.values s.pools.values s.opened.items (s.numbered + 1) c.self.invariant p ∙ ap (store.without_pool p) c.self.view_is
