use Rattle.std.proofs.Common.{◌+◌, ◌∷◌, ◌++◌, [], sym, ap, subst, ◌∙◌}
use Rattle.std.specs.FinMap.{get, insert}
use Rattle.pool_area.specs.Subpools as area
use Rattle.pool_area.specs.Subpools.{Subpools}
use Rattle.pool_store.specs.Cells.{Places}
use Rattle.pool_store.specs.Store as store
use Rattle.pool_store.specs.Store.{Store}
use Rattle.pool_store.proofs.MarkSteps.{not_marked, opened_places, opened_seen, seen}
use Rattle.pool_store.proofs.mark_store.MarkStore.open.Goals as goal

pub put_new-requires-clause-new : goal.put_new-requires-clause-new
put_new-requires-clause-new g c =
    ap (λ t. get t c.args.pool) c.reserve.ensures.values ∙ not_marked c.self.inside.pools.values c.args.pool (ap (λ v. get v.marks c.args.pool) c.self.view_is ∙ c.requires.new)

pub invariant_of-self-2 : goal.invariant_of-self-2
invariant_of-self-2 g c =
    let s = c.self.inside in
    let p = c.args.pool in
    let none = not_marked s.pools.values p (ap (λ v. get v.marks p) c.self.view_is ∙ c.requires.new) in
    let e = c.put_new.ensures.values ∙ ap (λ t. insert t p c.in_ok-area.area) c.reserve.ensures.values ∙ ap (insert s.pools.values p) c.in_ok-area.ensures in
    subst (λ t. Places s.cells.values t (s.numbered + 1 + 1)) (sym e) (opened_places s.cells.values s.pools.values s.opened.items (s.numbered + 1) c.self.invariant p c.args.units none)

pub returns-clause-ok : goal.returns-clause-ok
returns-clause-ok g c =
    let s = c.self.inside in
    let p = c.args.pool in
    let none = not_marked s.pools.values p (ap (λ v. get v.marks p) c.self.view_is ∙ c.requires.new) in
    let e = c.put_new.ensures.values ∙ ap (λ t. insert t p c.in_ok-area.area) c.reserve.ensures.values ∙ ap (insert s.pools.values p) c.in_ok-area.ensures in (
      ap (λ v. v.next_subpool) c.self.view_is,
      ap (λ t. seen s.cells.values t c.push_reserved.new.self.items (s.numbered + 1 + 1)) e
          ∙ ap (λ l. seen s.cells.values (insert s.pools.values p (area.new_area c.args.units (s.numbered + 1))) l (s.numbered + 1 + 1)) (c.push_reserved.ensures.items ∙ ap (λ l. l ++ p ∷ []) c.in_ok-reserve-2.ensures.items)
          ∙ opened_seen s.cells.values s.pools.values s.opened.items (s.numbered + 1) c.self.invariant p c.args.units none
          ∙ ap (store.with_mark_pool p c.args.units) c.self.view_is,
    )
