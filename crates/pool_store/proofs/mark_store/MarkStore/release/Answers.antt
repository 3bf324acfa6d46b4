use Rattle.std.proofs.Common.{◌≡◌, ◌+◌, Some, None, true, false, cond, sym, ap, subst, ◌∙◌, arith}
use Rattle.std.specs.Option.{option_map_or}
use Rattle.std.specs.FinMap.{get, insert}
use borrow.Author.Tests.{eq-eqb, ne_eqb}
use Rattle.pool_area.specs.Subpools.{Subpools}
use Rattle.pool_store.specs.Cells.{mark_of, is_out_of_subpool, Places}
use Rattle.pool_store.specs.Kept.{kept}
use Rattle.pool_store.specs.Marks as marks
use Rattle.pool_store.specs.Store as store
use Rattle.pool_store.specs.Store.{Store}
use Rattle.pool_store.proofs.Forgotten.{released_places, released_seen}
use Rattle.pool_store.proofs.MarkSteps.{seen, mark_here, no_mark_here, has_pool}
use Rattle.pool_store.proofs.MarkViews.{after_release, last_seen, renewed_is, given_below}
use Rattle.pool_store.proofs.Placed.{Cells, below_of}
use Rattle.pool_store.proofs.mark_store.MarkStore.release.Goals as goal

pub unreachable-requires : goal.unreachable-requires
unreachable-requires g c =
    let n = c.args.subpool in
    let p = c.in-Some.pool in
    let old : Store = c.args.self.now in
    let has = has_pool n old.marks old.opened p (sym c.pool_with.ensures ∙ c.in-Some.is) in
    let none : get old.marks p ≡ None = ap (λ v. get v.marks p) (sym c.self.view_is) ∙ no_mark_here c.self.inside.pools.values p (sym c.in_default-get_mut.ensures.value) in
    let no : true ≡ false = sym has ∙ ap (λ o. option_map_or (marks.has_subpool n) o false) none in
    absurd (cc)

pub invariant_of-self : goal.invariant_of-self
invariant_of-self g c =
    let s = c.self.inside in
    let n = c.args.subpool in
    let p = c.in-Some.pool in
    let a : Subpools = c.in-Some-get_mut.area.now in
    let there = sym c.in-Some-get_mut.ensures.value in
    let given : (after_release n (s.numbered + 1) a).given ≡ (s.numbered + 1) = ap (λ (q : Subpools). q.given) (sym c.release-last.ensures.area) ∙ sym c.given.ensures ∙ c.if-given-number.true in
    subst (λ (t : Cells). Places t (insert s.pools.values p c.release-last.new.self) (s.numbered + 1 + 1)) (sym c.forget_subpool.ensures)
    (subst (λ (b : Subpools). Places (kept (is_out_of_subpool p n) s.cells.values) (insert s.pools.values p b) (s.numbered + 1 + 1)) (sym c.release-last.ensures.area)
    (released_places s.cells.values s.pools.values s.opened.items (s.numbered + 1) c.self.invariant p n a there (s.numbered + 1 + 1) (omega arith) (omega arith)))

pub invariant_of-self-else-given-number : goal.invariant_of-self-else-given-number
invariant_of-self-else-given-number g c =
    let s = c.self.inside in
    let n = c.args.subpool in
    let p = c.in-Some.pool in
    let a : Subpools = c.in-Some-get_mut.area.now in
    let there = sym c.in-Some-get_mut.ensures.value in
    let below = below_of (s.numbered + 1) p s.pools.values a c.self.invariant.numbers there in
    let given = ne_eqb (after_release n (s.numbered + 1) a).given (s.numbered + 1) (λ e. c.if-given-number.false (c.given.ensures ∙ ap (λ (q : Subpools). q.given) c.release-last.ensures.area ∙ e)) in
    subst (λ (t : Cells). Places t (insert s.pools.values p c.release-last.new.self) (s.numbered + 1)) (sym c.forget_subpool.ensures)
    (subst (λ (b : Subpools). Places (kept (is_out_of_subpool p n) s.cells.values) (insert s.pools.values p b) (s.numbered + 1)) (sym c.release-last.ensures.area)
    (released_places s.cells.values s.pools.values s.opened.items (s.numbered + 1) c.self.invariant p n a there (s.numbered + 1) (omega arith) (given_below n (s.numbered + 1) a below given)))

pub returns-then-given-number-clause-last : goal.returns-then-given-number-clause-last
returns-then-given-number-clause-last g c =
    let s = c.self.inside in
    let n = c.args.subpool in
    let p = c.in-Some.pool in
    let a : Subpools = c.in-Some-get_mut.area.now in
    let old : Store = c.args.self.now in
    let pool : store.pool_with n old ≡ Some p = sym c.pool_with.ensures ∙ c.in-Some.is in
    let there : get old.marks p ≡ Some (mark_of a) = ap (λ v. get v.marks p) (sym c.self.view_is) ∙ mark_here s.pools.values p a (sym c.in-Some-get_mut.ensures.value) in
    c.release-last.ensures.last ∙ sym (last_seen n a.subpools) ∙ sym (ap (λ o. option_map_or (marks.is_last_in n) o false) there)
    ∙ sym (ap (λ o. option_map_or (λ q. store.is_last_of n q old) o false) pool)

pub returns-else-given-number-clause-last : goal.returns-else-given-number-clause-last
returns-else-given-number-clause-last g c =
    let s = c.self.inside in
    let n = c.args.subpool in
    let p = c.in-Some.pool in
    let a : Subpools = c.in-Some-get_mut.area.now in
    let old : Store = c.args.self.now in
    let pool : store.pool_with n old ≡ Some p = sym c.pool_with.ensures ∙ c.in-Some.is in
    let there : get old.marks p ≡ Some (mark_of a) = ap (λ v. get v.marks p) (sym c.self.view_is) ∙ mark_here s.pools.values p a (sym c.in-Some-get_mut.ensures.value) in
    c.release-last.ensures.last ∙ sym (last_seen n a.subpools) ∙ sym (ap (λ o. option_map_or (marks.is_last_in n) o false) there)
    ∙ sym (ap (λ o. option_map_or (λ q. store.is_last_of n q old) o false) pool)

pub returns-then-given-number-clause-store : goal.returns-then-given-number-clause-store
returns-then-given-number-clause-store g c =
    let s = c.self.inside in
    let n = c.args.subpool in
    let p = c.in-Some.pool in
    let a : Subpools = c.in-Some-get_mut.area.now in
    let old : Store = c.args.self.now in
    let pool : store.pool_with n old ≡ Some p = sym c.pool_with.ensures ∙ c.in-Some.is in
    let there = sym c.in-Some-get_mut.ensures.value in
    let below = below_of (s.numbered + 1) p s.pools.values a c.self.invariant.numbers there in
    let given = eq-eqb (after_release n (s.numbered + 1) a).given (s.numbered + 1) (ap (λ (q : Subpools). q.given) (sym c.release-last.ensures.area) ∙ sym c.given.ensures ∙ c.if-given-number.true) in
    let renewed : marks.is_renewed_by n (mark_of a) ≡ true = sym (renewed_is n (s.numbered + 1) a below) ∙ given in
    let end : (s.numbered + 1) + 1 ≡ (s.numbered + 1) + cond (marks.is_renewed_by n (mark_of a)) 1 0 = (let e : (s.numbered + 1) + 1 ≡ (s.numbered + 1) + cond true 1 0 = omega arith in e) ∙ sym (ap (λ t. (s.numbered + 1) + cond t 1 0) renewed) in
    ap (λ (t : Cells). seen t (insert s.pools.values p c.release-last.new.self) s.opened.items (s.numbered + 1 + 1)) c.forget_subpool.ensures
    ∙ ap (λ (b : Subpools). seen (kept (is_out_of_subpool p n) s.cells.values) (insert s.pools.values p b) s.opened.items (s.numbered + 1 + 1)) c.release-last.ensures.area
    ∙ released_seen s.cells.values s.pools.values s.opened.items (s.numbered + 1) c.self.invariant p n a there (s.numbered + 1 + 1) end
    ∙ ap (store.released_in p n) c.self.view_is
    ∙ sym (ap (λ o. option_map_or (λ q. store.released_in q n old) o old) pool)

pub returns-else-given-number-clause-store : goal.returns-else-given-number-clause-store
returns-else-given-number-clause-store g c =
    let s = c.self.inside in
    let n = c.args.subpool in
    let p = c.in-Some.pool in
    let a : Subpools = c.in-Some-get_mut.area.now in
    let old : Store = c.args.self.now in
    let pool : store.pool_with n old ≡ Some p = sym c.pool_with.ensures ∙ c.in-Some.is in
    let there = sym c.in-Some-get_mut.ensures.value in
    let below = below_of (s.numbered + 1) p s.pools.values a c.self.invariant.numbers there in
    let given = ne_eqb (after_release n (s.numbered + 1) a).given (s.numbered + 1) (λ e. c.if-given-number.false (c.given.ensures ∙ ap (λ (q : Subpools). q.given) c.release-last.ensures.area ∙ e)) in
    let renewed : marks.is_renewed_by n (mark_of a) ≡ false = sym (renewed_is n (s.numbered + 1) a below) ∙ given in
    let end : (s.numbered + 1) ≡ (s.numbered + 1) + cond (marks.is_renewed_by n (mark_of a)) 1 0 = (let e : (s.numbered + 1) ≡ (s.numbered + 1) + cond false 1 0 = omega arith in e) ∙ sym (ap (λ t. (s.numbered + 1) + cond t 1 0) renewed) in
    ap (λ (t : Cells). seen t (insert s.pools.values p c.release-last.new.self) s.opened.items ((s.numbered + 1))) c.forget_subpool.ensures
    ∙ ap (λ (b : Subpools). seen (kept (is_out_of_subpool p n) s.cells.values) (insert s.pools.values p b) s.opened.items ((s.numbered + 1))) c.release-last.ensures.area
    ∙ released_seen s.cells.values s.pools.values s.opened.items (s.numbered + 1) c.self.invariant p n a there ((s.numbered + 1)) end
    ∙ ap (store.released_in p n) c.self.view_is
    ∙ sym (ap (λ o. option_map_or (λ q. store.released_in q n old) o old) pool)
