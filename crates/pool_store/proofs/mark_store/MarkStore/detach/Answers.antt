use Rattle.std.proofs.Common.{◌+◌, ◌≡◌, Some, true, false, refl, sym, ap, subst, ◌∙◌, if◌then◌else◌, arith}
use Rattle.std.specs.Option.{option_map_or}
use Rattle.std.specs.FinMap.{insert}
use Rattle.pool_area.specs.declared.subpool.Standing.TheVariants.{Detached}
use Rattle.pool_area.specs.Subpools as area
use Rattle.pool_area.specs.Subpools.{Subpools}
use Rattle.pool_store.specs.Cells.{Places}
use Rattle.pool_store.specs.Marks as marks
use Rattle.pool_store.specs.Store as store
use Rattle.pool_store.specs.Store.{Store}
use Rattle.pool_store.proofs.MarkSteps.{seen, no_mark_here, edited_places, edited_seen}
use Rattle.pool_store.proofs.MarkViews.{keeps_standing, standing_shown}
use Rattle.pool_store.proofs.Placed.{below_of}
use Rattle.pool_store.proofs.mark_store.MarkStore.detach.Goals as goal

pub unreachable-requires : goal.unreachable-requires
unreachable-requires g c =
    let n = c.args.subpool in
    let p = c.in-Some.pool in
    let none = no_mark_here c.self.inside.pools.values p (sym c.in_default-get_mut.ensures.value) in
    let apart : store.belongs_to n p c.args.self.now ≡ false =
    ap (store.belongs_to n p) (sym c.self.view_is) ∙ ap (λ o. option_map_or (marks.belongs n) o false) none in
    let no : true ≡ false = sym c.if-not-belongs.false ∙ c.belongs.ensures ∙ apart in
    absurd (cc)

pub invariant_of-self : goal.invariant_of-self
invariant_of-self g c =
    let s = c.self.inside in
    let d : Subpools = c.in-Some-get_mut.area.now in
    let n = c.args.subpool in
    let p = c.in-Some.pool in
    let there = sym c.in-Some-get_mut.ensures.value in
    subst (λ (b : Subpools). Places s.cells.values (insert s.pools.values p b) (s.numbered + 1)) (sym c.set_standing.ensures)
    (edited_places s.cells.values s.pools.values s.opened.items (s.numbered + 1) c.self.invariant p (s.numbered + 1) d (area.with_standing n Detached d) (marks.with_standing n Detached) there
    (keeps_standing n Detached d refl) (omega arith) (below_of (s.numbered + 1) p s.pools.values d c.self.invariant.numbers there) (standing_shown n Detached d))

pub returns-clause-store : goal.returns-clause-store
returns-clause-store g c =
    let s = c.self.inside in
    let d : Subpools = c.in-Some-get_mut.area.now in
    let n = c.args.subpool in
    let p = c.in-Some.pool in
    let old : Store = c.args.self.now in
    let there = sym c.in-Some-get_mut.ensures.value in
    let pool : store.pool_with n old ≡ Some p = sym c.pool_with.ensures ∙ c.in-Some.is in
    let attached : store.is_attached n old ≡ true = ap (λ o. option_map_or (λ q. store.belongs_to n q old) o false) pool ∙ sym c.belongs.ensures ∙ c.if-not-belongs.false in
    ap (λ (b : Subpools). seen s.cells.values (insert s.pools.values p b) s.opened.items (s.numbered + 1)) c.set_standing.ensures
    ∙ edited_seen s.cells.values s.pools.values s.opened.items (s.numbered + 1) c.self.invariant p (s.numbered + 1) d (area.with_standing n Detached d) (marks.with_standing n Detached) there
    (keeps_standing n Detached d refl) (omega arith) (below_of (s.numbered + 1) p s.pools.values d c.self.invariant.numbers there) (standing_shown n Detached d)
    ∙ ap (store.change_marks p (marks.with_standing n Detached)) c.self.view_is
    ∙ sym (ap (λ o. option_map_or (λ q. store.change_marks q (marks.with_standing n Detached) old) o old) pool)
    ∙ sym (ap (λ t. let r : Store = if t then store.detached n old else old in r) attached)
