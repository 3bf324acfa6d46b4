use Rattle.std.proofs.Common.{◌+◌, Bool, None, false, length, sym, ap, subst, ◌∙◌, arith}
use Rattle.std.specs.Prelude.{IsSome, nat_le}
use Rattle.std.specs.Option.{option_map_or}
use Rattle.std.specs.FinMap.{get, insert}
use Rattle.std.proofs.lemmas.List.{length-map}
use Rattle.pool_area.specs.Subpools as area
use Rattle.pool_area.specs.Subpools.{Subpools}
use Rattle.pool_store.specs.Cells.{bare, Places}
use Rattle.pool_store.specs.Marks as marks
use Rattle.pool_store.specs.Marks.{MarkPool}
use Rattle.pool_store.specs.Store as store
use Rattle.pool_store.specs.Store.{Store}
use Rattle.pool_store.proofs.MarkSteps.{seen, mark_here, no_mark_here, edited_places, edited_seen}
use Rattle.pool_store.proofs.MarkViews.{keeps_pushed, pushed_shown, few_of}
use Rattle.pool_store.proofs.mark_store.MarkStore.create.Goals as goal

abbrev full : MarkPool → Bool
full m = nat_le 10 (length m.subpools)

pub unreachable-requires : goal.unreachable-requires
unreachable-requires g c =
    let none = no_mark_here c.self.inside.pools.values c.args.pool (sym c.in_default.ensures.value) in
    let shown : IsSome {T = MarkPool} None = subst IsSome (ap (λ v. get v.marks c.args.pool) (sym c.self.view_is) ∙ none) c.requires.open in
    absurd (cc)

pub create-requires-clause-few : goal.create-requires-clause-few
create-requires-clause-few g c =
    let d : Subpools = c.in-Some.area.now in
    few_of (length d.subpools) (ap (nat_le 10) (sym (length-map d.subpools bare))
    ∙ sym (ap (λ o. option_map_or full o false) (mark_here c.self.inside.pools.values c.args.pool d (sym c.in-Some.ensures.value)))
    ∙ ap (λ v. option_map_or full (get v.marks c.args.pool) false) c.self.view_is ∙ sym c.is_full.ensures ∙ c.if-is_full.false)

pub invariant_of-self : goal.invariant_of-self
invariant_of-self g c =
    let s = c.self.inside in
    let d : Subpools = c.in-Some.area.now in
    let n = (s.numbered + 1) in
    subst (λ (b : Subpools). Places s.cells.values (insert s.pools.values c.args.pool b) (n + 1)) (sym c.create.ensures)
    (edited_places s.cells.values s.pools.values s.opened.items n c.self.invariant c.args.pool (n + 1) d (area.with_subpool n d) (marks.with_subpool n) (sym c.in-Some.ensures.value)
    (keeps_pushed n d) (omega arith) (omega arith) (pushed_shown n d))

pub returns-clause-ok : goal.returns-clause-ok
returns-clause-ok g c =
    let s = c.self.inside in
    let d : Subpools = c.in-Some.area.now in
    let n = (s.numbered + 1) in (
      sym c.is_full.ensures ∙ c.if-is_full.false,
      ap (λ v. v.next_subpool) c.self.view_is,
      ap (λ (b : Subpools). seen s.cells.values (insert s.pools.values c.args.pool b) s.opened.items (n + 1)) c.create.ensures
          ∙ edited_seen s.cells.values s.pools.values s.opened.items n c.self.invariant c.args.pool (n + 1) d (area.with_subpool n d) (marks.with_subpool n) (sym c.in-Some.ensures.value)
          (keeps_pushed n d) (omega arith) (omega arith) (pushed_shown n d)
          ∙ ap (store.with_new_subpool c.args.pool) c.self.view_is,
    )
