use Rattle.std.proofs.Common.{◌+◌, ◌≡◌, ℕ, ◌/◌, Bool, Some, true, false, length, sym, ap, subst, ◌∙◌}
use Rattle.std.specs.Prelude.{Result, Ok, Err, OnErr}
use Rattle.std.specs.Option.{option_map_or}
use Rattle.std.specs.FinMap.{get, insert}
use Rattle.number_map.proofs.Changes.{insert_same}
use Rattle.pool_area.specs.Subpools as area
use Rattle.pool_area.specs.Subpools.{Seen, Subpools, is_dead}
use Rattle.pool_store.specs.declared.cell.Cell.{Cell}
use Rattle.pool_store.specs.Cells.{Places}
use Rattle.pool_store.specs.Marks as marks
use Rattle.pool_store.specs.Marks.{MarkPool}
use Rattle.pool_store.specs.Store as store
use Rattle.pool_store.specs.Store.{Store}
use Rattle.pool_store.proofs.MarkSteps.{seen, mark_here, no_mark_here, new_places, new_seen, granted}
use Rattle.pool_store.proofs.MarkViews.{last_seen, attached_row}
use Rattle.pool_store.proofs.mark_store.MarkStore.allocate.Goals as goal

on_err : {T E : Type 0} (r : Result T E) (P : Type 0) → P → OnErr r P
on_err (Ok x) P p = tt
on_err (Err e) P p = p

-- what a pool says that is there
there_says : (f : MarkPool → Bool) (s : Store) (p : ℕ) (m : MarkPool) (b : Bool) → get s.marks p ≡ Some m → option_map_or f (get s.marks p) false ≡ b → f m ≡ b
there_says f s p m b there is = sym (ap (λ o. option_map_or f o false) there) ∙ is

pub unreachable-requires : goal.unreachable-requires
unreachable-requires g c =
    let a = c.args in
    let grant = granted a.subpool a.pool a.units a.self.now (sym c.refusal.ensures ∙ c.in_default.is) in
    let none = no_mark_here c.self.inside.pools.values a.pool (sym c.in_default-get_mut.ensures.value) in
    let apart : store.belongs_to a.subpool a.pool a.self.now ≡ false =
    ap (store.belongs_to a.subpool a.pool) (sym c.self.view_is) ∙ ap (λ o. option_map_or (marks.belongs a.subpool) o false) none in
    let no : true ≡ false = sym grant.0 ∙ apart in
    absurd (cc)

pub allocate-requires-clause-last : goal.allocate-requires-clause-last
allocate-requires-clause-last g c =
    let a = c.args in
    let d : Subpools = c.in-Some-get_mut.area.now in
    let there = ap (λ v. get v.marks a.pool) (sym c.self.view_is) ∙ mark_here c.self.inside.pools.values a.pool d (sym c.in-Some-get_mut.ensures.value) in
    let grant = granted a.subpool a.pool a.units a.self.now (sym c.refusal.ensures ∙ c.in_default.is) in
    sym (last_seen a.subpool d.subpools) ∙ there_says (marks.is_last_in a.subpool) a.self.now a.pool _ true there grant.1

pub allocate-requires-clause-room : goal.allocate-requires-clause-room
allocate-requires-clause-room g c =
    let a = c.args in
    let d : Subpools = c.in-Some-get_mut.area.now in
    let there = ap (λ v. get v.marks a.pool) (sym c.self.view_is) ∙ mark_here c.self.inside.pools.values a.pool d (sym c.in-Some-get_mut.ensures.value) in
    let grant = granted a.subpool a.pool a.units a.self.now (sym c.refusal.ensures ∙ c.in_default.is) in
    ap (λ u. area.is_overfull u d) c.requires.units.1 ∙ there_says (marks.is_overfull a.units) a.self.now a.pool _ false there grant.2

pub invariant_of-self-in_err-index : goal.invariant_of-self-in_err-index
invariant_of-self-in_err-index g c =
    let s = c.self.inside in
    let p = c.args.pool in
    let same = ap (insert s.pools.values p) c.in_err-index.ensures.err ∙ insert_same s.pools.values p c.in-Some-get_mut.area.now (sym c.in-Some-get_mut.ensures.value) in
    subst (λ t. Places t (insert s.pools.values p c.allocate.new.self) (s.numbered + 1)) (sym c.reserve.ensures.values)
    (subst (λ t. Places s.cells.values t (s.numbered + 1)) (sym same) c.self.invariant)

pub returns-in_err-index-clause-err : goal.returns-in_err-index-clause-err
returns-in_err-index-clause-err g c =
    let s = c.self.inside in
    let p = c.args.pool in
    let same = ap (insert s.pools.values p) c.in_err-index.ensures.err ∙ insert_same s.pools.values p c.in-Some-get_mut.area.now (sym c.in-Some-get_mut.ensures.value) in
    on_err c.from_residual-in_err-index.result _ (ap (λ t. seen t (insert s.pools.values p c.allocate.new.self) s.opened.items (s.numbered + 1)) c.reserve.ensures.values
    ∙ ap (λ t. seen s.cells.values t s.opened.items (s.numbered + 1)) same ∙ c.self.view_is)

pub invariant_of-self-2 : goal.invariant_of-self-2
invariant_of-self-2 g c =
    let s = c.self.inside in
    let a = c.args in
    let n = a.subpool in
    let d : Subpools = c.in-Some-get_mut.area.now in
    let there = sym c.in-Some-get_mut.ensures.value in
    let seen_there = ap (λ v. get v.marks a.pool) (sym c.self.view_is) ∙ mark_here s.pools.values a.pool d there in
    let grant = granted n a.pool a.units a.self.now (sym c.refusal.ensures ∙ c.in_default.is) in
    let row = attached_row n d (there_says (marks.belongs n) a.self.now a.pool _ true seen_there grant.0) in
    let i = c.in_ok-index.index in
    let end : i ≡ length row.0.blocks = c.in_ok-index.ensures.ok.0 ∙ ap (λ o. option_map_or (λ (x : Seen). length x.blocks) o 0) row.1 in
    let cell : Cell = record { pool = a.pool; subpool = n; index = i } in
    let put = c.put.ensures.values ∙ ap (λ t. insert t a.object cell) c.reserve.ensures.values in
    subst (λ t. Places t (insert s.pools.values a.pool c.allocate.new.self) (s.numbered + 1)) (sym put)
    (subst (λ (b : Subpools). Places (insert s.cells.values a.object cell) (insert s.pools.values a.pool b) (s.numbered + 1)) (sym c.in_ok-index.ensures.ok.1)
    (new_places s.cells.values s.pools.values s.opened.items (s.numbered + 1) c.self.invariant a.pool n a.object (a.units / 8) i d row.0 there row.1 row.2 end))

pub returns-clause-ok : goal.returns-clause-ok
returns-clause-ok g c =
    let s = c.self.inside in
    let a = c.args in
    let n = a.subpool in
    let d : Subpools = c.in-Some-get_mut.area.now in
    let there = sym c.in-Some-get_mut.ensures.value in
    let seen_there = ap (λ v. get v.marks a.pool) (sym c.self.view_is) ∙ mark_here s.pools.values a.pool d there in
    let grant = granted n a.pool a.units a.self.now (sym c.refusal.ensures ∙ c.in_default.is) in
    let row = attached_row n d (there_says (marks.belongs n) a.self.now a.pool _ true seen_there grant.0) in
    let i = c.in_ok-index.index in
    let end : i ≡ length row.0.blocks = c.in_ok-index.ensures.ok.0 ∙ ap (λ o. option_map_or (λ (x : Seen). length x.blocks) o 0) row.1 in
    let cell : Cell = record { pool = a.pool; subpool = n; index = i } in
    let put = c.put.ensures.values ∙ ap (λ t. insert t a.object cell) c.reserve.ensures.values in (
      sym c.refusal.ensures ∙ c.in_default.is,
      ap (λ t. seen t (insert s.pools.values a.pool c.allocate.new.self) s.opened.items (s.numbered + 1)) put
          ∙ ap (λ (b : Subpools). seen (insert s.cells.values a.object cell) (insert s.pools.values a.pool b) s.opened.items (s.numbered + 1)) c.in_ok-index.ensures.ok.1
          ∙ new_seen s.cells.values s.pools.values s.opened.items (s.numbered + 1) c.self.invariant a.pool n a.object (a.units / 8) i d row.0 there row.1 row.2 end
          ∙ ap (store.hold_in n a.pool a.object (a.units / 8)) c.self.view_is,
    )
