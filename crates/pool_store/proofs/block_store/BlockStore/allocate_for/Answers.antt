use Rattle.std.proofs.Common.{◌≡◌, ◌+◌, ◌/◌, ◌≤◌, None, false, sym, ap, subst, ◌∙◌, arith}
use Rattle.std.specs.Prelude.{IsSome, is_none}
use Rattle.std.specs.Option.{option_map_or}
use Rattle.std.specs.FinMap.{get, insert}
use Rattle.number_map.proofs.Changes.{get_here, insert_same}
use Rattle.pool_area.specs.Blocks as area
use Rattle.pool_area.specs.Blocks.{Blocks}
use Rattle.pool_store.specs.declared.entry.Entry.{Entry}
use Rattle.pool_store.specs.declared.entry.Entry.TheVariants.{InBlock}
use Rattle.pool_store.specs.Entries.{BlockPool, pool_of, stored_in, Ties}
use Rattle.pool_store.specs.Store as store
use Rattle.pool_store.specs.Store.{Store}
use Rattle.pool_store.proofs.Areas.{pool_here, no_pool_here, has_free, has_size}
use Rattle.pool_store.proofs.Steps.{seen, on_err, not_out, holding_ties, holding_seen}
use Rattle.number_map.proofs.Mapped.{unmapped}
use Rattle.pool_store.proofs.block_store.BlockStore.allocate_for.Goals as goal

pub unreachable-requires : goal.unreachable-requires
unreachable-requires g c =
    let none = no_pool_here c.self.inside.blocks.values c.args.pool (sym c.in_default.ensures.value) in
    let shown : IsSome {T = BlockPool} None = subst IsSome (ap (λ v. get v.blocks c.args.pool) (sym c.self.view_is) ∙ none) c.requires.open in
    absurd (cc)

pub allocate-requires : goal.allocate-requires
allocate-requires g c =
    let s = c.self.inside in
    let a = c.args in
    let b = c.in-Some.area.now in
    let there = sym c.in-Some.ensures.value in
    let room : store.is_exhausted a.units (pool_of b) ≡ false =
    sym (ap (λ o. option_map_or (store.is_exhausted a.units) o false) (pool_here s.blocks.values a.pool b there))
    ∙ ap (λ v. store.is_exhausted_in a.pool a.units v) c.self.view_is ∙ sym c.is_exhausted.ensures ∙ c.if-is_exhausted.false in
    record {
      free = has_free a.units (pool_of b) room;
      new = not_out s.objects.values s.blocks.values s.given c.self.invariant a.pool b there;
    }

pub invariant_of-self-in_err-allocate : goal.invariant_of-self-in_err-allocate
invariant_of-self-in_err-allocate g c =
    let s = c.self.inside in
    let same = ap (insert s.blocks.values c.args.pool) c.in_err-allocate.ensures.err ∙ insert_same s.blocks.values c.args.pool c.in-Some.area.now (sym c.in-Some.ensures.value) in
    subst (λ o. Ties o (insert s.blocks.values c.args.pool c.allocate.new.self) s.given) (sym c.reserve.ensures.values)
    (subst (λ b. Ties s.objects.values b s.given) (sym same) c.self.invariant)

pub returns-in_err-allocate-clause-err : goal.returns-in_err-allocate-clause-err
returns-in_err-allocate-clause-err g c =
    let s = c.self.inside in
    let same = ap (insert s.blocks.values c.args.pool) c.in_err-allocate.ensures.err ∙ insert_same s.blocks.values c.args.pool c.in-Some.area.now (sym c.in-Some.ensures.value) in
    on_err c.from_residual-in_err-allocate.result _
    (ap (λ o. seen o (insert s.blocks.values c.args.pool c.allocate.new.self) s.given) c.reserve.ensures.values ∙ ap (λ b. seen s.objects.values b s.given) same ∙ c.self.view_is)

pub occupy-requires : goal.occupy-requires
occupy-requires g c =
    let s = c.self.inside in
    let a = c.args in
    let b = c.in-Some.area.now in
    let there = sym c.in-Some.ensures.value in
    let room : store.is_exhausted a.units (pool_of b) ≡ false =
    sym (ap (λ o. option_map_or (store.is_exhausted a.units) o false) (pool_here s.blocks.values a.pool b there))
    ∙ ap (λ v. store.is_exhausted_in a.pool a.units v) c.self.view_is ∙ sym c.is_exhausted.ensures ∙ c.if-is_exhausted.false in
    let fits : a.units ≤ b.size = has_size a.units (pool_of b) room in
    let size : c.allocate.new.self.size ≡ b.size = ap (λ x. x.size) c.in_ok-allocate.ensures.ok in
    record {
      vacant = ap (area.is_vacant (s.given + 1)) c.in_ok-allocate.ensures.ok ∙ ap (λ o. option_map_or is_none o false) (get_here b.out (s.given + 1) None);
      fits = omega arith;
    }

pub invariant_of-self-2 : goal.invariant_of-self-2
invariant_of-self-2 g c =
    let s = c.self.inside in
    let a = c.args in
    let b = c.in-Some.area.now in
    let there = sym c.in-Some.ensures.value in
    let entry : Entry g.row.A.Denot = InBlock (record { pool = a.pool; address = s.given + 1 }) in
    let put = c.put_new.ensures.values ∙ ap (λ t. insert t a.object entry) c.reserve.ensures.values in
    let out = c.occupy.ensures ∙ ap (area.with_holder (s.given + 1) a.object (a.units / 8)) c.in_ok-allocate.ensures.ok in
    subst (λ o. Ties o (insert s.blocks.values a.pool c.occupy.new.self) (s.given + 1)) (sym put)
    (subst (λ d. Ties (insert s.objects.values a.object entry) (insert s.blocks.values a.pool d) (s.given + 1)) (sym out)
    (holding_ties s.objects.values s.blocks.values s.given c.self.invariant a.pool a.object (a.units / 8) b there))

pub returns-clause-ok : goal.returns-clause-ok
returns-clause-ok g c =
    let s = c.self.inside in
    let a = c.args in
    let b = c.in-Some.area.now in
    let there = sym c.in-Some.ensures.value in
    let entry : Entry g.row.A.Denot = InBlock (record { pool = a.pool; address = s.given + 1 }) in
    let put = c.put_new.ensures.values ∙ ap (λ t. insert t a.object entry) c.reserve.ensures.values in
    let out = c.occupy.ensures ∙ ap (area.with_holder (s.given + 1) a.object (a.units / 8)) c.in_ok-allocate.ensures.ok in (
      sym c.is_exhausted.ensures ∙ c.if-is_exhausted.false,
      ap (λ v. v.given + 1) c.self.view_is,
      ap (λ o. seen o (insert s.blocks.values a.pool c.occupy.new.self) (s.given + 1)) put
          ∙ ap (λ d. seen (insert s.objects.values a.object entry) (insert s.blocks.values a.pool d) (s.given + 1)) out
          ∙ holding_seen s.objects.values s.blocks.values s.given c.self.invariant a.pool a.object (a.units / 8) b there
          ∙ ap (λ v. store.hold_block a.pool (s.given + 1) a.object (a.units / 8) (store.take_block a.pool v)) c.self.view_is,
    )

pub put_new-requires-clause-new : goal.put_new-requires-clause-new
put_new-requires-clause-new g c =
    let s = c.self.inside in
    let n = c.args.object in
    ap (λ t. get t n) c.reserve.ensures.values ∙ unmapped (stored_in s.blocks.values) s.objects.values n (ap (λ (v : Store). get v.objects n) c.self.view_is ∙ c.requires.new)
