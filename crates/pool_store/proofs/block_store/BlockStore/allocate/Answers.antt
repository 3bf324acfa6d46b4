use Rattle.std.proofs.Common.{◌≡◌, ◌+◌, [], None, false, sym, ap, subst, ◌∙◌}
use Rattle.std.specs.Prelude.{IsSome}
use Rattle.std.specs.Option.{option_map_or}
use Rattle.std.specs.FinMap.{empty, get, insert}
use Rattle.number_map.specs.Table.{mapped}
use Rattle.number_map.proofs.Changes.{insert_same}
use Rattle.pool_store.specs.Entries.{BlockPool, pool_of, stored_in, Ties}
use Rattle.pool_store.specs.Store as store
use Rattle.pool_store.specs.Store.{Store}
use Rattle.pool_store.proofs.Areas.{pool_here, no_pool_here, has_free}
use Rattle.pool_store.proofs.Steps.{seen, on_err, not_out, taken_ties, taken_seen}
use Rattle.pool_store.proofs.block_store.BlockStore.allocate.Goals as goal

pub unreachable-requires : goal.unreachable-requires
unreachable-requires g c =
    let none = no_pool_here c.self.inside.blocks.values c.args.pool (sym c.in_default.ensures.value) in
    let shown : IsSome {T = BlockPool} None = subst IsSome (ap (λ v. get v.blocks c.args.pool) (sym c.self.view_is) ∙ none) c.requires.open in
    absurd (cc)

pub allocate-requires : goal.allocate-requires
allocate-requires g c =
    let s = c.self.inside in
    let b = c.in-Some.area.now in
    let there = sym c.in-Some.ensures.value in
    let room : store.is_exhausted c.args.units (pool_of b) ≡ false =
    sym (ap (λ o. option_map_or (store.is_exhausted c.args.units) o false) (pool_here s.blocks.values c.args.pool b there))
    ∙ ap (λ v. store.is_exhausted_in c.args.pool c.args.units v) c.self.view_is ∙ sym c.is_exhausted.ensures ∙ c.if-is_exhausted.false in
    record {
      free = has_free c.args.units (pool_of b) room;
      new = not_out s.objects.values s.blocks.values s.given c.self.invariant c.args.pool b there;
    }

pub invariant_of-self : goal.invariant_of-self
invariant_of-self g c =
    let s = c.self.inside in
    let same = ap (insert s.blocks.values c.args.pool) c.in_err-allocate.ensures.err ∙ insert_same s.blocks.values c.args.pool c.in-Some.area.now (sym c.in-Some.ensures.value) in
    subst (λ b. Ties s.objects.values b s.given) (sym same) c.self.invariant

pub returns-in_err-allocate-clause-err : goal.returns-in_err-allocate-clause-err
returns-in_err-allocate-clause-err g c =
    let s = c.self.inside in
    let same = ap (insert s.blocks.values c.args.pool) c.in_err-allocate.ensures.err ∙ insert_same s.blocks.values c.args.pool c.in-Some.area.now (sym c.in-Some.ensures.value) in
    on_err c.from_residual.result _ (ap (λ b. let r : Store = record { objects = mapped (stored_in b) s.objects.values; blocks = mapped pool_of b; given = s.given; marks = empty; opened = []; next_subpool = 1 } in r) same ∙ c.self.view_is)

pub invariant_of-self-2 : goal.invariant_of-self-2
invariant_of-self-2 g c =
    let s = c.self.inside in
    subst (λ x. Ties s.objects.values (insert s.blocks.values c.args.pool x) (s.given + 1)) (sym c.in_ok-allocate.ensures.ok)
    (taken_ties s.objects.values s.blocks.values s.given c.self.invariant c.args.pool c.in-Some.area.now (sym c.in-Some.ensures.value))

pub returns-clause-ok : goal.returns-clause-ok
returns-clause-ok g c =
    let s = c.self.inside in
    let p = c.args.pool in (
      sym c.is_exhausted.ensures ∙ c.if-is_exhausted.false,
      ap (λ v. v.given + 1) c.self.view_is,
      ap (λ x. seen s.objects.values (insert s.blocks.values p x) (s.given + 1)) c.in_ok-allocate.ensures.ok
          ∙ taken_seen s.objects.values s.blocks.values s.given c.self.invariant p c.in-Some.area.now (sym c.in-Some.ensures.value) ∙ ap (store.take_block p) c.self.view_is,
    )
