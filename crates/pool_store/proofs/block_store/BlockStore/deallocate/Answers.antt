use Rattle.std.proofs.Common.{Some, None, sym, ap, subst, ◌∙◌}
use Rattle.std.specs.Prelude.{if◌then◌else◌, Result, Ok, Err}
use Rattle.std.specs.FinMap.{insert}
use Rattle.pool_store.specs.Entries.{Ties}
use Rattle.pool_store.specs.Store as store
use Rattle.pool_store.specs.Store.{Store}
use Rattle.pool_store.proofs.Areas.{vacant_lot, vacant_in}
use Rattle.pool_store.proofs.Steps.{seen, freed_ties, freed_seen}
use Rattle.pool_store.specs.declared.fault.StoreFault.{StoreFault}
use Rattle.pool_store.specs.declared.fault.StoreFault.TheVariants.{BadAddress}
use Rattle.pool_store.proofs.block_store.BlockStore.deallocate.Goals as goal

pub unreachable-requires : goal.unreachable-requires
unreachable-requires g c =
    let a = c.args in
    let none = vacant_in c.self.inside.blocks.values a.pool a.address.0 None (sym c.in_default.ensures.value) in
    let is = ap (λ v. store.is_vacant_in a.pool a.address.0 v) c.self.view_is ∙ sym c.is_vacant.ensures ∙ c.if-not-is_vacant.false in
    absurd (cc (none, is))

pub deallocate-requires : goal.deallocate-requires
deallocate-requires g c =
    let a = c.args in
    sym (vacant_in c.self.inside.blocks.values a.pool a.address.0 (Some c.in-Some.area.now) (sym c.in-Some.ensures.value))
    ∙ ap (λ v. store.is_vacant_in a.pool a.address.0 v) c.self.view_is ∙ sym c.is_vacant.ensures ∙ c.if-not-is_vacant.false

pub invariant_of-self : goal.invariant_of-self
invariant_of-self g c =
    let a = c.args in
    let s = c.self.inside in
    let b = c.in-Some.area.now in
    let there = sym c.in-Some.ensures.value in
    let vacant = vacant_lot b a.address.0 (sym (vacant_in s.blocks.values a.pool a.address.0 (Some b) there)
    ∙ ap (λ v. store.is_vacant_in a.pool a.address.0 v) c.self.view_is ∙ sym c.is_vacant.ensures ∙ c.if-not-is_vacant.false) in
    subst (λ x. Ties s.objects.values (insert s.blocks.values a.pool x) s.given) (sym c.deallocate.ensures)
    (freed_ties s.objects.values s.blocks.values s.given c.self.invariant a.pool a.address.0 b there vacant)

pub returns-clause-result : goal.returns-clause-result
returns-clause-result g c =
    sym (ap (λ t. let r : Result (Unit {0}) StoreFault = (if t then Ok tt else Err BadAddress) in r) (sym c.is_vacant.ensures ∙ c.if-not-is_vacant.false))

pub returns-clause-store : goal.returns-clause-store
returns-clause-store g c =
    let a = c.args in
    let s = c.self.inside in
    let b = c.in-Some.area.now in
    let there = sym c.in-Some.ensures.value in
    let vacant = vacant_lot b a.address.0 (sym (vacant_in s.blocks.values a.pool a.address.0 (Some b) there)
    ∙ ap (λ v. store.is_vacant_in a.pool a.address.0 v) c.self.view_is ∙ sym c.is_vacant.ensures ∙ c.if-not-is_vacant.false) in
    ap (λ x. seen s.objects.values (insert s.blocks.values a.pool x) s.given) c.deallocate.ensures
    ∙ freed_seen s.objects.values s.blocks.values s.given c.self.invariant a.pool a.address.0 b there vacant
    ∙ ap (λ v. store.give_block a.pool a.address.0 v) c.self.view_is
    ∙ sym (ap (λ t. let r : Store = (if t then store.give_block a.pool a.address.0 c.args.self.now else c.args.self.now) in r) (sym c.is_vacant.ensures ∙ c.if-not-is_vacant.false))
