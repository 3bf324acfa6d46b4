use Rattle.std.proofs.Common.{◌/◌, ◌≤◌, Some, None, sym, ap, subst, ◌∙◌, arith}
use Rattle.std.specs.Prelude.{nat_le}
use Rattle.std.specs.FinMap.{get, insert}
use Rattle.pool_area.specs.Blocks as area
use Rattle.pool_area.specs.Blocks.{Blocks}
use Rattle.pool_store.specs.declared.entry.Entry.{Entry}
use Rattle.pool_store.specs.declared.entry.Entry.TheVariants.{InBlock}
use Rattle.pool_store.specs.Entries.{stored_in, Ties}
use Rattle.pool_store.specs.Store as store
use Rattle.pool_store.specs.Store.{Store}
use Rattle.pool_store.proofs.Areas.{vacant_lot, fit_in, both, fits_of}
use Rattle.pool_store.proofs.Steps.{seen, filled_ties, filled_seen}
use Rattle.number_map.proofs.Mapped.{unmapped}
use Rattle.pool_store.proofs.block_store.BlockStore.occupy.Goals as goal

pub unreachable-requires : goal.unreachable-requires
unreachable-requires g c =
    let a = c.args in
    let none = fit_in c.self.inside.blocks.values a.pool a.address.0 a.units None (sym c.in_default.ensures.value) in
    let is = ap (λ v. store.is_fit_in a.pool a.address.0 a.units v) c.self.view_is ∙ sym c.is_fit.ensures ∙ c.if-not-is_fit.false in
    absurd (cc (none, is))

pub occupy-requires : goal.occupy-requires
occupy-requires g c =
    let a = c.args in
    let b = c.in-Some.area.now in
    let is = sym (fit_in c.self.inside.blocks.values a.pool a.address.0 a.units (Some b) (sym c.in-Some.ensures.value))
    ∙ ap (λ v. store.is_fit_in a.pool a.address.0 a.units v) c.self.view_is ∙ sym c.is_fit.ensures ∙ c.if-not-is_fit.false in
    let parts = both (area.is_vacant a.address.0 b) (nat_le a.units b.size) is in
    let fits : a.units ≤ b.size = fits_of a.units b.size parts.1 in
    record { vacant = parts.0; fits = omega arith }

pub invariant_of-self-2 : goal.invariant_of-self-2
invariant_of-self-2 g c =
    let s = c.self.inside in
    let a = c.args in
    let b = c.in-Some.area.now in
    let there = sym c.in-Some.ensures.value in
    let vacant = vacant_lot b a.address.0 (both (area.is_vacant a.address.0 b) (nat_le a.units b.size) (sym (fit_in s.blocks.values a.pool a.address.0 a.units (Some b) there)
    ∙ ap (λ v. store.is_fit_in a.pool a.address.0 a.units v) c.self.view_is ∙ sym c.is_fit.ensures ∙ c.if-not-is_fit.false)).0 in
    let entry : Entry g.row.A.Denot = InBlock (record { pool = a.pool; address = a.address.0 }) in
    let put = c.put_new.ensures.values ∙ ap (λ t. insert t a.object entry) c.reserve.ensures.values in
    subst (λ o. Ties o (insert s.blocks.values a.pool c.occupy.new.self) s.given) (sym put)
    (subst (λ d. Ties (insert s.objects.values a.object entry) (insert s.blocks.values a.pool d) s.given) (sym c.occupy.ensures)
    (filled_ties s.objects.values s.blocks.values s.given c.self.invariant a.pool a.address.0 a.object (a.units / 8) b there vacant))

pub returns-clause-ok : goal.returns-clause-ok
returns-clause-ok g c =
    let s = c.self.inside in
    let a = c.args in
    let b = c.in-Some.area.now in
    let there = sym c.in-Some.ensures.value in
    let vacant = vacant_lot b a.address.0 (both (area.is_vacant a.address.0 b) (nat_le a.units b.size) (sym (fit_in s.blocks.values a.pool a.address.0 a.units (Some b) there)
    ∙ ap (λ v. store.is_fit_in a.pool a.address.0 a.units v) c.self.view_is ∙ sym c.is_fit.ensures ∙ c.if-not-is_fit.false)).0 in
    let entry : Entry g.row.A.Denot = InBlock (record { pool = a.pool; address = a.address.0 }) in
    let put = c.put_new.ensures.values ∙ ap (λ t. insert t a.object entry) c.reserve.ensures.values in (
      sym c.is_fit.ensures ∙ c.if-not-is_fit.false,
      ap (λ o. seen o (insert s.blocks.values a.pool c.occupy.new.self) s.given) put
          ∙ ap (λ d. seen (insert s.objects.values a.object entry) (insert s.blocks.values a.pool d) s.given) c.occupy.ensures
          ∙ filled_seen s.objects.values s.blocks.values s.given c.self.invariant a.pool a.address.0 a.object (a.units / 8) b there vacant
          ∙ ap (store.hold_block a.pool a.address.0 a.object (a.units / 8)) c.self.view_is,
    )

pub put_new-requires-clause-new : goal.put_new-requires-clause-new
put_new-requires-clause-new g c =
    let s = c.self.inside in
    let n = c.args.object in
    ap (λ t. get t n) c.reserve.ensures.values ∙ unmapped (stored_in s.blocks.values) s.objects.values n (ap (λ (v : Store). get v.objects n) c.self.view_is ∙ c.requires)
