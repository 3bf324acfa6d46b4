use Rattle.std.proofs.Common.{Some, None, sym, ap, ◌∙◌}
use Rattle.std.specs.Prelude.{nat_le, ◌&&◌}
use Rattle.pool_store.specs.Store as store
use Rattle.pool_store.specs.Store.{Store}
use Rattle.pool_store.proofs.Areas.{fit_in}
use Rattle.pool_store.proofs.block_store.BlockStore.is_fit.Goals as goal

pub returns-then-is_vacant : goal.returns-then-is_vacant
returns-then-is_vacant g c =
    let a = c.args in
    c.has.ensures ∙ sym (ap (λ t. t && nat_le a.units c.in-Some.area.now.size) (sym c.is_vacant.ensures ∙ c.if-is_vacant.true))
    ∙ sym (fit_in c.self.inside.blocks.values a.pool a.address a.units (Some c.in-Some.area.now) (sym c.in-Some.ensures)) ∙ ap (λ v. store.is_fit_in a.pool a.address a.units v) c.self.view_is

pub returns-else-is_vacant : goal.returns-else-is_vacant
returns-else-is_vacant g c =
    let a = c.args in
    c.if-is_vacant.false ∙ sym (ap (λ t. t && nat_le a.units c.in-Some.area.now.size) (sym c.is_vacant.ensures ∙ c.if-is_vacant.false))
    ∙ sym (fit_in c.self.inside.blocks.values a.pool a.address a.units (Some c.in-Some.area.now) (sym c.in-Some.ensures)) ∙ ap (λ v. store.is_fit_in a.pool a.address a.units v) c.self.view_is

pub returns-in-None : goal.returns-in-None
returns-in-None g c =
    let a = c.args in
    sym (fit_in c.self.inside.blocks.values a.pool a.address a.units None (sym c.in-None.ensures)) ∙ ap (λ v. store.is_fit_in a.pool a.address a.units v) c.self.view_is
