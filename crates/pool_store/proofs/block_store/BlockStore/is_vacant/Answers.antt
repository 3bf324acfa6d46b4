use Rattle.std.proofs.Common.{Some, None, sym, ap, ◌∙◌}
use Rattle.pool_store.specs.Store as store
use Rattle.pool_store.specs.Store.{Store}
use Rattle.pool_store.proofs.Areas.{vacant_in}
use Rattle.pool_store.proofs.block_store.BlockStore.is_vacant.Goals as goal

pub returns-in-Some : goal.returns-in-Some
returns-in-Some g c =
    let a = c.args in
    c.is_vacant.ensures ∙ sym (vacant_in c.self.inside.blocks.values a.pool a.address (Some c.in-Some.area.now) (sym c.in-Some.ensures)) ∙ ap (λ v. store.is_vacant_in a.pool a.address v) c.self.view_is

pub returns-in-None : goal.returns-in-None
returns-in-None g c =
    let a = c.args in
    sym (vacant_in c.self.inside.blocks.values a.pool a.address None (sym c.in-None.ensures)) ∙ ap (λ v. store.is_vacant_in a.pool a.address v) c.self.view_is
