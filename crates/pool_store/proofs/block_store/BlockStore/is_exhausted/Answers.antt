use Rattle.std.proofs.Common.{false, sym, ap, ◌∙◌}
use Rattle.std.specs.Option.{option_map_or}
use Rattle.pool_store.specs.Store as store
use Rattle.pool_store.specs.Store.{Store}
use Rattle.pool_store.proofs.Areas.{pool_here, no_pool_here}
use Rattle.pool_store.proofs.block_store.BlockStore.is_exhausted.Goals as goal

pub returns-in-Some : goal.returns-in-Some
returns-in-Some g c =
    let a = c.args in
    c.is_exhausted.ensures ∙ sym (ap (λ o. option_map_or (store.is_exhausted a.units) o false) (pool_here c.self.inside.blocks.values a.pool c.in-Some.area.now (sym c.in-Some.ensures)))
    ∙ ap (λ v. store.is_exhausted_in a.pool a.units v) c.self.view_is

pub returns-in-None : goal.returns-in-None
returns-in-None g c =
    let a = c.args in
    sym (ap (λ o. option_map_or (store.is_exhausted a.units) o false) (no_pool_here c.self.inside.blocks.values a.pool (sym c.in-None.ensures)))
    ∙ ap (λ v. store.is_exhausted_in a.pool a.units v) c.self.view_is
