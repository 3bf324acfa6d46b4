use Rattle.std.proofs.Common.{sym, ap, ◌∙◌}
use Rattle.std.specs.Prelude.{is_some}
use Rattle.std.specs.FinMap.{get}
use Rattle.number_map.proofs.Mapped.{get_mapped}
use Rattle.pool_store.specs.Cells.{stored_at}
use Rattle.pool_store.proofs.Held.{held_map}
use Rattle.pool_store.proofs.mark_store.MarkStore.is_held.Goals as goal

pub returns : goal.returns
returns g c =
    let s = c.self.inside in
    c.contains.ensures ∙ sym (ap is_some (get_mapped (stored_at s.pools.values) s.cells.values c.args.object) ∙ held_map (stored_at s.pools.values) (get s.cells.values c.args.object))
    ∙ ap (λ v. is_some (get v.objects c.args.object)) c.self.view_is
