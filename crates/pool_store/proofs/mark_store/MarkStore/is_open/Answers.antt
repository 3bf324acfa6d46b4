use Rattle.std.proofs.Common.{sym, ap, ◌∙◌}
use Rattle.std.specs.Prelude.{is_some}
use Rattle.std.specs.FinMap.{get}
use Rattle.number_map.proofs.Mapped.{get_mapped}
use Rattle.pool_store.specs.Cells.{mark_of}
use Rattle.pool_store.proofs.Held.{held_map}
use Rattle.pool_store.proofs.mark_store.MarkStore.is_open.Goals as goal

pub returns : goal.returns
returns g c =
    let s = c.self.inside in
    c.contains.ensures ∙ sym (ap is_some (get_mapped mark_of s.pools.values c.args.pool) ∙ held_map mark_of (get s.pools.values c.args.pool))
    ∙ ap (λ v. is_some (get v.marks c.args.pool)) c.self.view_is
