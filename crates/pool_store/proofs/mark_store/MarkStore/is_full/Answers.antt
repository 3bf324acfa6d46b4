use Rattle.std.proofs.Common.{Bool, false, length, sym, ap, ◌∙◌}
use Rattle.std.specs.Prelude.{nat_le}
use Rattle.std.specs.Option.{option_map_or}
use Rattle.std.specs.FinMap.{get}
use Rattle.std.proofs.lemmas.List.{length-map}
use Rattle.pool_store.specs.Cells.{bare}
use Rattle.pool_store.specs.Marks.{MarkPool}
use Rattle.pool_store.proofs.MarkSteps.{mark_here, no_mark_here}
use Rattle.pool_store.proofs.mark_store.MarkStore.is_full.Goals as goal

abbrev full : MarkPool → Bool
full m = nat_le 10 (length m.subpools)

pub returns-in-Some : goal.returns-in-Some
returns-in-Some g c =
    let a = c.args in
    let d = c.in-Some.area.now in
    ap (nat_le 10) (c.len.ensures.value ∙ sym (length-map d.subpools bare))
    ∙ sym (ap (λ o. option_map_or full o false) (mark_here c.self.inside.pools.values a.pool d (sym c.in-Some.ensures)))
    ∙ ap (λ v. option_map_or full (get v.marks a.pool) false) c.self.view_is

pub returns-in-None : goal.returns-in-None
returns-in-None g c =
    let a = c.args in
    sym (ap (λ o. option_map_or full o false) (no_mark_here c.self.inside.pools.values a.pool (sym c.in-None.ensures)))
    ∙ ap (λ v. option_map_or full (get v.marks a.pool) false) c.self.view_is
