use Rattle.std.proofs.Common.{false, sym, ap, ◌∙◌}
use Rattle.std.specs.Option.{option_map_or}
use Rattle.std.specs.FinMap.{get}
use Rattle.pool_store.specs.Marks as marks
use Rattle.pool_store.proofs.MarkViews.{belongs_seen}
use Rattle.pool_store.proofs.MarkSteps.{mark_here, no_mark_here}
use Rattle.pool_store.proofs.mark_store.MarkStore.belongs.Goals as goal

pub returns-in-Some : goal.returns-in-Some
returns-in-Some g c =
    let a = c.args in
    c.is_attached.ensures ∙ ap (λ s. option_map_or marks.is_belonging s false) c.standing.ensures ∙ sym (belongs_seen a.subpool c.in-Some.area.now)
    ∙ sym (ap (λ o. option_map_or (marks.belongs a.subpool) o false) (mark_here c.self.inside.pools.values a.pool c.in-Some.area.now (sym c.in-Some.ensures)))
    ∙ ap (λ v. option_map_or (marks.belongs a.subpool) (get v.marks a.pool) false) c.self.view_is

pub returns-in-None : goal.returns-in-None
returns-in-None g c =
    let a = c.args in
    sym (ap (λ o. option_map_or (marks.belongs a.subpool) o false) (no_mark_here c.self.inside.pools.values a.pool (sym c.in-None.ensures)))
    ∙ ap (λ v. option_map_or (marks.belongs a.subpool) (get v.marks a.pool) false) c.self.view_is
