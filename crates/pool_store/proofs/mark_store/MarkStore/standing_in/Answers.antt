use Rattle.std.proofs.Common.{sym, ap, ◌∙◌}
use Rattle.std.specs.Prelude.{option_and_then}
use Rattle.std.specs.FinMap.{get}
use Rattle.pool_store.specs.Marks as marks
use Rattle.pool_store.proofs.MarkSteps.{mark_here, no_mark_here}
use Rattle.pool_store.proofs.MarkViews.{standing_seen}
use Rattle.pool_store.proofs.mark_store.MarkStore.standing_in.Goals as goal

pub returns-in-Some : goal.returns-in-Some
returns-in-Some g c =
    let a = c.args in
    c.standing.ensures ∙ sym (standing_seen a.subpool c.in-Some.area.now)
    ∙ sym (ap (option_and_then (marks.standing_in a.subpool)) (mark_here c.self.inside.pools.values a.pool c.in-Some.area.now (sym c.in-Some.ensures)))
    ∙ ap (λ v. option_and_then (marks.standing_in a.subpool) (get v.marks a.pool)) c.self.view_is

pub returns-in-None : goal.returns-in-None
returns-in-None g c =
    let a = c.args in
    sym (ap (option_and_then (marks.standing_in a.subpool)) (no_mark_here c.self.inside.pools.values a.pool (sym c.in-None.ensures)))
    ∙ ap (λ v. option_and_then (marks.standing_in a.subpool) (get v.marks a.pool)) c.self.view_is
