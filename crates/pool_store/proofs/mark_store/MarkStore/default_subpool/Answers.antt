use Rattle.std.proofs.Common.{None, sym, ap, subst, ◌∙◌}
use Rattle.std.specs.Prelude.{IsSome, option_and_then}
use Rattle.std.specs.FinMap.{get}
use Rattle.pool_store.specs.Marks as marks
use Rattle.pool_store.specs.Marks.{MarkPool}
use Rattle.pool_store.proofs.MarkSteps.{mark_here, no_mark_here}
use Rattle.pool_store.proofs.MarkViews.{default_seen}
use Rattle.pool_store.proofs.mark_store.MarkStore.default_subpool.Goals as goal

pub unreachable-requires : goal.unreachable-requires
unreachable-requires g c =
    let none = no_mark_here c.self.inside.pools.values c.args.pool (sym c.in_default.ensures) in
    let shown : IsSome {T = MarkPool} None = subst IsSome (ap (λ v. get v.marks c.args.pool) (sym c.self.view_is) ∙ none) c.requires in
    absurd (cc)

pub returns : goal.returns
returns g c =
    ap (λ v. option_and_then marks.default_of (get v.marks c.args.pool)) (sym c.self.view_is)
    ∙ ap (option_and_then marks.default_of) (mark_here c.self.inside.pools.values c.args.pool c.in-Some.area.now (sym c.in-Some.ensures))
    ∙ default_seen c.in-Some.area.now ∙ sym c.in-Some-last_number.ensures.value
