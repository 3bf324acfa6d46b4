use Rattle.std.proofs.Common.{Option, None, ap, ◌∙◌, vec_capacity}
use Rattle.pool_area.specs.Lots.{Held}
use Rattle.pool_area.specs.Subpools.{with_block}
use Rattle.pool_area.proofs.StandsLemmas.{stands_edited}
use Rattle.pool_area.proofs.SubpoolViews.{edited_view}
use Rattle.pool_area.proofs.mark_area.MarkArea.vacate.Goals as goal

pub invariant_of-self : goal.invariant_of-self
invariant_of-self g c =
    let s = c.self.inside in
    stands_edited s.pool s.size s.given (vec_capacity s.subpools) (vec_capacity c.vacate_at.new.subpools) c.args.number c.args.index (λ (h : Option Held). None) s.subpools.items c.vacate_at.new.subpools.items c.self.invariant c.vacate_at.ensures.edited c.vacate_at.ensures.room

pub returns : goal.returns
returns g c =
    let s = c.self.inside in
    let f : Option Held → Option Held = λ h. None in
    edited_view s.size s.pool.used s.given c.args.number c.args.index f s.subpools.items c.vacate_at.new.subpools.items c.vacate_at.ensures.edited ∙ ap (λ v. with_block c.args.number c.args.index f v) c.self.view_is
