use Rattle.std.proofs.Common.{◌+◌, length, List, sym, ap, subst, ◌∙◌}
use Rattle.std.specs.Prelude.{nat_eq}
use Rattle.pool_area.specs.declared.subpool.Subpool.{Subpool}
use Rattle.pool_area.specs.Rows.{NoneHas, IsFirst}
use Rattle.pool_area.specs.Subpools.{is_last}
use Rattle.pool_area.proofs.SubpoolViews.{last_at, last_none}
use Rattle.pool_area.proofs.mark_area.MarkArea.is_last.Goals as goal

pub returns-in-Some : goal.returns-in-Some
returns-in-Some g c =
    let s = c.self.inside in
    let first : IsFirst c.args.number c.in-Some.place s.subpools.items = subst (IsFirst c.args.number c.in-Some.place) c.as_slice-subpools.ensures.value c.in-Some.ensures in
    ap (λ (l : List (Subpool g.row.A.Denot)). nat_eq (c.in-Some.place + 1) (length l)) c.as_slice-subpools.ensures.value ∙ last_at c.args.number c.in-Some.place s.subpools.items first ∙ ap (λ v. is_last c.args.number v.subpools) c.self.view_is

pub returns-in-None : goal.returns-in-None
returns-in-None g c =
    let s = c.self.inside in
    let none : NoneHas c.args.number s.subpools.items = subst (NoneHas c.args.number) c.as_slice-subpools.ensures.value c.in-None.ensures in
    sym (last_none c.args.number s.subpools.items none) ∙ ap (λ v. is_last c.args.number v.subpools) c.self.view_is
