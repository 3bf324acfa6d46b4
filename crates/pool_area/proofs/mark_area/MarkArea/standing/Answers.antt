use Rattle.std.proofs.Common.{◌≡◌, length, List, Some, refl, sym, ap, subst, ◌∙◌}
use Rattle.std.specs.Prelude.{slice_get}
use Rattle.std.specs.Option.{option_map}
use Rattle.pool_area.specs.declared.subpool.Subpool.{Subpool}
use Rattle.pool_area.specs.Rows.{NoneHas, IsFirst}
use Rattle.pool_area.specs.Subpools.{Seen, standing_of}
use Rattle.pool_area.proofs.SubpoolViews.{seen_at, none_seen}
use Rattle.std.proofs.lemmas.Option.{slice_get_read}
use Rattle.pool_area.proofs.mark_area.MarkArea.standing.Goals as goal

pub returns-in-Some : goal.returns-in-Some
returns-in-Some g c =
    let s = c.self.inside in
    let rows : List (Subpool g.row.A.Denot) = s.subpools.items in
    let n = c.args.number in
    let first : IsFirst n c.in-Some.place rows = subst (IsFirst n c.in-Some.place) c.as_slice.ensures.value c.in-Some.ensures in
    let r : Subpool g.row.A.Denot = c.index.result.now in
    let there : slice_get rows c.in-Some.place ≡ Some r = slice_get_read rows (length rows) c.in-Some.place r refl first.0 c.index.ensures in
    let seen = seen_at n c.in-Some.place rows r first there in
    sym (ap (option_map (λ (x : Seen). x.standing)) seen) ∙ ap (standing_of n) c.self.view_is

pub returns-in-None : goal.returns-in-None
returns-in-None g c =
    let s = c.self.inside in
    let n = c.args.number in
    let none : NoneHas n s.subpools.items = subst (NoneHas n) c.as_slice.ensures.value c.in-None.ensures in
    let seen = none_seen n s.subpools.items none in
    sym (ap (option_map (λ (x : Seen). x.standing)) seen) ∙ ap (standing_of n) c.self.view_is
