use Rattle.std.proofs.Common.{◌≡◌, length, List, Some, refl, sym, ap, subst, ◌∙◌}
use Rattle.std.specs.Prelude.{slice_get}
use Rattle.std.specs.Option.{option_map_or}
use Rattle.std.proofs.lemmas.List.{length-map}
use Rattle.pool_area.specs.declared.subpool.Subpool.{Subpool}
use Rattle.pool_area.specs.Lots.{held_in}
use Rattle.pool_area.specs.Rows.{NoneHas, IsFirst}
use Rattle.pool_area.specs.Subpools.{Seen, count_of}
use Rattle.pool_area.proofs.SubpoolViews.{seen_at, none_seen}
use Rattle.std.proofs.lemmas.Option.{slice_get_read}
use Rattle.pool_area.proofs.mark_area.MarkArea.count.Goals as goal

pub returns-in-Some : goal.returns-in-Some
returns-in-Some g c =
    let s = c.self.inside in
    let rows : List (Subpool g.row.A.Denot) = s.subpools.items in
    let n = c.args.number in
    let first : IsFirst n c.in-Some.place rows = subst (IsFirst n c.in-Some.place) c.as_slice.ensures.value c.in-Some.ensures in
    let r : Subpool g.row.A.Denot = c.index.result.now in
    let there : slice_get rows c.in-Some.place ≡ Some r = slice_get_read rows (length rows) c.in-Some.place r refl first.0 c.index.ensures in
    let seen = seen_at n c.in-Some.place rows r first there in
    c.len.ensures ∙ r.lots.ok.0 ∙ sym (ap (λ o. option_map_or (λ (x : Seen). length x.blocks) o 0) seen ∙ length-map r.lots.items held_in) ∙ ap (count_of n) c.self.view_is

pub returns-in-None : goal.returns-in-None
returns-in-None g c =
    let s = c.self.inside in
    let n = c.args.number in
    let none : NoneHas n s.subpools.items = subst (NoneHas n) c.as_slice.ensures.value c.in-None.ensures in
    let seen = none_seen n s.subpools.items none in
    sym (ap (λ o. option_map_or (λ (x : Seen). length x.blocks) o 0) seen) ∙ ap (count_of n) c.self.view_is
