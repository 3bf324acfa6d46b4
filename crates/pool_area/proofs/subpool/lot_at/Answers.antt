use Rattle.std.proofs.Common.{◌≡◌, get_or, List, Some, sym, ap, ◌∙◌}
use Rattle.std.specs.Prelude.{slice_get}
use Rattle.std.proofs.lemmas.Option.{slice_get-get_or}
use Rattle.pool_area.specs.declared.lot.Lot.{Lot}
use Rattle.pool_area.specs.declared.subpool.Subpool.{Subpool}
use Rattle.pool_area.specs.Rows.{IsFirst}
use Rattle.pool_area.proofs.RowLemmas.{lot_here, no_lot_here}
use Rattle.pool_area.proofs.subpool.lot_at.Goals as goal

pub returns-in-Some : goal.returns-in-Some
returns-in-Some g c =
    let rows : List (Subpool g.row.A.Denot) = c.args.subpools.now in
    let first : IsFirst c.args.number c.in-Some.place rows = c.in-Some.ensures in
    let r : Subpool g.row.A.Denot = get_or rows c.in-Some.place c.index-subpools-place.result in
    let there : slice_get rows c.in-Some.place ≡ Some r = slice_get-get_or rows c.in-Some.place c.index-subpools-place.result first.0 in
    c.lot_in.ensures ∙ ap (λ (l : List Lot). slice_get l c.args.index) c.as_slice.ensures.value ∙ sym (lot_here c.args.number c.in-Some.place c.args.index rows r first there)

pub returns-in-None : goal.returns-in-None
returns-in-None g c = sym (no_lot_here c.args.number c.args.index c.args.subpools.now c.in-None.ensures)
