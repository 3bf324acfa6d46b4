use Rattle.std.proofs.Common.{◌≡◌, ◌<◌, ◌≤◌, length, List, Option, Some, None, refl, subst, arith}
use Rattle.std.specs.Prelude.{slice_get}
use Rattle.std.proofs.lemmas.Option.{slice_get_read, slice_get_past}
use Rattle.pool_area.specs.declared.lot.Lot.{Lot}
use Rattle.pool_area.specs.declared.subpool.Subpool.{Subpool}
use Rattle.pool_area.specs.Lots.{Held}
use Rattle.pool_area.specs.Rows.{NoneHas, IsFirst}
use Rattle.pool_area.proofs.RowLemmas.{no_lot_here, edited_here, edited_missing, not_edited}
use Rattle.pool_area.proofs.subpool.vacate_at.Goals as goal

pub returns-in_default-clause-edited : goal.returns-in_default-clause-edited
returns-in_default-clause-edited g c =
    let rows : List (Subpool g.row.A.Denot) = c.args.subpools.now.items in
    let none : NoneHas c.args.number rows = subst (NoneHas c.args.number) c.as_slice.ensures.value c.in_default.ensures in
    not_edited c.args.number c.args.index (λ (h : Option Held). None) rows (no_lot_here c.args.number c.args.index rows none)

pub returns-then-index-len-clause-edited : goal.returns-then-index-len-clause-edited
returns-then-index-len-clause-edited g c =
    let rows : List (Subpool g.row.A.Denot) = c.args.subpools.now.items in
    let first : IsFirst c.args.number c.in-Some.place rows = subst (IsFirst c.args.number c.in-Some.place) c.as_slice.ensures.value c.in-Some.ensures in
    let r : Subpool g.row.A.Denot = c.index_mut.result.now in
    let lot : Lot = c.index_mut-then-index-len.result.now in
    let there : slice_get rows c.in-Some.place ≡ Some r = slice_get_read rows (length rows) c.in-Some.place r refl first.0 c.index_mut.ensures.value in
    let within : c.args.index < length r.lots.items = omega (arith, r.lots.ok.0) in
    let at : slice_get r.lots.items c.args.index ≡ Some lot = slice_get_read r.lots.items (length r.lots.items) c.args.index lot refl within c.index_mut-then-index-len.ensures.value in
    edited_here c.args.number c.in-Some.place c.args.index (λ (h : Option Held). None) rows _ r lot c.vacate.new.self first there at c.vacate.ensures.block c.vacate.ensures.filled c.vacate.ensures.held refl

pub returns-else-index-len-clause-edited : goal.returns-else-index-len-clause-edited
returns-else-index-len-clause-edited g c =
    let rows : List (Subpool g.row.A.Denot) = c.args.subpools.now.items in
    let first : IsFirst c.args.number c.in-Some.place rows = subst (IsFirst c.args.number c.in-Some.place) c.as_slice.ensures.value c.in-Some.ensures in
    let r : Subpool g.row.A.Denot = c.index_mut.result.now in
    let there : slice_get rows c.in-Some.place ≡ Some r = slice_get_read rows (length rows) c.in-Some.place r refl first.0 c.index_mut.ensures.value in
    let past : length r.lots.items ≤ c.args.index = omega (arith, r.lots.ok.0) in
    edited_missing c.args.number c.in-Some.place c.args.index (λ (h : Option Held). None) rows r first there (slice_get_past r.lots.items c.args.index past)
