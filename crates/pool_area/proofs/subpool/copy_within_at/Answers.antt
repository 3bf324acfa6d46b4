use Rattle.std.proofs.Common.{◌≡◌, ℕ, ◌+◌, ◌<◌, ◌≤◌, length, List, Option, Some, refl, sym, ap, subst, ◌∙◌, arith}
use Rattle.std.specs.Prelude.{slice_get, IfSome}
use Rattle.std.specs.Option.{option_map}
use Rattle.std.proofs.lemmas.Option.{slice_get_read, slice_get_past}
use Rattle.pool_area.specs.declared.lot.Lot.{Lot}
use Rattle.pool_area.specs.declared.subpool.Subpool.{Subpool}
use Rattle.pool_area.specs.Lots.{Held, held_in, IsFilled, with_words_over, run_of}
use Rattle.pool_area.specs.Rows.{NoneHas, IsFirst, lot_of, lot_words}
use Rattle.pool_area.proofs.RowLemmas.{lot_here, no_lot_here, edited_here, edited_missing, not_edited}
use Rattle.pool_area.proofs.subpool.copy_within_at.Goals as goal

pub returns-in_default-clause-edited : goal.returns-in_default-clause-edited
returns-in_default-clause-edited g c =
    let rows : List (Subpool g.row.A.Denot) = c.args.subpools.now.items in
    let none : NoneHas c.args.number rows = subst (NoneHas c.args.number) c.as_slice.ensures.value c.in_default.ensures in
    not_edited c.args.number c.args.index (λ (h : Option Held). option_map (with_words_over c.args.to (run_of c.args.from c.args.count (lot_words (lot_of c.args.number c.args.index rows)))) h) rows (no_lot_here c.args.number c.args.index rows none)

pub returns-then-index-len-clause-edited : goal.returns-then-index-len-clause-edited
returns-then-index-len-clause-edited g c =
    let rows : List (Subpool g.row.A.Denot) = c.args.subpools.now.items in
    let first : IsFirst c.args.number c.in-Some.row rows = subst (IsFirst c.args.number c.in-Some.row) c.as_slice.ensures.value c.in-Some.ensures in
    let r : Subpool g.row.A.Denot = c.index_mut.result.now in
    let lot : Lot = c.index_mut-then-index-len.result.now in
    let there : slice_get rows c.in-Some.row ≡ Some r = slice_get_read rows (length rows) c.in-Some.row r refl first.0 c.index_mut.ensures.value in
    let within : c.args.index < length r.lots.items = omega (arith, r.lots.ok.0) in
    let at : slice_get r.lots.items c.args.index ≡ Some lot = slice_get_read r.lots.items (length r.lots.items) c.args.index lot refl within c.index_mut-then-index-len.ensures.value in
    edited_here c.args.number c.in-Some.row c.args.index (λ (h : Option Held). option_map (with_words_over c.args.to (run_of c.args.from c.args.count (lot_words (lot_of c.args.number c.args.index rows)))) h) rows _ r lot c.copy_within.new.self first there at c.copy_within.ensures.block c.copy_within.ensures.filled (c.copy_within.ensures.held ∙ ap (λ (ws : List ℕ). option_map (with_words_over c.args.to (run_of c.args.from c.args.count ws)) (held_in lot)) (sym (ap lot_words (lot_here c.args.number c.in-Some.row c.args.index rows r first there ∙ at)))) refl

pub returns-else-index-len-clause-edited : goal.returns-else-index-len-clause-edited
returns-else-index-len-clause-edited g c =
    let rows : List (Subpool g.row.A.Denot) = c.args.subpools.now.items in
    let first : IsFirst c.args.number c.in-Some.row rows = subst (IsFirst c.args.number c.in-Some.row) c.as_slice.ensures.value c.in-Some.ensures in
    let r : Subpool g.row.A.Denot = c.index_mut.result.now in
    let there : slice_get rows c.in-Some.row ≡ Some r = slice_get_read rows (length rows) c.in-Some.row r refl first.0 c.index_mut.ensures.value in
    let past : length r.lots.items ≤ c.args.index = omega (arith, r.lots.ok.0) in
    edited_missing c.args.number c.in-Some.row c.args.index (λ (h : Option Held). option_map (with_words_over c.args.to (run_of c.args.from c.args.count (lot_words (lot_of c.args.number c.args.index rows)))) h) rows r first there (slice_get_past r.lots.items c.args.index past)

pub copy_within-requires-clause-filled : goal.copy_within-requires-clause-filled
copy_within-requires-clause-filled g c =
    let rows : List (Subpool g.row.A.Denot) = c.args.subpools.now.items in
    let first : IsFirst c.args.number c.in-Some.row rows = subst (IsFirst c.args.number c.in-Some.row) c.as_slice.ensures.value c.in-Some.ensures in
    let r : Subpool g.row.A.Denot = c.index_mut.result.now in
    let lot : Lot = c.index_mut-then-index-len.result.now in
    let there : slice_get rows c.in-Some.row ≡ Some r = slice_get_read rows (length rows) c.in-Some.row r refl first.0 c.index_mut.ensures.value in
    let within : c.args.index < length r.lots.items = omega (arith, r.lots.ok.0) in
    let at : slice_get r.lots.items c.args.index ≡ Some lot = slice_get_read r.lots.items (length r.lots.items) c.args.index lot refl within c.index_mut-then-index-len.ensures.value in
    let here : lot_of c.args.number c.args.index rows ≡ Some lot = lot_here c.args.number c.in-Some.row c.args.index rows r first there ∙ at in
    subst (λ (o : Option Lot). IfSome o IsFilled) here (c.requires.filled c.args.number c.args.index)

pub copy_within-requires-clause-from : goal.copy_within-requires-clause-from
copy_within-requires-clause-from g c =
    let rows : List (Subpool g.row.A.Denot) = c.args.subpools.now.items in
    let first : IsFirst c.args.number c.in-Some.row rows = subst (IsFirst c.args.number c.in-Some.row) c.as_slice.ensures.value c.in-Some.ensures in
    let r : Subpool g.row.A.Denot = c.index_mut.result.now in
    let lot : Lot = c.index_mut-then-index-len.result.now in
    let there : slice_get rows c.in-Some.row ≡ Some r = slice_get_read rows (length rows) c.in-Some.row r refl first.0 c.index_mut.ensures.value in
    let within : c.args.index < length r.lots.items = omega (arith, r.lots.ok.0) in
    let at : slice_get r.lots.items c.args.index ≡ Some lot = slice_get_read r.lots.items (length r.lots.items) c.args.index lot refl within c.index_mut-then-index-len.ensures.value in
    let here : lot_of c.args.number c.args.index rows ≡ Some lot = lot_here c.args.number c.in-Some.row c.args.index rows r first there ∙ at in
    subst (λ (o : Option Lot). c.args.from + c.args.count ≤ length (lot_words o)) here c.requires.from

pub copy_within-requires-clause-to : goal.copy_within-requires-clause-to
copy_within-requires-clause-to g c =
    let rows : List (Subpool g.row.A.Denot) = c.args.subpools.now.items in
    let first : IsFirst c.args.number c.in-Some.row rows = subst (IsFirst c.args.number c.in-Some.row) c.as_slice.ensures.value c.in-Some.ensures in
    let r : Subpool g.row.A.Denot = c.index_mut.result.now in
    let lot : Lot = c.index_mut-then-index-len.result.now in
    let there : slice_get rows c.in-Some.row ≡ Some r = slice_get_read rows (length rows) c.in-Some.row r refl first.0 c.index_mut.ensures.value in
    let within : c.args.index < length r.lots.items = omega (arith, r.lots.ok.0) in
    let at : slice_get r.lots.items c.args.index ≡ Some lot = slice_get_read r.lots.items (length r.lots.items) c.args.index lot refl within c.index_mut-then-index-len.ensures.value in
    let here : lot_of c.args.number c.args.index rows ≡ Some lot = lot_here c.args.number c.in-Some.row c.args.index rows r first there ∙ at in
    subst (λ (o : Option Lot). c.args.to + c.args.count ≤ length (lot_words o)) here c.requires.to
