use Rattle.std.proofs.Common.{◌≡◌, ℕ, ◌<◌, length, List, Option, Some, None, sym, ap, subst, ◌∙◌}
use Rattle.std.specs.Prelude.{slice_index_or, IfSome}
use Rattle.pool_area.specs.declared.lot.Lot.{Lot}
use Rattle.pool_area.specs.Lots.{IsFilled}
use Rattle.pool_area.specs.Rows.{lot_of, lot_words}
use Rattle.pool_area.specs.Subpools.{block_words}
use Rattle.pool_area.proofs.StandsLemmas.{all_filled}
use Rattle.pool_area.proofs.SubpoolViews.{words_here}
use Rattle.pool_area.proofs.mark_area.MarkArea.word.Goals as goal

pub word-requires-clause-filled : goal.word-requires-clause-filled
word-requires-clause-filled g c =
    let s = c.self.inside in
    let a = c.args in
    let lot : Lot = c.in-Some.lot.now in
    let at : lot_of a.number a.index s.subpools.items ≡ Some lot = ap (lot_of a.number a.index) (sym c.as_slice.ensures.value) ∙ sym c.in-Some.ensures in
    subst (λ (o : Option Lot). IfSome o IsFilled) at (all_filled s.pool.home s.subpools.items c.self.invariant.stacked a.number a.index)

pub word-requires-clause-place : goal.word-requires-clause-place
word-requires-clause-place g c =
    let s = c.self.inside in
    let a = c.args in
    let lot : Lot = c.in-Some.lot.now in
    let at : lot_of a.number a.index s.subpools.items ≡ Some lot = ap (lot_of a.number a.index) (sym c.as_slice.ensures.value) ∙ sym c.in-Some.ensures in
    subst (λ (ws : List ℕ). a.place < length ws) (ap (block_words a.number a.index) (sym c.self.view_is) ∙ (words_here a.number a.index s.subpools.items ∙ ap lot_words at)) c.requires

pub returns-in-Some : goal.returns-in-Some
returns-in-Some g c =
    let s = c.self.inside in
    let a = c.args in
    let lot : Lot = c.in-Some.lot.now in
    let at : lot_of a.number a.index s.subpools.items ≡ Some lot = ap (lot_of a.number a.index) (sym c.as_slice.ensures.value) ∙ sym c.in-Some.ensures in
    c.word.ensures ∙ ap (λ (ws : List ℕ). slice_index_or ws a.place 0) (sym (words_here a.number a.index s.subpools.items ∙ ap lot_words at) ∙ ap (block_words a.number a.index) c.self.view_is)

pub returns-in-None : goal.returns-in-None
returns-in-None g c =
    let s = c.self.inside in
    let a = c.args in
    let at : lot_of a.number a.index s.subpools.items ≡ None = ap (lot_of a.number a.index) (sym c.as_slice.ensures.value) ∙ sym c.in-None.ensures in
    ap (λ (ws : List ℕ). slice_index_or ws a.place 0) (sym (words_here a.number a.index s.subpools.items ∙ ap lot_words at) ∙ ap (block_words a.number a.index) c.self.view_is)
