use Rattle.std.proofs.Common.{◌≡◌, Option, Some, None, sym, ap, ◌∙◌}
use Rattle.std.specs.Option.{option_map, option_map_or}
use Rattle.pool_area.specs.declared.lot.Lot.{Lot}
use Rattle.pool_area.specs.Lots.{held_in}
use Rattle.pool_area.specs.Rows.{lot_of}
use Rattle.pool_area.specs.Subpools.{object_of}
use Rattle.pool_area.proofs.SubpoolViews.{object_here}
use Rattle.pool_area.proofs.mark_area.MarkArea.object.Goals as goal

pub returns-in-Some : goal.returns-in-Some
returns-in-Some g c =
    let s = c.self.inside in
    let a = c.args in
    let lot : Lot = c.in-Some.lot.now in
    let at : lot_of a.number a.index s.subpools.items ≡ Some lot = ap (lot_of a.number a.index) (sym c.as_slice.ensures.value) ∙ sym c.in-Some.ensures in
    c.object.ensures ∙ sym (object_here a.number a.index s.subpools.items ∙ ap (λ (o : Option Lot). option_map_or (λ l. option_map (λ x. x.object) (held_in l)) o None) at) ∙ ap (object_of a.number a.index) c.self.view_is

pub returns-in-None : goal.returns-in-None
returns-in-None g c =
    let s = c.self.inside in
    let a = c.args in
    let at : lot_of a.number a.index s.subpools.items ≡ None = ap (lot_of a.number a.index) (sym c.as_slice.ensures.value) ∙ sym c.in-None.ensures in
    sym (object_here a.number a.index s.subpools.items ∙ ap (λ (o : Option Lot). option_map_or (λ l. option_map (λ x. x.object) (held_in l)) o None) at) ∙ ap (object_of a.number a.index) c.self.view_is
