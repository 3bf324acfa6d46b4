use Rattle.std.proofs.Common.{◌≡◌, ◌∷◌, ◌++◌, ◌∙◌, List, [], ap, arith, length, refl, reverse, sym}
use Rattle.std.proofs.lemmas.List.{reverse-append}
use Rattle.ctl_meaning.specs.Finalization.{Spot}
use Rattle.ctl_code.specs.Table.{controlled_of}
use Rattle.ctl_frames.specs.declared.frame.Frame.{Frame}
use Rattle.ctl_frames.specs.declared.frame.Frame.TheVariants.{UndoingParts}
use Rattle.ctl_engine.specs.Finishing.{with_frames}
use Rattle.ctl_engine.specs.Shows.{kept}
use Rattle.ctl_lifetimes.specs.Undoing.{among, has_any_of, noted_from}
use Rattle.ctl_lifetimes.proofs.Undone.{none_undone, some_undone}
use Rattle.ctl_lifetimes.proofs.undoing.undo_components.Goals as goal

pub returns-then-count-eq0 : goal.returns-then-count-eq0
returns-then-count-eq0 g c =
    let code = c.args.code.now in
    let n = c.count_controlled.result in
    let same = ap (λ (s : Spot). length (among (controlled_of code c.args.record) 0 n (has_any_of (noted_from c.args.first c.args.engine.now.noted.items) s))) c.requires.1.1.1 in
    none_undone code c.args.engine.now _ c.args.record c.args.first n g.t c.requires.0 c.requires.1.0 c.count_controlled.ensures.count (sym same ∙ (sym c.count_undone-count.ensures ∙ c.if-count-eq0.true)) refl refl refl refl

pub returns : goal.returns
returns g c =
    let code = c.args.code.now in
    let old = c.args.engine.now in
    let t = g.t in
    let all = controlled_of code c.args.record in
    let n = c.count_controlled.result in
    let same = ap (λ (s : Spot). length (among all 0 n (has_any_of (noted_from c.args.first old.noted.items) s))) c.requires.1.1.1 in
    let many = c.count_undone-count.ensures ∙ same in
    let differs = c.if-count-eq0.false in
    let frame = UndoingParts c.args.record (record { first = 0; last = n }) c.count_undone-count.result c.args.first in
    let fs = frame ∷ reverse old.control.items in
    let control : reverse c.push_reserved.new.self.items ≡ fs = ap (λ (l : List Frame). reverse l) c.push_reserved.ensures.items ∙ reverse-append old.control.items (frame ∷ []) in
    let spots : c.push_reserved-2.new.self.items ≡ old.spots.items ++ t.spot ∷ [] = c.push_reserved-2.ensures.items ∙ ap (λ (s : Spot). old.spots.items ++ s ∷ []) c.requires.1.1.1 in
    some_undone code old _ c.args.record c.count_undone-count.result c.args.first n t c.requires.0 c.requires.1.0 c.count_controlled.ensures.count many (omega (arith, differs))
    (ap (λ (l : List Frame). with_frames l c.push_reserved-2.new.self.items (kept old)) control ∙ ap (λ (l : List Spot). with_frames fs l (kept old)) spots) refl refl refl
