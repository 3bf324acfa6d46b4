use Rattle.std.proofs.Common.{◌≡◌, ◌+◌, ◌++◌, ◌<◌, ◌≤◌, [], drop, length, get_or, sym, ap, ◌∙◌, subst}
use Rattle.std.proofs.lemmas.List.{drop_all}
use Rattle.ctl_layout.specs.Defaults.{begun_before}
use Rattle.ctl_layout.proofs.Turns.{turn_of}
use Rattle.ctl_gen.proofs.Layouts.{Grows, grown, grows_more, grows_none}
use Rattle.ctl_gen.proofs.generate.components_of.Goals as goal

pub loop-component-init : goal.loop-component-init
loop-component-init c = λ y more.
    let x = c.in_ok-layout.ensures in
    grown c.args.layouts.now c.args.entry.now c.in_ok-layout.layout y x.level x.cells x.content x.offsets x.begun more

pub loop-component-preserved : goal.loop-component-preserved
loop-component-preserved c = λ y more.
    let layouts = c.args.layouts.now in
    let own = c.args.entry.now.own in
    let i = c.loop-component.component-index in
    let x = c.loop-component.layout in
    let item = c.component-item.result in
    let z = c.add_component.new.layout in
    let items = c.as_slice-component-items.ensures in
    let within = subst (λ xs. i < length xs) items c.loop-component-test.true in
    let is = subst (λ xs. item ≡ get_or xs i item) items c.component-item.is in
    let e = c.in_ok-add_component.ensures in
    let cells = e.cells ∙ ap (λ n. x.cells + n) c.cells_by-cells.ensures in
    let content = e.content ∙ ap (λ n. x.content + n) c.units_by-units.ensures in
    let begun = e.begun ∙ ap (λ o. x.begun.items ++ begun_before (length x.offsets.items + 1) x.cells o []) c.initial_of-initial.ensures in
    c.loop-component.invariant y
    (subst (λ cs. Grows layouts x cs y) (turn_of (λ cs. cs) own i item within is)
    (grows_more layouts x z item (drop (i + 1) own) y e.level cells content e.offsets begun more))

pub returns : goal.returns
returns c =
    let own = c.args.entry.now.own in
    let i = c.loop-component.component-index in
    let x = c.loop-component.layout in
    let rest : drop i own ≡ [] = drop_all i own (subst (λ xs. length xs ≤ i) c.as_slice-component-items.ensures c.loop-component-test.false) in
    let is = c.loop-component.invariant x (subst (λ cs. Grows c.args.layouts.now x cs x) (sym rest) (grows_none c.args.layouts.now x)) in
    record { level = is.level; cells = is.cells; content = is.content; offsets = is.offsets; begun = is.begun }
