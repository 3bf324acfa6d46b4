use Rattle.std.proofs.Common.{◌+◌, ap, sym, ◌∙◌, drop, map}
use Rattle.std.proofs.lemmas.List.{drop_all}
use Rattle.ctl_emitter.specs.Emitted.{lined}
use Rattle.ctl_layout.specs.Layout.{all_items, item_code}
use Rattle.ctl_layout.proofs.Turns.{turn_of}
use Rattle.ctl_emit.proofs.EmittedStatements.{next_item, no_item}
use Rattle.ctl_emit.proofs.emit_statements.items.Goals as goal

pub loop-one-preserved : goal.loop-one-preserved
loop-one-preserved c =
    let all = c.args.items.now in
    let i = c.loop-one.one-index in
    let x = c.one-item.result in
    next_item (item_code x) (map item_code (drop (i + 1) all)) c.loop-one.emitter c.item.new.emitter c.in_ok-item.ensures
    ∙ turn_of (λ xs. lined (all_items (map item_code xs)).code c.loop-one.emitter) all i x c.loop-one-test.true c.one-item.is
    ∙ c.loop-one.invariant

pub returns : goal.returns
returns c =
    no_item c.loop-one.emitter
    ∙ ap (λ xs. lined (all_items (map item_code xs)).code c.loop-one.emitter) (sym (drop_all c.loop-one.one-index c.args.items.now c.loop-one-test.false))
    ∙ c.loop-one.invariant
