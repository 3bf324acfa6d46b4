use Rattle.std.proofs.Common.{◌+◌, ap, sym, ◌∙◌, drop, get_or}
use Rattle.std.proofs.lemmas.List.{drop_all, get_or_default}
use Rattle.ctl_layout.specs.Layout.{gathers_code}
use Rattle.ctl_layout.proofs.Turns.{turn_of}
use Rattle.ctl_emitter.specs.Emitted.{lined}
use Rattle.ctl_emit.proofs.EmittedStatements.{next_gather, no_gather}
use Rattle.ctl_emit.proofs.emit_statements.gathers.Goals as goal

pub loop-index-preserved : goal.loop-index-preserved
loop-index-preserved c =
    let all = c.args.accesses.now in
    let i = c.loop-index.index in
    let e0 = c.loop-index.emitter in
    let a = get_or all i 0 in
    next_gather a (drop (i + 1) all) i c.layer_of-count.result e0 c.put.new.self c.layer_of-count.ensures c.in_ok-put.ensures
    ∙ turn_of (λ xs. lined (gathers_code xs i) e0) all i a c.loop-index-test.true (get_or_default all i 0 a c.loop-index-test.true)
    ∙ c.loop-index.invariant

pub returns : goal.returns
returns c =
    no_gather c.loop-index.index c.loop-index.emitter
    ∙ ap (λ xs. lined (gathers_code xs c.loop-index.index) c.loop-index.emitter) (sym (drop_all c.loop-index.index c.args.accesses.now c.loop-index-test.false))
    ∙ c.loop-index.invariant
