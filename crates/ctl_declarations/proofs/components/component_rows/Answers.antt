use Rattle.std.proofs.Common.{◌∙◌, ap, sym, drop, ◌+◌}
use Rattle.ctl_declarations.specs.Types as spec
use Rattle.ctl_typing.proofs.Turns.{each_walked}
use Rattle.ctl_typing.specs.Judgement.{each}
use Rattle.ctl_draft.proofs.Behind.{next_of}
use Rattle.ctl_declarations.proofs.components.component_rows.Goals as goal

pub loop-one-preserved : goal.loop-one-preserved
loop-one-preserved c =
    let all = c.args.declared.now in
    let i = c.loop-one.one-index in
    let f = spec.components_of c.args.within in
    let split = next_of all i c.one-item.result c.loop-one-test.true c.one-item.is in
    each_walked f c.loop-one.done c.in_ok-done.done c.in_ok-judged.judged c.one-item.result (drop (i + 1) all) c.loop-one.draft c.components_of.new.draft c.in_ok-judged.ensures c.in_ok-done.ensures
    ∙ ap (λ xs. each f c.loop-one.done xs c.loop-one.draft) (sym split)
    ∙ c.loop-one.invariant
