use Rattle.std.proofs.Common.{◌∙◌, ap, sym, drop, ◌+◌}
use Rattle.ctl_declarations.specs.Declarations as spec
use Rattle.ctl_typing.proofs.Turns.{each_walked}
use Rattle.ctl_typing.specs.Judgement.{each}
use Rattle.ctl_draft.proofs.Behind.{next_of}
use Rattle.ctl_declarations.proofs.discriminants.untyped.Goals as goal

pub loop-association-preserved : goal.loop-association-preserved
loop-association-preserved c =
    let all = c.args.associations.now in
    let i = c.loop-association.association-index in
    let f = spec.anything c.args.tables.now in
    let split = next_of all i c.association-item.result c.loop-association-test.true c.association-item.is in
    each_walked f c.loop-association.done c.in_ok-done.done c.in_ok-judged.judged c.association-item.result (drop (i + 1) all) c.loop-association.notes c.anything.new.notes c.in_ok-judged.ensures c.in_ok-done.ensures
    ∙ ap (λ xs. each f c.loop-association.done xs c.loop-association.notes) (sym split)
    ∙ c.loop-association.invariant
