use Rattle.std.proofs.Common.{◌∙◌, ap, sym, drop, ◌+◌}
use Rattle.ctl_declarations.specs.Declarations as spec
use Rattle.ctl_typing.proofs.Turns.{each_walked}
use Rattle.ctl_typing.specs.Judgement.{each}
use Rattle.ctl_draft.proofs.Behind.{next_of}
use Rattle.ctl_declarations.proofs.objects.objects_named.Goals as goal

pub loop-name-preserved : goal.loop-name-preserved
loop-name-preserved c =
    let all = c.args.names.now in
    let i = c.loop-name.name-index in
    let f = spec.object c.args.around c.args.order c.args.place c.args.declared.now in
    let split = next_of all i c.name-item.result c.loop-name-test.true c.name-item.is in
    each_walked f c.loop-name.done c.in_ok-done.done c.in_ok-judged.judged c.name-item.result (drop (i + 1) all) c.loop-name.draft c.object.new.draft c.in_ok-judged.ensures c.in_ok-done.ensures
    ∙ ap (λ xs. each f c.loop-name.done xs c.loop-name.draft) (sym split)
    ∙ c.loop-name.invariant
