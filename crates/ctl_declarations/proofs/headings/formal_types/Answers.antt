use Rattle.std.proofs.Common.{ap, sym, ◌∙◌, ◌+◌, drop}
use Rattle.ctl_declarations.proofs.Profiles.{formals_walked}
use Rattle.ctl_draft.proofs.Behind.{next_of}
use Rattle.ctl_declarations.specs.Declarations as spec
use Rattle.ctl_declarations.proofs.headings.formal_types.Goals as goal

pub loop-one-preserved : goal.loop-one-preserved
loop-one-preserved c =
    let tables = c.args.tables.now in
    let place = c.args.place in
    let all = c.args.formals.now in
    let i = c.loop-one.one-index in
    let split = next_of all i c.one-item.result c.loop-one-test.true c.one-item.is in
    formals_walked tables place c.loop-one.all c.in_ok-all.all c.in_ok-judged.judged c.one-item.result (drop (i + 1) all) c.loop-one.notes c.formal_type.new.notes c.in_ok-judged.ensures c.in_ok-all.ensures
    ∙ ap (λ fs. spec.formals_on tables place c.loop-one.all fs c.loop-one.notes) (sym split)
    ∙ c.loop-one.invariant
