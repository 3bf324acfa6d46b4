use Rattle.std.proofs.Common.{ap, sym, ◌∙◌, ◌+◌, drop}
use Rattle.ctl_syntax.specs.declared.denoted.Use.{Use}
use Rattle.ctl_syntax.specs.declared.name.Mark.{Mark}
use Rattle.ctl_draft.specs.Draft.{by_tables}
use Rattle.ctl_statements.specs.Statements as spec
use Rattle.ctl_draft.proofs.Behind.{next_of}
use Rattle.ctl_typing.proofs.Turns.{each_walked}
use Rattle.ctl_typing.specs.Judgement.{each}
use Rattle.ctl_statements.proofs.raises.exceptions_chosen.Goals as goal

pub loop-one-preserved : goal.loop-one-preserved
loop-one-preserved c =
    let all = c.args.marks.now in
    let i = c.loop-one.one-index in
    let f = λ (m : Mark Use). by_tables (spec.choice c.args.place m) in
    let split = next_of all i c.one-item.result c.loop-one-test.true c.one-item.is in
    each_walked f c.loop-one.done c.in_ok-done.done c.choice-judged.result c.one-item.result (drop (i + 1) all) c.loop-one.draft c.choice-judged.new.draft c.choice-judged.ensures c.in_ok-done.ensures
    ∙ ap (λ ms. each f c.loop-one.done ms c.loop-one.draft) (sym split)
    ∙ c.loop-one.invariant
