use Rattle.std.proofs.Common.{◌≡◌, [], drop, Some}
use Rattle.ctl_draft.specs.Draft.{by_tables}
use Rattle.ctl_statements.specs.Statements as spec
use Rattle.ctl_typing.specs.Judgement.{each}
use Rattle.ctl_statements.proofs.raises.exceptions_chosen.Given as goal

abbrev pub invariant-loop-one : goal.invariant-loop-one
invariant-loop-one l =
    each (λ m. by_tables (spec.choice l.place m)) l.done (drop l.one-index l.marks) l.draft
    ≡ each (λ m. by_tables (spec.choice l.place m)) (Some []) l.marks l.fn.draft
