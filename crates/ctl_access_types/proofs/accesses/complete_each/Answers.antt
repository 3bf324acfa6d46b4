use Rattle.std.proofs.Common.{rules, arith}
use Rattle.ctl_access_types.specs.AccessTypes as spec
use Rattle.ctl_draft.proofs.Changes.{changed_next, changed_none, changed_length}
use Rattle.ctl_access_types.proofs.accesses.complete_each.Goals as goal

pub loop-at-preserved : goal.loop-at-preserved
loop-at-preserved c =
    let f = spec.completed_access c.args.number c.args.ty in
    search (rules, changed_length f c.loop-at.at c.loop-at.accesses, changed_next f c.loop-at.at c.loop-at.accesses)

pub returns : goal.returns
returns c = search (rules, changed_none (spec.completed_access c.args.number c.args.ty) c.loop-at.at c.loop-at.accesses (omega (arith, c.loop-at-test.false, c.loop-at.invariant.whole)))
