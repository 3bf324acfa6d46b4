use Rattle.std.proofs.Common.{sym, ap, ◌∙◌, arith}
use Rattle.std.specs.Prelude.{slice_set}
use Rattle.ctl_resolve.proofs.Places.{set_with_stage, past_the_end}
use Rattle.ctl_resolve.proofs.table.set_stage.Goals as goal

pub returns-then-number-len : goal.returns-then-number-len
returns-then-number-len c =
    let ds = c.args.declarations.now.items in
    ap (λ y. slice_set ds c.args.number (record y { stage = c.args.stage })) c.index_mut-declaration.ensures.value
    ∙ set_with_stage ds c.args.number c.args.stage _

pub returns-else-number-len : goal.returns-else-number-len
returns-else-number-len c = sym (past_the_end c.args.declarations.now.items c.args.number c.args.stage (omega arith))
