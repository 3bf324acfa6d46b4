use Rattle.std.proofs.lemmas.Result.{on_ok_weaker}
use Rattle.ctl_code.proofs.Rows.{row_set}
use Rattle.ctl_code.proofs.homes.set_in.Goals as goal

pub returns : goal.returns
returns c =
    on_ok_weaker c.set.result
    (λ wrote. row_set c.reach_number.new.homes.items c.args.homes.now.items c.args.number c.args.level c.args.slots c.index_mut.result.now c.set.new.self c.in_ok-reach_number.ensures.long c.index_mut.ensures.value c.in_ok-reach_number.ensures.same wrote)
    c.set.ensures
