use Rattle.std.proofs.Common.{◌-◌, ap, arith, length}
use Rattle.ctl_engine.proofs.Tops.{top_replaced_at}
use Rattle.ctl_engine.proofs.calls.replace_top.Goals as goal

pub returns-clause-items : goal.returns-clause-items
returns-clause-items c =
    let same = ap length c.as_slice.ensures.value in
    let long = c.as_slice.ensures.len in
    let some = c.requires in
    top_replaced_at c.args.control.now.items (length c.as_slice.result.now - 1) c.args.frame (omega (arith, same, long, some))
