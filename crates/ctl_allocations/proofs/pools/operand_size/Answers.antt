use Rattle.std.proofs.Common.{◌+◌, reverse, subst}
use Rattle.std.specs.Prelude.{slice_get}
use Rattle.ctl_engine.specs.Declaring.{IsSize}
use Rattle.ctl_frames.specs.Masters.{first_window}
use Rattle.ctl_engine.proofs.Computed.{same_value}
use Rattle.ctl_allocations.proofs.pools.operand_size.Goals as goal

pub returns : goal.returns
returns c = λ first second lower upper.
    let e = c.args.engine.now in
    let window = first_window (reverse e.masters.items) in
    let one = same_value c.take-first.result first (slice_get e.cells.items (window + c.args.at)) c.take-first.ensures lower in
    let two = same_value c.take-second.result second (slice_get e.cells.items (window + (c.args.at + 1))) c.take-second.ensures upper in
    subst (λ n. IsSize c.args.order first n c.pool_size.result) two (subst (λ n. IsSize c.args.order n c.take-second.result c.pool_size.result) one c.pool_size.ensures)
