use Rattle.std.proofs.Common.{◌+◌, ◌≤◌, arith}
use Rattle.ctl_storage.proofs.InStore.{nothing_written}
use Rattle.ctl_storage.proofs.words.write_word.Goals as goal
use Rattle.ctl_storage.proofs.words.write_word.Goals.{else-start-cells-via-then-start-cells+else-offset-cells, else-start-cells-via-else-start-cells}

pub returns-else-start-cells : goal.returns-else-start-cells
returns-else-start-cells c =
    let many = c.requires in
    let beyond : c.args.cells ≤ c.args.start + c.args.offset = elim c.else-start-cells.branch [
      | else-start-cells-via-then-start-cells+else-offset-cells w ↦ let less = w.if-start-cells.true in let more = w.if-offset-cells.false in omega (arith, less, more)
      | else-start-cells-via-else-start-cells w ↦ let more = w.if-start-cells.false in omega (arith, more)
    ] in
    nothing_written c.args.store.now c.args.number (c.args.start + c.args.offset) c.args.value (omega (arith, many, beyond))
