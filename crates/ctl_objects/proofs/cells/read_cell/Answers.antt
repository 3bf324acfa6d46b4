use Rattle.std.proofs.Common.{◌≡◌, ◌+◌, ◌≤◌, ◌∙◌, ap, arith, sym}
use Rattle.std.specs.Prelude.{slice_get, slice_index_or}
use Rattle.ctl_objects.proofs.Found.{get_index}
use Rattle.ctl_objects.proofs.Laid.{part_missing, part_read}
use Rattle.ctl_objects.proofs.cells.read_cell.Goals as goal
use Rattle.ctl_objects.proofs.cells.read_cell.Goals.{then-start-object-via-then-start-object, then-start-object-via-else-start-object+then-offset-object}

pub returns-then-start-object : goal.returns-then-start-object
returns-then-start-object c =
    let beyond : c.args.object.now.cells ≤ c.args.start + c.args.offset = elim c.then-start-object.branch [
      | then-start-object-via-then-start-object w ↦ let more = w.if-start-object.true in omega (arith, more)
      | then-start-object-via-else-start-object+then-offset-object w ↦ let less = w.if-start-object.false in let more = w.if-offset-object.true in omega (arith, less, more)
    ] in
    sym (part_missing c.args.cells.now c.args.object.now (c.args.start + c.args.offset) beyond)

pub returns : goal.returns
returns c =
    let o = c.args.object.now in
    let offset = c.args.start + c.args.offset in
    let at = o.first + c.args.start + c.args.offset in
    let less = c.if-start-object.false in
    let further = c.if-offset-object.false in
    let within = c.requires in
    let place : at ≡ o.first + offset = omega arith in
    sym (part_read c.args.cells.now o offset (slice_index_or c.args.cells.now at 0) (omega (arith, less, further))
    (ap (λ n. slice_get c.args.cells.now n) (sym place) ∙ get_index c.args.cells.now at 0 (omega (arith, less, further, within))))
