use Rattle.std.proofs.Common.{◌+◌, drop, sym, subst, take}
use Rattle.std.proofs.lemmas.Result.{err_from_is_err_and}
use Rattle.ctl_sink.specs.Prefix.{AppendsPart}
use Rattle.ctl_text.specs.Texts.{output_of, printed_by}
use Rattle.ctl_run.proofs.Printed.{output_of_rest, part_behind, part_of_more}
use Rattle.ctl_run.proofs.printing.put_output.Goals as goal

-- what was put is the beginning
pub returns-in_err-put_printed-clause-part : goal.returns-in_err-put_printed-clause-part
returns-in_err-put_printed-clause-part g c =
    let taken = g.S.Sink.taken in
    let events = c.args.events.now in
    let i = c.loop-event.event-index in
    let e = c.event-item.result in
    let p = err_from_is_err_and c.from_residual.result c.from_residual.ensures.1 in
    let old = taken c.args.sink.now in
    let new = taken c.put_printed.new.sink in
    let part = part_of_more (taken c.loop-event.sink) new (printed_by e) (output_of (drop (i + 1) events)) c.in_err-put_printed.ensures.part in
    rw p.1 (subst (AppendsPart old new) (sym (output_of_rest events i e c.loop-event-test.true c.event-item.is))
    (part_behind old (taken c.loop-event.sink) new (output_of (take i events)) _ c.loop-event.invariant.taken part))
