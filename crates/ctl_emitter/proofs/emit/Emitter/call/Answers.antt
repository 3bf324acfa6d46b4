use Rattle.std.proofs.Common.{map, sym, length}
use Rattle.std.proofs.lemmas.List.{length-map}
use Rattle.ctl_layout.specs.Values.{actual_code}
use Rattle.ctl_emitter.proofs.Emission.{on_ok}
use Rattle.ctl_emitter.proofs.EmittedCalls.{call_emitted}
use Rattle.ctl_emitter.proofs.emit.Emitter.call.Goals as goal

pub returns : goal.returns
returns c = on_ok _ _ c.copies_behind.result c.copies_behind.ensures (λ e.
    let xs = c.args.actuals.now in
    call_emitted c.args.procedure (length xs) c.count_copies-copies.result (map actual_code xs) c.args.self.now c.over_reserved.new.self c.copies_behind.new.self
    (sym (length-map xs actual_code)) c.count_copies-copies.ensures c.in_ok-over_reserved.ensures e)
