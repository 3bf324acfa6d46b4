use Rattle.std.proofs.Common.{◌≡◌, take}
use Rattle.std.specs.Io.KnownBytes.{Appends}
use Rattle.ctl_text.specs.Texts.{output_of}
use Rattle.ctl_run.proofs.printing.put_output.Given as goal

-- what the events before the index print was put, and no `put` has failed since the loop began
abbrev pub invariant-loop-event : goal.invariant-loop-event
invariant-loop-event g l = record {
  taken : Appends (g.S.Sink.taken l.initial.sink) (g.S.Sink.taken l.sink) (output_of (take l.event-index l.events));
  kept : g.S.Sink.has_failed l.sink ≡ g.S.Sink.has_failed l.initial.sink;
}
