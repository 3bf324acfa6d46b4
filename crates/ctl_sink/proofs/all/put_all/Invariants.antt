use Rattle.std.proofs.Common.{length, ◌-◌, ◌≡◌, ◌≤◌, take}
use Rattle.std.specs.Io.KnownBytes.{Appends}
use Rattle.ctl_sink.proofs.all.put_all.Given as goal

-- what was put so far is what the sink has taken, and no `put` has failed since the loop began
abbrev pub invariant-loop-done : goal.invariant-loop-done
invariant-loop-done g l = record {
  within : l.done ≤ length l.bytes;
  taken : Appends (g.S.Sink.taken l.initial.sink) (g.S.Sink.taken l.sink) (take l.done l.bytes);
  kept : g.S.Sink.has_failed l.sink ≡ g.S.Sink.has_failed l.initial.sink;
}

abbrev pub decreases-loop-done : goal.decreases-loop-done
decreases-loop-done g l = length l.bytes - l.done
