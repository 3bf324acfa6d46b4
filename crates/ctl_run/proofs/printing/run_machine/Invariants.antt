use Rattle.std.proofs.Common.{◌≡◌, ◌+◌, ◌≤◌, [], false}
use Rattle.std.specs.Io.KnownBytes.{Appends}
use Rattle.ctl_text.specs.Texts.{output_of}
use Rattle.ctl_machine.specs.Machine.{shown_between}
use Rattle.ctl_run.proofs.printing.run_machine.Given as goal

-- the machine goes on, what it has printed was put, and nothing waits of it
abbrev pub invariant-loop-left : goal.invariant-loop-left
invariant-loop-left g l = record {
  code : l.machine.code ≡ l.initial.machine.code;
  order : l.machine.order ≡ l.initial.machine.order;
  begun : l.initial.machine.steps ≤ l.machine.steps;
  steps : l.machine.steps + l.left ≡ l.initial.machine.steps + l.limit;
  running : l.machine.has_ended ≡ false;
  waiting : l.machine.waiting ≡ [];
  taken : Appends (g.S.Sink.taken l.initial.sink) (g.S.Sink.taken l.sink) (output_of (shown_between l.initial.machine.code l.initial.machine.order l.initial.machine.steps l.machine.steps));
  kept : g.S.Sink.has_failed l.sink ≡ g.S.Sink.has_failed l.initial.sink;
}

abbrev pub decreases-loop-left : goal.decreases-loop-left
decreases-loop-left g l = l.left
