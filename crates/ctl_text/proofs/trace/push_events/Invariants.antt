use Rattle.std.proofs.Common.{◌≡◌, ◌++◌, take}
use Rattle.ctl_text.specs.Texts.{event_lines}
use Rattle.ctl_text.proofs.trace.push_events.Given as goal

-- the lines of the events before the index have been appended
abbrev pub invariant-loop-event : goal.invariant-loop-event
invariant-loop-event g l = l.text.items ≡ l.initial.text.items ++ event_lines (take l.event-index l.events)
