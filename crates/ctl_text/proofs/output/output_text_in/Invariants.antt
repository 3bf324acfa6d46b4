use Rattle.std.proofs.Common.{◌≡◌, take}
use Rattle.ctl_text.specs.Texts.{output_of}
use Rattle.ctl_text.proofs.output.output_text_in.Given as goal

-- what the events before the index print has been appended
abbrev pub invariant-loop-event : goal.invariant-loop-event
invariant-loop-event g l = l.text.items ≡ output_of (take l.event-index l.events)
