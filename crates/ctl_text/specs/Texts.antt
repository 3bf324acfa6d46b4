-- The texts that show a run.
use Rattle.std.specs.Prelude.{ℕ, List, [], ◌++◌, codes}
use Rattle.std.specs.List.{flat_map}
use Rattle.ctl_text.specs.Lines.{event_line, end_line}
use Rattle.ctl_tree.specs.declared.ending.End.{End}
use Rattle.ctl_tree.specs.declared.event.Event.{Event}
use Rattle.ctl_tree.specs.declared.event.Event.TheVariants.{Print, Newline}

-- a line for each event
abbrev pub event_lines : List Event → List ℕ
event_lines events = flat_map (λ event. event_line event ++ codes "\n") events

-- the trace text: a line for each event, and then one for the end
abbrev pub trace_of : List Event → End → List ℕ
trace_of events end = event_lines events ++ end_line end ++ codes "\n"

-- what an event prints: the bytes of a Print, a line feed for a Newline
abbrev pub printed_by : Event → List ℕ
printed_by (Print bytes) = bytes
printed_by Newline = codes "\n"
printed_by _ = []

-- what events print
abbrev pub output_of : List Event → List ℕ
output_of events = flat_map printed_by events
