-- The line of an event and that of an end, without their line feeds.
use Rattle.std.specs.Prelude.{ℕ, List, ◌++◌, codes, decimal}
use Rattle.std.specs.List.{flat_map}
use Rattle.ctl_text.specs.Words.{cause_word, stop_word}
use Rattle.ctl_tree.specs.declared.ending.End.{End}
use Rattle.ctl_tree.specs.declared.ending.End.TheVariants.{Done, Raised, Stopped, StepLimit, HostMemory}
use Rattle.ctl_tree.specs.declared.event.Event.{Event}
use Rattle.ctl_tree.specs.declared.event.Event.TheVariants.{Print, Newline, Initialize, Adjust, Finalize, Allocate, Deallocate, Live}
use Rattle.ctl_tree.specs.declared.event.Owner.{Owner}
use Rattle.ctl_tree.specs.declared.event.Owner.TheVariants.{Master, Collection}
use Rattle.ctl_tree.specs.declared.event.Part.{Part}

-- the positions of a part in its object, each with a dot before it
abbrev pub path_text : List ℕ → List ℕ
path_text positions = flat_map (λ position. codes "." ++ decimal position) positions

-- a part: the number of its object, and its positions
abbrev pub part_text : Part → List ℕ
part_text part = decimal part.object ++ path_text part.path

-- what an object belongs to
abbrev pub owner_text : Owner → List ℕ
owner_text (Master number) = codes "m" ++ decimal number
owner_text (Collection number) = codes "c" ++ decimal number

-- a pool's object number, and a size in storage units
abbrev pub storage_text : ℕ → ℕ → List ℕ
storage_text pool size = decimal pool ++ codes " " ++ decimal size

-- the line of an event
abbrev pub event_line : Event → List ℕ
event_line (Print bytes) = codes "print " ++ bytes
event_line Newline = codes "newline"
event_line (Initialize part) = codes "initialize " ++ part_text part
event_line (Adjust part) = codes "adjust " ++ part_text part
event_line (Finalize part cause) = codes "finalize " ++ part_text part ++ codes " " ++ cause_word cause
event_line (Allocate pool size) = codes "allocate " ++ storage_text pool size
event_line (Deallocate pool size) = codes "deallocate " ++ storage_text pool size
event_line (Live part owner) = codes "live " ++ part_text part ++ codes " " ++ owner_text owner

-- the line of an end
abbrev pub end_line : End → List ℕ
end_line Done = codes "end done"
end_line (Raised name) = codes "end raised " ++ name
end_line (Stopped stop) = codes "end stopped " ++ stop_word stop
end_line StepLimit = codes "end limit"
end_line HostMemory = codes "end memory"
