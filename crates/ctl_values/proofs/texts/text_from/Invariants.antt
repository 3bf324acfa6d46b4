use Rattle.std.proofs.Common.{◌≡◌, ◌+◌, ◌++◌, ◌≤◌, drop, length}
use Rattle.ctl_code.specs.Table.{images_in, text_of}
use Rattle.ctl_values.proofs.texts.text_from.Given as goal

-- what was made, and what is still to be made; the values for it are there
abbrev pub invariant-loop-part : goal.invariant-loop-part
invariant-loop-part l = (l.text ++ text_of (drop l.part-index l.parts) (drop l.next l.cells) ≡ text_of l.parts (drop l.first l.cells)) × (l.next + images_in (drop l.part-index l.parts) ≤ length l.cells)
