use Rattle.std.proofs.Common.{◌≡◌, ◌++◌, take}
use Rattle.ctl_text.specs.Lines.{path_text}
use Rattle.ctl_text.proofs.parts.push_path.Given as goal

-- the positions before the index have been appended
abbrev pub invariant-loop-position : goal.invariant-loop-position
invariant-loop-position g l = l.text.items ≡ l.initial.text.items ++ path_text (take l.position-index l.path)
