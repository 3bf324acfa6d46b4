use Rattle.std.proofs.Common.{◌≡◌, drop}
use Rattle.std.specs.List.{find}
use Rattle.ctl_resolve.specs.Library.{is_name, names_of}
use Rattle.ctl_resolve.proofs.library.name_in.Given as goal

-- what is found among those that are left is found among all
abbrev pub invariant-loop-candidate : goal.invariant-loop-candidate
invariant-loop-candidate l = find (is_name l.name) (drop l.candidate-index l.candidate-items) ≡ find (is_name l.name) (names_of l.fn.unit)
