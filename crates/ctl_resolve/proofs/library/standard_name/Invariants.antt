use Rattle.std.proofs.Common.{◌≡◌, drop}
use Rattle.std.specs.List.{find}
use Rattle.ctl_resolve.specs.Library.{is_name, standard_names}
use Rattle.ctl_resolve.proofs.library.standard_name.Given as goal

-- what is found among those that are left is found among all
abbrev pub invariant-loop-candidate : goal.invariant-loop-candidate
invariant-loop-candidate l = find (is_name l.name) (drop l.candidate-index l.candidate-items) ≡ find (is_name l.name) (standard_names)
