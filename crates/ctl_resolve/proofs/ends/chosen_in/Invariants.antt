use Rattle.std.proofs.Common.{◌≡◌, drop}
use Rattle.ctl_resolve.specs.Parts as spec
use Rattle.ctl_resolve.proofs.ends.chosen_in.Given as goal

-- those that are left, behind those so far, are all
abbrev pub invariant-loop-one : goal.invariant-loop-one
invariant-loop-one l = spec.chosen_in (drop l.one-index l.all) (l.seen, l.view) ≡ spec.chosen_in l.all (l.fn.seen, l.fn.view)
