use Rattle.std.proofs.Common.{◌≡◌, drop}
use Rattle.ctl_access_types.specs.AccessTypes as spec
use Rattle.ctl_access_types.proofs.accesses.note_pools.Given as goal

-- what is left to note, after what was noted, is all
abbrev pub invariant-loop-access : goal.invariant-loop-access
invariant-loop-access l = spec.pools_noted l.number (drop l.access-index l.accesses) l.notes ≡ spec.pools_noted l.number l.accesses l.fn.notes
