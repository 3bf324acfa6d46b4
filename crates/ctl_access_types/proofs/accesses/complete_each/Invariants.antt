use Rattle.std.proofs.Common.{◌≡◌, length}
use Rattle.ctl_draft.specs.Freezing as freezing
use Rattle.ctl_access_types.specs.AccessTypes as spec
use Rattle.ctl_access_types.proofs.accesses.complete_each.Given as goal

-- what is left to change, after what was changed, is all
abbrev pub invariant-loop-at : goal.invariant-loop-at
invariant-loop-at l = record {
  whole : length l.accesses ≡ length l.fn.accesses;
  same : freezing.changed_each (spec.completed_access l.number l.ty) l.at l.accesses ≡ freezing.changed_each (spec.completed_access l.number l.ty) l.first l.fn.accesses;
}
