use Rattle.std.specs.Prelude.{◌≡◌, ◌≤◌, length}
use Rattle.ctl_lifetimes.proofs.Starting.{marked_from}
use Rattle.ctl_lifetimes.proofs.emptying.start_collections.Given as goal

abbrev pub invariant-loop-end : goal.invariant-loop-end
invariant-loop-end l = (l.owned.items ≡ marked_from l.end l.fn.first l.fn.last l.fn.owned.items) × (l.end ≤ length l.fn.owned.items)

abbrev pub decreases-loop-end : goal.decreases-loop-end
decreases-loop-end l = l.end
