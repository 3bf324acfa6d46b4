use Rattle.std.specs.Prelude.{◌≡◌, ◌≤◌, length}
use Rattle.ctl_code.specs.Table.{controlled_of}
use Rattle.ctl_lifetimes.specs.Undoing.{among, has_any_of, noted_from}
use Rattle.ctl_lifetimes.proofs.undoing.count_undone.Given as goal

-- those up to here are counted
abbrev pub invariant-loop-at : goal.invariant-loop-at
invariant-loop-at l =
    (l.count ≡ length (among (controlled_of l.fn.code l.fn.record) l.fn.left.first l.at (has_any_of (noted_from l.fn.first l.fn.engine.noted.items) l.fn.spot)))
    × (l.count ≤ l.at) × (l.fn.left.first ≤ l.at)
