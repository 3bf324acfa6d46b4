use Rattle.std.specs.Prelude.{◌≡◌, ◌≤◌, ◌-◌}
use Rattle.ctl_code.specs.Table.{controlled_of}
use Rattle.ctl_lifetimes.specs.Undoing.{among, has_any_of, noted_from}
use Rattle.ctl_lifetimes.proofs.undoing.newest_undone.Given as goal

-- none from here on passes
abbrev pub invariant-loop-end : goal.invariant-loop-end
invariant-loop-end l =
    let all = controlled_of l.fn.code l.fn.record in
    let passes = has_any_of (noted_from l.fn.first l.fn.engine.noted.items) l.fn.spot in
    (l.end ≤ l.fn.left.last) × (among all l.fn.left.first l.end passes ≡ among all l.fn.left.first l.fn.left.last passes)

abbrev pub decreases-loop-end : goal.decreases-loop-end
decreases-loop-end l = l.end - l.left.first
