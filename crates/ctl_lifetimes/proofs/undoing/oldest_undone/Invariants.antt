use Rattle.std.specs.Prelude.{◌≡◌}
use Rattle.ctl_code.specs.Table.{controlled_of}
use Rattle.ctl_lifetimes.specs.Undoing.{among, has_any_of, noted_from}
use Rattle.ctl_lifetimes.proofs.undoing.oldest_undone.Given as goal

-- none up to here passes
abbrev pub invariant-loop-at : goal.invariant-loop-at
invariant-loop-at l =
    let all = controlled_of l.fn.code l.fn.record in
    let passes = has_any_of (noted_from l.fn.first l.fn.engine.noted.items) l.fn.spot in
    among all l.at l.fn.left.last passes ≡ among all l.fn.left.first l.fn.left.last passes
