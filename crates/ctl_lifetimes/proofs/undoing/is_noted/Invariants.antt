use Rattle.std.specs.Prelude.{◌≡◌, drop}
use Rattle.ctl_meaning.specs.Lists.{any_of, same_list}
use Rattle.ctl_frames.specs.Noted.{paths_of}
use Rattle.ctl_lifetimes.specs.Undoing.{noted_from}
use Rattle.ctl_lifetimes.proofs.undoing.is_noted.Given as goal

-- none up to here is it
abbrev pub invariant-loop-at : goal.invariant-loop-at
invariant-loop-at l = let passes = same_list l.fn.spot.path in any_of passes (drop l.at (paths_of l.fn.noted)) ≡ any_of passes (noted_from l.fn.first l.fn.noted)
