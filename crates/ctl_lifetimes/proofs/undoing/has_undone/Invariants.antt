use Rattle.std.specs.Prelude.{◌≡◌, ◌++◌, [], ◌∷◌, drop}
use Rattle.ctl_meaning.specs.Lists.{any_of, begins}
use Rattle.ctl_frames.specs.Noted.{paths_of}
use Rattle.ctl_lifetimes.specs.Undoing.{noted_from}
use Rattle.ctl_lifetimes.proofs.undoing.has_undone.Given as goal

-- none up to here is it, or lies in it
abbrev pub invariant-loop-at : goal.invariant-loop-at
invariant-loop-at l = let passes = begins (l.fn.spot.path ++ l.fn.position ∷ []) in any_of passes (drop l.at (paths_of l.fn.noted)) ≡ any_of passes (noted_from l.fn.first l.fn.noted)
