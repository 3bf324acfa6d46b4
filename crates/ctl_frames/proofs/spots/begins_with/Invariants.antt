use Rattle.std.specs.Prelude.{◌≡◌, drop}
use Rattle.ctl_meaning.specs.Lists.{begins}
use Rattle.ctl_frames.proofs.spots.begins_with.Given as goal

-- the positions up to here are the same
abbrev pub invariant-loop-at : goal.invariant-loop-at
invariant-loop-at l = begins (drop l.at l.fn.beginning) (drop l.at l.fn.path) ≡ begins l.fn.beginning l.fn.path
