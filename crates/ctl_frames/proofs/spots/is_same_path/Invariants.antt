use Rattle.std.specs.Prelude.{◌≡◌, drop}
use Rattle.ctl_meaning.specs.Lists.{same_list}
use Rattle.ctl_frames.proofs.spots.is_same_path.Given as goal

-- the positions up to here are the same
abbrev pub invariant-loop-at : goal.invariant-loop-at
invariant-loop-at l = same_list (drop l.at l.fn.path) (drop l.at l.fn.other) ≡ same_list l.fn.path l.fn.other
