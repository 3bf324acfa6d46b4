use Rattle.std.specs.Prelude.{◌≡◌, ◌≤◌, length}
use Rattle.ctl_code.specs.Table as Table
use Rattle.ctl_frames.specs.Masters.{display_from, first_display}
use Rattle.ctl_places.proofs.variables.master_out.Given as goal

abbrev pub invariant-loop-count : goal.invariant-loop-count
invariant-loop-count g l = (l.count ≤ length l.engine.masters.items) × (Table.out_of (display_from l.count g.hs) l.left ≡ Table.out_of (first_display g.hs) l.fn.out)

abbrev pub decreases-loop-count : goal.decreases-loop-count
decreases-loop-count g l = l.count
