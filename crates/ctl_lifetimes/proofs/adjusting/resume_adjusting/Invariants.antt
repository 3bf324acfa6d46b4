use Rattle.std.specs.Prelude.{length}
use Rattle.ctl_meaning.specs.Lists.{pull_rest}
use Rattle.ctl_code.specs.States as T
use Rattle.ctl_frames.specs.Filling.{pick_among}
use Rattle.ctl_lifetimes.proofs.AfterFinalize.{finished_in, left_in, part_in}
use Rattle.ctl_lifetimes.proofs.adjusting.resume_adjusting.Given as goal

abbrev pub ghost-adjust_newest : goal.ghost-adjust_newest
ghost-adjust_newest g a = finished_in g.s.control g.s.world

abbrev pub ghost-adjust_next : goal.ghost-adjust_next
ghost-adjust_next g a = (finished_in g.s.control g.s.world, left_in g.s.control, T.Adjusting a.creation (part_in g.s.control) a.record (pull_rest (pick_among a.order (length (left_in g.s.control))) (left_in g.s.control)))
