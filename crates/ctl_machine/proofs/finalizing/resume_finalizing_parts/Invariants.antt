use Rattle.std.specs.Prelude.{length}
use Rattle.ctl_meaning.specs.Lists.{pull_rest}
use Rattle.ctl_code.specs.States as T
use Rattle.ctl_frames.specs.Filling.{pick_among}
use Rattle.ctl_lifetimes.proofs.AfterFinalize.{finished_in, left_in, part_in}
use Rattle.ctl_machine.proofs.finalizing.resume_finalizing_parts.Given as goal

abbrev pub ghost-finalize_next : goal.ghost-finalize_next
ghost-finalize_next g a = (finished_in g.s.control g.s.world, left_in g.s.control, T.FinalizingParts a.cause (part_in g.s.control) (pull_rest (pick_among a.order (length (left_in g.s.control))) (left_in g.s.control)) a.failed)
