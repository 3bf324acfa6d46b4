use Rattle.ctl_allocations.proofs.CopyDeclared.{copied_at}
use Rattle.ctl_frames.proofs.Newest.{newest_object}
use Rattle.ctl_allocations.proofs.declare.declare_part.Given as goal

abbrev pub ghost-adjust_new : goal.ghost-adjust_new
ghost-adjust_new g a = copied_at a.code.now a.place (newest_object a.engine.now.owned.items).slot a.record g.s
