use Rattle.ctl_meaning.specs.Changes.{object_at}
use Rattle.ctl_places.specs.Granting.{storage_seen}
use Rattle.ctl_frames.specs.Spots.{first_spot}
use Rattle.ctl_allocations.proofs.CopyAllocated.{object_or}
use Rattle.ctl_allocations.proofs.allocating_copy.allocate_part.Given as goal

abbrev pub ghost-set_for : goal.ghost-set_for
ghost-set_for g a = g.s.0

abbrev pub ghost-copy_member : goal.ghost-copy_member
ghost-copy_member g a = (g.s.0, object_or (object_at (first_spot g.s.0.operands).object g.s.0.world), storage_seen a.code.now a.access g.s.0)
