use Rattle.ctl_allocations.proofs.CopyAllocated.{kept_state}
use Rattle.ctl_allocations.proofs.allocating_copy.allocate_copy_at_address.Given as goal

abbrev pub ghost-place_member : goal.ghost-place_member
ghost-place_member g a = g.s.0

abbrev pub ghost-adjust_member : goal.ghost-adjust_member
ghost-adjust_member g a = kept_state a.code.now a.set a.record g.s.0
