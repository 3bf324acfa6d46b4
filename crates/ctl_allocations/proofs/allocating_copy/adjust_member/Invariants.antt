use Rattle.ctl_code.specs.States.{ByAllocator}
use Rattle.ctl_allocations.proofs.CopyAllocated.{member_at, place_of}
use Rattle.ctl_allocations.proofs.allocating_copy.adjust_member.Given as goal

abbrev pub ghost-end_allocation : goal.ghost-end_allocation
ghost-end_allocation g a = g.s

abbrev pub ghost-adjust_object : goal.ghost-adjust_object
ghost-adjust_object g a = (ByAllocator, member_at a.object (place_of a.copy) g.s)
