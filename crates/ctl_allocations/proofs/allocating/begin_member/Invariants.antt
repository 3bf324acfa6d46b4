use Rattle.ctl_places.specs.Gathering.{member_at}
use Rattle.ctl_allocations.proofs.NewMember.{added_state, set_of_owner}
use Rattle.ctl_allocations.proofs.allocating.begin_member.Given as goal

abbrev pub ghost-end_allocation : goal.ghost-end_allocation
ghost-end_allocation g a = added_state g.t.0 g.t.1

abbrev pub ghost-begin_part : goal.ghost-begin_part
ghost-begin_part g a = member_at a.code.now (set_of_owner a.owner) a.record g.t.0
