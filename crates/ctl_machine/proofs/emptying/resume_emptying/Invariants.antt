use Rattle.ctl_lifetimes.specs.Emptying.{member_finished}
use Rattle.ctl_allocations.proofs.Emptied.{emptied_in, failed_in, sets_in}
use Rattle.ctl_machine.proofs.emptying.resume_emptying.Given as goal

abbrev pub ghost-find_candidates : goal.ghost-find_candidates
ghost-find_candidates g a = sets_in g.s.control

abbrev pub ghost-finalize_member : goal.ghost-finalize_member
ghost-finalize_member g a = (failed_in g.s.control, emptied_in g.s, member_finished (emptied_in g.s) a.failed a.member.number)
