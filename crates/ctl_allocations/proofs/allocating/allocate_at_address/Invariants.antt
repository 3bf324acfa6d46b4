use Rattle.ctl_code.specs.Table.{with_member}
use Rattle.ctl_engine.proofs.Newborn.{place_in}
use Rattle.ctl_allocations.proofs.PlacedMember.{member_in}
use Rattle.ctl_allocations.proofs.allocating.allocate_at_address.Given as goal

abbrev pub ghost-place_member : goal.ghost-place_member
ghost-place_member g a = g.s.0

abbrev pub ghost-begin_member : goal.ghost-begin_member
ghost-begin_member g a = let m = member_in g.s.0.operands (place_in g.s.0.mode) g.s.0 in (m, with_member a.code.now a.set a.of m.place m.granted)
