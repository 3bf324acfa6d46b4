use Rattle.ctl_code.specs.Table.{behind_next, units_for, with_member}
use Rattle.ctl_places.specs.Granting.{place_granted, world_granted}
use Rattle.ctl_engine.specs.Moves.{here_of}
use Rattle.ctl_engine.proofs.MasterOf.{object_or}
use Rattle.ctl_engine.proofs.Newborn.{place_in}
use Rattle.ctl_allocations.proofs.allocating.create_member.Given as goal

abbrev pub ghost-grantor : goal.ghost-grantor
ghost-grantor g a = g.s.0

abbrev pub ghost-call_allocate : goal.ghost-call_allocate
ghost-call_allocate g a = (g.s.0, object_or a.pool a.engine.now.stock.objects, a.set)

abbrev pub ghost-add_member : goal.ghost-add_member
ghost-add_member g a = g.s

abbrev pub ghost-begin_member : goal.ghost-begin_member
ghost-begin_member g a =
    let granted = g.s.1 (units_for a.code.now a.of) in
    let place = place_granted granted in
    let world = world_granted g.s.0.world granted in
    (record { place = place; control = g.s.0.control; point = behind_next g.s.0.operands (here_of (place_in g.s.0.mode) g.s.0); granted = world }, with_member a.code.now a.set a.of place world)
