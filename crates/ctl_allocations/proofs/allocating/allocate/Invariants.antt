use Rattle.ctl_places.specs.Granting.{storage_seen}
use Rattle.ctl_allocations.proofs.allocating.allocate.Given as goal

abbrev pub ghost-set_for : goal.ghost-set_for
ghost-set_for g a = g.s.0

abbrev pub ghost-create_member : goal.ghost-create_member
ghost-create_member g a = (g.s.0, storage_seen a.code.now a.access g.s.0)
