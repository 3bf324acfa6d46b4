use Rattle.ctl_places.specs.Granting.{storage_seen}
use Rattle.ctl_allocations.proofs.allocating_copy.allocate_value.Given as goal

abbrev pub ghost-set_for : goal.ghost-set_for
ghost-set_for g a = g.s.0

abbrev pub ghost-value_member : goal.ghost-value_member
ghost-value_member g a = (g.s.0, storage_seen a.code.now a.access g.s.0)
