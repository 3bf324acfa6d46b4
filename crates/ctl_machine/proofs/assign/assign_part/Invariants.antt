use Rattle.ctl_meaning.specs.Objects.{object_in}
use Rattle.ctl_allocations.proofs.Assigned.{assigned_at, source_of, value_found}
use Rattle.ctl_machine.proofs.assign.assign_part.Given as goal

abbrev pub ghost-replace_value : goal.ghost-replace_value
ghost-replace_value g a = (assigned_at a.place g.s, value_found a.code.now a.record (object_in (source_of g.s).object a.engine.now.stock.objects) g.s)
