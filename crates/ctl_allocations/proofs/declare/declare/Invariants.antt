use Rattle.ctl_code.specs.Table.{with_object}
use Rattle.ctl_frames.specs.Masters.{first_display, heads_of}
use Rattle.ctl_engine.specs.Shows.{maker_of}
use Rattle.ctl_engine.proofs.Newborn.{declared_in}
use Rattle.ctl_frames.proofs.Newest.{newest_object}
use Rattle.ctl_allocations.proofs.declare.declare.Given as goal

abbrev pub ghost-begin_declared : goal.ghost-begin_declared
ghost-begin_declared g a = (maker_of a.declared, declared_in a.place g.s.operands g.s (with_object a.code.now (first_display (heads_of g.s.world.activations)) (newest_object a.engine.now.owned.items).slot a.record g.s.world))
