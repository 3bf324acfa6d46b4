use Rattle.ctl_lifetimes.proofs.MadeAtOnce.{declared_part}
use Rattle.ctl_frames.proofs.Newest.{newest_object}
use Rattle.ctl_allocations.proofs.declare.begin_declared.Given as goal

abbrev pub ghost-become_layer : goal.ghost-become_layer
ghost-become_layer g a = newest_object a.engine.now.owned.items

abbrev pub ghost-begin_part : goal.ghost-begin_part
ghost-begin_part g a = declared_part g.t.0 a.record a.owner g.t.1
