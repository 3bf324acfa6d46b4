use Rattle.ctl_code.specs.States.{ByDeclaration}
use Rattle.ctl_frames.proofs.Newest.{newest_object}
use Rattle.ctl_allocations.proofs.declare.adjust_new.Given as goal

abbrev pub ghost-become_layer : goal.ghost-become_layer
ghost-become_layer g a = newest_object a.engine.now.owned.items

abbrev pub ghost-adjust_object : goal.ghost-adjust_object
ghost-adjust_object g a = (ByDeclaration, g.t)
