use Rattle.std.specs.Prelude.{drop}
use Rattle.ctl_frames.specs.Masters.{heads_of}
use Rattle.ctl_frames.specs.Spots.{standing}
use Rattle.ctl_machine.proofs.procedures.call_from.Given as goal

abbrev pub ghost-around : goal.ghost-around
ghost-around g a = heads_of g.s.world.activations

abbrev pub ghost-depth_at : goal.ghost-depth_at
ghost-depth_at g a = heads_of g.s.world.activations

abbrev pub ghost-begin_slots : goal.ghost-begin_slots
ghost-begin_slots g a = (g.s.operands, standing g.s.control (drop a.actuals g.s.operands))
