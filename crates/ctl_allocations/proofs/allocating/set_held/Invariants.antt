use Rattle.ctl_frames.specs.Masters.{heads_of}
use Rattle.ctl_allocations.proofs.allocating.set_held.Given as goal

abbrev pub ghost-around : goal.ghost-around
ghost-around g a = heads_of g.s.world.activations

abbrev pub ghost-depth_at : goal.ghost-depth_at
ghost-depth_at g a = heads_of g.s.world.activations
