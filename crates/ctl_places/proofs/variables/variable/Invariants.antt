use Rattle.ctl_frames.specs.Masters.{heads_of}
use Rattle.ctl_places.proofs.variables.variable.Given as goal

abbrev pub ghost-master_out : goal.ghost-master_out
ghost-master_out g a = heads_of g.s.world.activations
