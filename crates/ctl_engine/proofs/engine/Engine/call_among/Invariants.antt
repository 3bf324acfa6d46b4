use Rattle.ctl_frames.specs.Masters.{heads_of}
use Rattle.ctl_engine.proofs.engine.Engine.call_among.Given as goal

abbrev pub ghost-around_from : goal.ghost-around_from
ghost-around_from g a = heads_of g.t.world.activations

abbrev pub ghost-depth_at : goal.ghost-depth_at
ghost-depth_at g a = heads_of g.t.world.activations
