use Rattle.ctl_engine.proofs.engine.Engine.around.Given as goal

abbrev pub ghost-around_from : goal.ghost-around_from
ghost-around_from g a = g.hs
