use Rattle.ctl_engine.proofs.engine.Engine.call_operation.Given as goal

abbrev pub ghost-call_among : goal.ghost-call_among
ghost-call_among g a = g.t
