use Rattle.std.proofs.Common.{◌+◌}
use Rattle.ctl_engine.proofs.engine.Engine.call_operation.Goals as goal

pub caller-caller-requires : goal.caller-caller-requires
caller-caller-requires g c = (c.args.self.now.given_masters + 1, c.requires.1.0.holds.below)

pub call_among-requires : goal.call_among-requires
call_among-requires g c = (c.requires.0, ((c.args.master, c.requires.1.0, c.caller-caller.ensures), c.requires.1.1))
