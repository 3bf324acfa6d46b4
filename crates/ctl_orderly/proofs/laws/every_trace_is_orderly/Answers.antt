use Rattle.ctl_orderly.proofs.Runs.{traces_are_orderly}
use Rattle.ctl_orderly.proofs.laws.every_trace_is_orderly.Goals as goal

pub returns : goal.returns
returns c = traces_are_orderly c.args.program.now
