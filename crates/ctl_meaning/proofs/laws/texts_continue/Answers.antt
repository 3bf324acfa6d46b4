use Rattle.ctl_meaning.proofs.Proved.{texts_continue}
use Rattle.ctl_meaning.proofs.laws.texts_continue.Goals as goal

pub returns : goal.returns
returns c = texts_continue c.args.program.now
