use Rattle.ctl_sound.proofs.KeepingStatements.{simple_statements_keep_faults}
use Rattle.ctl_sound.proofs.laws.simple_statements_keep_faults.Goals as goal

pub returns : goal.returns
returns c = simple_statements_keep_faults c.args.name.now c.args.value.now
