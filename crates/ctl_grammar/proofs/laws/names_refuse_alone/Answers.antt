use Rattle.ctl_grammar.proofs.Told.{names_refuse_alone}
use Rattle.ctl_grammar.proofs.laws.names_refuse_alone.Goals as goal

pub returns : goal.returns
returns c = names_refuse_alone
