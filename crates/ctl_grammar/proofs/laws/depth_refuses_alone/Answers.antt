use Rattle.ctl_grammar.proofs.Told.{depth_refuses_alone}
use Rattle.ctl_grammar.proofs.laws.depth_refuses_alone.Goals as goal

pub returns : goal.returns
returns c = depth_refuses_alone
