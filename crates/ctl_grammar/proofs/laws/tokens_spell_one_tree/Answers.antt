use Rattle.ctl_grammar.proofs.Programs.{one_tree}
use Rattle.ctl_grammar.proofs.laws.tokens_spell_one_tree.Goals as goal

pub returns : goal.returns
returns c = one_tree
