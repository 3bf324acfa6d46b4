use Rattle.ctl_parse.proofs.ReadTrees.{spells_one_tree}
use Rattle.ctl_parse.proofs.laws.tokens_spell_one_tree.Goals as goal

pub returns : goal.returns
returns c = spells_one_tree
