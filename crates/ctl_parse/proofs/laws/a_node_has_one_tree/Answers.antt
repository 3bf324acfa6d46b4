use Rattle.ctl_parse.proofs.ReadTrees.{one_tree, tree_back}
use Rattle.ctl_parse.proofs.laws.a_node_has_one_tree.Goals as goal

pub returns-clause-reads_back : goal.returns-clause-reads_back
returns-clause-reads_back c = tree_back

pub returns-clause-one_tree : goal.returns-clause-one_tree
returns-clause-one_tree c = one_tree
