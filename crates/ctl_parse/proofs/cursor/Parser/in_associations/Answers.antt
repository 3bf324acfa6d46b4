use Rattle.ctl_grammar.specs.Grammar.{body}
use Rattle.ctl_grammar.specs.Nodes.{part_2}
use Rattle.ctl_parse.proofs.Keeping.{kept_part_2}
use Rattle.ctl_parse.proofs.Steps.{making, then}
use Rattle.ctl_parse.proofs.cursor.Parser.in_associations.Goals as goal

pub returns : goal.returns
unfolding body
returns c = making part_2 kept_part_2 (then c.skip.ensures (then c.association_list-associations.ensures c.skip-2.ensures))
