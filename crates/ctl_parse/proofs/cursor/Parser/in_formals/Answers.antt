use Rattle.ctl_grammar.specs.Grammar.{in_formals}
use Rattle.ctl_grammar.specs.Nodes.{part_2}
use Rattle.ctl_parse.proofs.Keeping.{kept_part_2}
use Rattle.ctl_parse.proofs.Steps.{making, then}
use Rattle.ctl_parse.proofs.cursor.Parser.in_formals.Goals as goal

pub returns : goal.returns
unfolding in_formals
returns c = making part_2 kept_part_2 (then c.skip.ensures (then c.formal_list-formals.ensures c.skip-2.ensures))
