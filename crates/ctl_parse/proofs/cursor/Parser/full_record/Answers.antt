use Rattle.ctl_grammar.specs.Grammar.{full_record}
use Rattle.ctl_grammar.specs.Nodes.{part_2}
use Rattle.ctl_parse.proofs.Keeping.{kept_part_2}
use Rattle.ctl_parse.proofs.Steps.{making, then}
use Rattle.ctl_parse.proofs.cursor.Parser.full_record.Goals as goal

pub returns : goal.returns
unfolding full_record
returns c = making part_2 kept_part_2 (then c.skip.ensures (then c.components-components.ensures (then c.skip-2.ensures c.skip-3.ensures)))
