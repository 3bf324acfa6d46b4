use Rattle.ctl_grammar.specs.Form.{none}
use Rattle.ctl_grammar.specs.Grammar.{component, component_list}
use Rattle.ctl_parse.specs.Parts.{components_node}
use Rattle.ctl_parse.specs.Reads.{Gathers, pending}
use Rattle.std.proofs.Common.{map}
use Rattle.ctl_parse.proofs.cursor.Parser.component_list.Given as goal

abbrev pub invariant-more : goal.invariant-more
invariant-more l = Gathers component_list component none l.fn.self (map components_node l.all) l.self

abbrev pub decreases-more : goal.decreases-more
decreases-more l = pending l.self
