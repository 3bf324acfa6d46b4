use Rattle.ctl_grammar.specs.Form.{none}
use Rattle.ctl_grammar.specs.Grammar.{association_list, next_association}
use Rattle.ctl_parse.specs.Parts.{association_node}
use Rattle.ctl_parse.specs.Reads.{Gathers, pending}
use Rattle.std.proofs.Common.{map}
use Rattle.ctl_parse.proofs.cursor.Parser.association_list.Given as goal

abbrev pub invariant-more : goal.invariant-more
invariant-more l = Gathers association_list next_association none l.fn.self (map association_node l.all) l.self

abbrev pub decreases-more : goal.decreases-more
decreases-more l = pending l.self
