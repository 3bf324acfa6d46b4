use Rattle.std.proofs.Common.{map}
use Rattle.ctl_grammar.specs.Form.{none}
use Rattle.ctl_grammar.specs.Grammar.{selector, selectors}
use Rattle.ctl_parse.specs.Reads.{Gathers, pending}
use Rattle.ctl_parse.specs.View.{identifier_node}
use Rattle.ctl_parse.proofs.cursor.Parser.selectors.Given as goal

abbrev pub invariant-more : goal.invariant-more
invariant-more l = Gathers selectors selector none l.fn.self (map identifier_node l.all) l.self

abbrev pub decreases-more : goal.decreases-more
decreases-more l = pending l.self
