use Rattle.ctl_grammar.specs.Form.{none}
use Rattle.ctl_grammar.specs.Grammar.{context, contexts}
use Rattle.ctl_parse.specs.Parts.{context_node}
use Rattle.ctl_parse.specs.Reads.{Gathers, pending}
use Rattle.std.proofs.Common.{map}
use Rattle.ctl_parse.proofs.cursor.Parser.contexts.Given as goal

abbrev pub invariant-more : goal.invariant-more
invariant-more l = Gathers contexts context none l.fn.self (map context_node l.all) l.self

abbrev pub decreases-more : goal.decreases-more
decreases-more l = pending l.self
