use Rattle.std.proofs.Common.{map}
use Rattle.ctl_grammar.specs.Form.{none}
use Rattle.ctl_grammar.specs.Grammar.{dotted_list, next_dotted}
use Rattle.ctl_parse.specs.Reads.{Gathers, pending}
use Rattle.ctl_parse.specs.View.{mark_node}
use Rattle.ctl_parse.proofs.cursor.Parser.dotted_list.Given as goal

abbrev pub invariant-more : goal.invariant-more
invariant-more l = Gathers (dotted_list l.fn.separator) (next_dotted l.fn.separator) none l.fn.self (map mark_node l.all) l.self

abbrev pub decreases-more : goal.decreases-more
decreases-more l = pending l.self
