use Rattle.ctl_grammar.specs.Form.{none}
use Rattle.ctl_grammar.specs.Grammar.{formal_list, next_formal}
use Rattle.ctl_parse.specs.Parts.{formal_node}
use Rattle.ctl_parse.specs.Reads.{Gathers, pending}
use Rattle.std.proofs.Common.{map}
use Rattle.ctl_parse.proofs.cursor.Parser.formal_list.Given as goal

abbrev pub invariant-more : goal.invariant-more
invariant-more l = Gathers formal_list next_formal none l.fn.self (map formal_node l.all) l.self

abbrev pub decreases-more : goal.decreases-more
decreases-more l = pending l.self
