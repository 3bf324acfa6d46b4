use Rattle.ctl_grammar.specs.Form.{many, none}
use Rattle.ctl_grammar.specs.Grammar.{handler, handler_list, item, next_branch, part, statement, statements}
use Rattle.ctl_parse.specs.Parts.{branch_node, handler_node, view_item, view_statement}
use Rattle.ctl_parse.specs.Reads.{Gathers, pending}
use Rattle.std.proofs.Common.{map, ◌*◌, ◌+◌}
use Rattle.ctl_parse.proofs.cursor.Parser.+statements.Given as goal

abbrev pub invariant-statements-more : goal.invariant-statements-more
invariant-statements-more l = Gathers statements statement none l.fn.self (map view_statement l.all) l.self

abbrev pub decreases-statements-more : goal.decreases-statements-more
decreases-statements-more l = pending l.self

abbrev pub invariant-next_branches-more : goal.invariant-next_branches-more
invariant-next_branches-more l = Gathers (many next_branch) next_branch none l.fn.self (map (branch_node view_statement) l.all) l.self

abbrev pub decreases-next_branches-more : goal.decreases-next_branches-more
decreases-next_branches-more l = pending l.self

abbrev pub invariant-handler_list-more : goal.invariant-handler_list-more
invariant-handler_list-more l = Gathers handler_list handler none l.fn.self (map (handler_node view_statement) l.all) l.self

abbrev pub decreases-handler_list-more : goal.decreases-handler_list-more
decreases-handler_list-more l = pending l.self

abbrev pub invariant-part-more : goal.invariant-part-more
invariant-part-more l = Gathers part item none l.fn.self (map view_item l.all) l.self

abbrev pub decreases-part-more : goal.decreases-part-more
decreases-part-more l = pending l.self

abbrev pub decreases-conditional : goal.decreases-conditional
decreases-conditional l = l.self.now.left * 16 + 0

abbrev pub decreases-repetition : goal.decreases-repetition
decreases-repetition l = l.self.now.left * 16 + 0

abbrev pub decreases-block : goal.decreases-block
decreases-block l = l.self.now.left * 16 + 0

abbrev pub decreases-body : goal.decreases-body
decreases-body l = l.self.now.left * 16 + 0

abbrev pub decreases-bare_body : goal.decreases-bare_body
decreases-bare_body l = l.self.now.left * 16 + 0

abbrev pub decreases-statement : goal.decreases-statement
decreases-statement l = l.self.now.left * 16 + 1

abbrev pub decreases-statements : goal.decreases-statements
decreases-statements l = l.self.now.left * 16 + 2

abbrev pub decreases-branch : goal.decreases-branch
decreases-branch l = l.self.now.left * 16 + 3

abbrev pub decreases-next_branch : goal.decreases-next_branch
decreases-next_branch l = l.self.now.left * 16 + 4

abbrev pub decreases-next_branches : goal.decreases-next_branches
decreases-next_branches l = l.self.now.left * 16 + 5

abbrev pub decreases-otherwise : goal.decreases-otherwise
decreases-otherwise l = l.self.now.left * 16 + 3

abbrev pub decreases-handler : goal.decreases-handler
decreases-handler l = l.self.now.left * 16 + 3

abbrev pub decreases-handler_list : goal.decreases-handler_list
decreases-handler_list l = l.self.now.left * 16 + 4

abbrev pub decreases-handlers : goal.decreases-handlers
decreases-handlers l = l.self.now.left * 16 + 5

abbrev pub decreases-handled : goal.decreases-handled
decreases-handled l = l.self.now.left * 16 + 6

abbrev pub decreases-completed : goal.decreases-completed
decreases-completed l = l.self.now.left * 16 + 1

abbrev pub decreases-behind_is : goal.decreases-behind_is
decreases-behind_is l = l.self.now.left * 16 + 1

abbrev pub decreases-behind_name : goal.decreases-behind_name
decreases-behind_name l = l.self.now.left * 16 + 2

abbrev pub decreases-completed_specification : goal.decreases-completed_specification
decreases-completed_specification l = l.self.now.left * 16 + 2

abbrev pub decreases-completed_function : goal.decreases-completed_function
decreases-completed_function l = l.self.now.left * 16 + 2

abbrev pub decreases-overriding_item : goal.decreases-overriding_item
decreases-overriding_item l = l.self.now.left * 16 + 3

abbrev pub decreases-function_item : goal.decreases-function_item
decreases-function_item l = l.self.now.left * 16 + 3

abbrev pub decreases-procedure_item : goal.decreases-procedure_item
decreases-procedure_item l = l.self.now.left * 16 + 3

abbrev pub decreases-item : goal.decreases-item
decreases-item l = l.self.now.left * 16 + 4

abbrev pub decreases-part : goal.decreases-part
decreases-part l = l.self.now.left * 16 + 5

abbrev pub decreases-declared : goal.decreases-declared
decreases-declared l = l.self.now.left * 16 + 6

abbrev pub decreases-completion : goal.decreases-completion
decreases-completion l = l.self.now.left * 16 + 7

abbrev pub decreases-in_conditional : goal.decreases-in_conditional
decreases-in_conditional l = l.self.now.left * 16 + 8

abbrev pub decreases-in_repetition : goal.decreases-in_repetition
decreases-in_repetition l = l.self.now.left * 16 + 8

abbrev pub decreases-in_block : goal.decreases-in_block
decreases-in_block l = l.self.now.left * 16 + 8

abbrev pub decreases-in_body : goal.decreases-in_body
decreases-in_body l = l.self.now.left * 16 + 8
