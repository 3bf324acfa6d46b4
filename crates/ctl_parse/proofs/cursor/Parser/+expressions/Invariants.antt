use Rattle.std.proofs.Common.{◌+◌, ◌*◌, map}
use Rattle.ctl_grammar.specs.Form.{none, many}
use Rattle.ctl_grammar.specs.Grammar.{addend, addends, multiplicand, multiplicands, next_expression, next_relation, suffix, suffixes}
use Rattle.ctl_parse.specs.Reads.{Gathers, pending}
use Rattle.ctl_parse.specs.View.{operand_node, suffix_node, view}
use Rattle.ctl_parse.proofs.cursor.Parser.+expressions.Given as goal

abbrev pub invariant-next_relations-more : goal.invariant-next_relations-more
invariant-next_relations-more l = Gathers (many (next_relation l.fn.operator)) (next_relation l.fn.operator) none l.fn.self (map (view) l.all) l.self

abbrev pub decreases-next_relations-more : goal.decreases-next_relations-more
decreases-next_relations-more l = pending l.self

abbrev pub invariant-next_addends-more : goal.invariant-next_addends-more
invariant-next_addends-more l = Gathers (addends) (addend) none l.fn.self (map (operand_node view) l.all) l.self

abbrev pub decreases-next_addends-more : goal.decreases-next_addends-more
decreases-next_addends-more l = pending l.self

abbrev pub invariant-next_multiplicands-more : goal.invariant-next_multiplicands-more
invariant-next_multiplicands-more l = Gathers (multiplicands) (multiplicand) none l.fn.self (map (operand_node view) l.all) l.self

abbrev pub decreases-next_multiplicands-more : goal.decreases-next_multiplicands-more
decreases-next_multiplicands-more l = pending l.self

abbrev pub invariant-suffixes-more : goal.invariant-suffixes-more
invariant-suffixes-more l = Gathers (suffixes) (suffix) none l.fn.self (map (suffix_node view) l.all) l.self

abbrev pub decreases-suffixes-more : goal.decreases-suffixes-more
decreases-suffixes-more l = pending l.self

abbrev pub invariant-next_expressions-more : goal.invariant-next_expressions-more
invariant-next_expressions-more l = Gathers (many (next_expression)) (next_expression) none l.fn.self (map (view) l.all) l.self

abbrev pub decreases-next_expressions-more : goal.decreases-next_expressions-more
decreases-next_expressions-more l = pending l.self

abbrev pub decreases-arguments : goal.decreases-arguments
decreases-arguments l = l.self.now.left * 32 + 0

abbrev pub decreases-enclosed : goal.decreases-enclosed
decreases-enclosed l = l.self.now.left * 32 + 0

abbrev pub decreases-enclosed_name : goal.decreases-enclosed_name
decreases-enclosed_name l = l.self.now.left * 32 + 0

abbrev pub decreases-suffix : goal.decreases-suffix
decreases-suffix l = l.self.now.left * 32 + 1

abbrev pub decreases-suffixes : goal.decreases-suffixes
decreases-suffixes l = l.self.now.left * 32 + 2

abbrev pub decreases-name : goal.decreases-name
decreases-name l = l.self.now.left * 32 + 3

abbrev pub decreases-handle : goal.decreases-handle
decreases-handle l = l.self.now.left * 32 + 1

abbrev pub decreases-qualified : goal.decreases-qualified
decreases-qualified l = l.self.now.left * 32 + 1

abbrev pub decreases-allocator : goal.decreases-allocator
decreases-allocator l = l.self.now.left * 32 + 2

abbrev pub decreases-primary : goal.decreases-primary
decreases-primary l = l.self.now.left * 32 + 4

abbrev pub decreases-factor : goal.decreases-factor
decreases-factor l = l.self.now.left * 32 + 5

abbrev pub decreases-multiplicand : goal.decreases-multiplicand
decreases-multiplicand l = l.self.now.left * 32 + 6

abbrev pub decreases-next_multiplicands : goal.decreases-next_multiplicands
decreases-next_multiplicands l = l.self.now.left * 32 + 7

abbrev pub decreases-multiplicands : goal.decreases-multiplicands
decreases-multiplicands l = l.self.now.left * 32 + 8

abbrev pub decreases-term : goal.decreases-term
decreases-term l = l.self.now.left * 32 + 9

abbrev pub decreases-addend : goal.decreases-addend
decreases-addend l = l.self.now.left * 32 + 10

abbrev pub decreases-next_addends : goal.decreases-next_addends
decreases-next_addends l = l.self.now.left * 32 + 11

abbrev pub decreases-addends : goal.decreases-addends
decreases-addends l = l.self.now.left * 32 + 12

abbrev pub decreases-simple : goal.decreases-simple
decreases-simple l = l.self.now.left * 32 + 13

abbrev pub decreases-compared : goal.decreases-compared
decreases-compared l = l.self.now.left * 32 + 14

abbrev pub decreases-relation : goal.decreases-relation
decreases-relation l = l.self.now.left * 32 + 15

abbrev pub decreases-next_relation : goal.decreases-next_relation
decreases-next_relation l = l.self.now.left * 32 + 16

abbrev pub decreases-next_relations : goal.decreases-next_relations
decreases-next_relations l = l.self.now.left * 32 + 17

abbrev pub decreases-relations : goal.decreases-relations
decreases-relations l = l.self.now.left * 32 + 18

abbrev pub decreases-conjunction : goal.decreases-conjunction
decreases-conjunction l = l.self.now.left * 32 + 19

abbrev pub decreases-disjunction : goal.decreases-disjunction
decreases-disjunction l = l.self.now.left * 32 + 19

abbrev pub decreases-joined : goal.decreases-joined
decreases-joined l = l.self.now.left * 32 + 20

abbrev pub decreases-expression : goal.decreases-expression
decreases-expression l = l.self.now.left * 32 + 21

abbrev pub decreases-next_expression : goal.decreases-next_expression
decreases-next_expression l = l.self.now.left * 32 + 22

abbrev pub decreases-next_expressions : goal.decreases-next_expressions
decreases-next_expressions l = l.self.now.left * 32 + 23

abbrev pub decreases-expressions : goal.decreases-expressions
decreases-expressions l = l.self.now.left * 32 + 24

abbrev pub decreases-in_enclosed : goal.decreases-in_enclosed
decreases-in_enclosed l = l.self.now.left * 32 + 25

abbrev pub decreases-in_arguments : goal.decreases-in_arguments
decreases-in_arguments l = l.self.now.left * 32 + 25

abbrev pub decreases-in_enclosed_name : goal.decreases-in_enclosed_name
decreases-in_enclosed_name l = l.self.now.left * 32 + 25
