-- Naming what is left, behind what is named, names all.
use Rattle.std.proofs.Common.{◌≡◌, ◌+◌, ◌*◌, [], ◌∷◌, drop}
use Rattle.ctl_resolve.specs.Naming.{each}
use Rattle.ctl_resolve.specs.Expressions.{expression, named_operand, named_suffix}
use Rattle.ctl_resolve.proofs.ExpressionDepths.{deepest, deepest_of_chain}
use Rattle.ctl_resolve.proofs.expressions.+expression.Given as goal

abbrev pub invariant-expressions-loop-one : goal.invariant-expressions-loop-one
invariant-expressions-loop-one l = each expression l.resolved (drop l.one-index l.all) l.view ≡ each expression [] l.all l.fn.view

abbrev pub invariant-operands-loop-one : goal.invariant-operands-loop-one
invariant-operands-loop-one l = each named_operand l.resolved (drop l.one-index l.all) l.view ≡ each named_operand [] l.all l.fn.view

abbrev pub invariant-suffixes-loop-at : goal.invariant-suffixes-loop-at
invariant-suffixes-loop-at l = each named_suffix l.resolved (drop l.at l.all) l.view ≡ each named_suffix [] (drop l.from l.all) l.fn.view

-- Each call goes down the expression, or at one size to a function of lower rank.

abbrev pub decreases-expression : goal.decreases-expression
decreases-expression l = goal.size-expression l * 8 + 0

abbrev pub decreases-boxed : goal.decreases-boxed
decreases-boxed l = goal.size-boxed l * 8 + 1

abbrev pub decreases-operand : goal.decreases-operand
decreases-operand l = goal.size-operand l * 8 + 1

abbrev pub decreases-boxed_operand : goal.decreases-boxed_operand
decreases-boxed_operand l = goal.size-boxed_operand l * 8 + 2

abbrev pub decreases-expressions : goal.decreases-expressions
decreases-expressions l = goal.size-expressions l * 8 + 1

abbrev pub decreases-value_or_none : goal.decreases-value_or_none
decreases-value_or_none l = goal.size-value_or_none l * 8 + 2

abbrev pub decreases-operands : goal.decreases-operands
decreases-operands l = goal.size-operands l * 8 + 2

abbrev pub decreases-suffix : goal.decreases-suffix
decreases-suffix l = goal.size-suffix l * 8 + 3

abbrev pub decreases-suffixes : goal.decreases-suffixes
decreases-suffixes l = goal.size-suffixes l * 8 + 4

abbrev pub decreases-name : goal.decreases-name
decreases-name l = goal.size-name l * 8 + 5

abbrev pub decreases-handle_or_none : goal.decreases-handle_or_none
decreases-handle_or_none l = goal.size-handle_or_none l * 8 + 6

abbrev pub decreases-logical : goal.decreases-logical
decreases-logical l = deepest (l.first.now ∷ l.second.now ∷ l.more.now) * 8 + 2

abbrev pub decreases-relation : goal.decreases-relation
decreases-relation l = deepest (l.left.now ∷ l.right.now ∷ []) * 8 + 2

abbrev pub decreases-chain : goal.decreases-chain
decreases-chain l = deepest_of_chain l.first.now l.second.now l.more.now * 8 + 3

abbrev pub decreases-arguments : goal.decreases-arguments
decreases-arguments l = deepest (l.first.now ∷ l.more.now) * 8 + 2
