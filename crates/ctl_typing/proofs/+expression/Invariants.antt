-- Judging what is left, behind what is judged, judges all.
use Rattle.std.proofs.Common.{◌≡◌, ◌∷◌, ◌+◌, ◌-◌, ◌*◌, [], map, drop}
use denote.Param.Weighed.{most}
use Rattle.ctl_syntax.specs.declared.denoted.Use.{Use}
use Rattle.ctl_syntax.specs.declared.operators.Operand.{Operand}
use Rattle.ctl_syntax.specs.declared.expression.Expression.{Expression, size-Expression}
use Rattle.ctl_syntax.specs.declared.expression.Expression.TheVariants.{New}
use Rattle.ctl_typing.specs.Judgement.{each, onward}
use Rattle.ctl_typing.specs.Senses as senses
use Rattle.ctl_typing.specs.Typing as spec
use Rattle.ctl_typing.proofs.Depths.{deepest, deepest_of_chain, deepest_of_list, deepest_of_all, deepest_beside, deepest_around}
use Rattle.ctl_typing.proofs.+expression.Given as goal

abbrev pub invariant-expressions::actuals_behind-loop-at : goal.invariant-expressions::actuals_behind-loop-at
invariant-expressions::actuals_behind-loop-at l =
    each (spec.actual_of l.tables) l.done (spec.matched (drop l.at l.formals) (map spec.sense (drop l.at l.more))) l.notes
    ≡ each (spec.actual_of l.tables) l.fn.so_far (spec.matched l.formals (map spec.sense l.more)) l.fn.notes

abbrev pub invariant-operations::operands_behind-loop-operand : goal.invariant-operations::operands_behind-loop-operand
invariant-operations::operands_behind-loop-operand l =
    each (spec.operand_as l.tables l.asked) l.done (map senses.operand_sense (drop l.operand-index l.rest)) l.notes
    ≡ each (spec.operand_as l.tables l.asked) l.fn.so_far (map senses.operand_sense l.rest) l.fn.notes

abbrev pub invariant-operations::truths-loop-x : goal.invariant-operations::truths-loop-x
invariant-operations::truths-loop-x l = each (spec.truth_of l.tables) l.done (map spec.sense (drop l.x-index l.more)) l.notes ≡ spec.truths_of l.tables (map spec.sense l.more) l.fn.notes

abbrev pub invariant-operations::truths_behind-loop-x : goal.invariant-operations::truths_behind-loop-x
invariant-operations::truths_behind-loop-x l =
    each (senses.truth_behind l.op l.tables) l.done (map spec.sense (drop l.x-index l.more)) l.notes ≡ senses.truths_behind l.op l.tables (map spec.sense l.more) l.fn.notes

abbrev pub invariant-expressions::suffixes-loop-suffix : goal.invariant-expressions::suffixes-loop-suffix
invariant-expressions::suffixes-loop-suffix l =
    onward l.found (spec.suffixes l.tables l.place (map senses.suffix_sense (drop l.suffix-index l.all))) l.notes
    ≡ onward l.fn.first (spec.suffixes l.tables l.place (map senses.suffix_sense l.all)) l.fn.notes

-- Each call goes down the expression, or at one depth to a function of lower rank.

abbrev pub decreases-expressions::expression : goal.decreases-expressions::expression
decreases-expressions::expression l = goal.size-expressions::expression l * 16 + 0

abbrev pub decreases-expressions::truth : goal.decreases-expressions::truth
decreases-expressions::truth l = goal.size-expressions::truth l * 16 + 1

abbrev pub decreases-operations::truths : goal.decreases-operations::truths
decreases-operations::truths l = goal.size-operations::truths l * 16 + 2

abbrev pub decreases-operations::truths_behind : goal.decreases-operations::truths_behind
decreases-operations::truths_behind l = goal.size-operations::truths_behind l * 16 + 2

abbrev pub decreases-operations::whole : goal.decreases-operations::whole
decreases-operations::whole l = goal.size-operations::whole l * 16 + 3

abbrev pub decreases-operations::short : goal.decreases-operations::short
decreases-operations::short l = goal.size-operations::short l * 16 + 3

abbrev pub decreases-operations::logical_behind : goal.decreases-operations::logical_behind
decreases-operations::logical_behind l = goal.size-operations::logical_behind l * 16 + 4

abbrev pub decreases-operations::logical : goal.decreases-operations::logical
decreases-operations::logical l = deepest (l.first.now ∷ l.second.now ∷ l.more.now) * 16 + 5

abbrev pub decreases-operations::unary : goal.decreases-operations::unary
decreases-operations::unary l = goal.size-operations::unary l * 16 + 1

abbrev pub decreases-operations::relation : goal.decreases-operations::relation
decreases-operations::relation l = deepest (l.left.now ∷ l.right.now ∷ []) * 16 + 1

abbrev pub decreases-operations::operands_behind : goal.decreases-operations::operands_behind
decreases-operations::operands_behind l = most (λ (o : Operand (Expression Use)). size-Expression Use o.operand) l.rest.now * 16 + 1

abbrev pub decreases-operations::operands_as : goal.decreases-operations::operands_as
decreases-operations::operands_as l = deepest_of_chain l.second.now l.rest.now * 16 + 2

abbrev pub decreases-operations::first_as : goal.decreases-operations::first_as
decreases-operations::first_as l = deepest_of_list l.first.now l.second.now l.rest.now * 16 + 3

abbrev pub decreases-operations::by_first : goal.decreases-operations::by_first
decreases-operations::by_first l = deepest_of_list l.first.now l.second.now l.rest.now * 16 + 4

abbrev pub decreases-operations::by_second : goal.decreases-operations::by_second
decreases-operations::by_second l = deepest_of_list l.first.now l.second.now l.rest.now * 16 + 5

abbrev pub decreases-operations::by_place : goal.decreases-operations::by_place
decreases-operations::by_place l = deepest_of_list l.first.now l.second.now l.rest.now * 16 + 4

abbrev pub decreases-operations::by_further : goal.decreases-operations::by_further
decreases-operations::by_further l = deepest_of_all l.first.now l.second.now l.before.now l.leading.now l.behind.now * 16 + 5

abbrev pub decreases-operations::around_second : goal.decreases-operations::around_second
decreases-operations::around_second l = deepest_beside l.first.now l.rest.now * 16 + 4

abbrev pub decreases-operations::around_further : goal.decreases-operations::around_further
decreases-operations::around_further l = deepest_around l.first.now l.second.now l.before.now l.behind.now * 16 + 4

abbrev pub decreases-operations::arithmetic : goal.decreases-operations::arithmetic
decreases-operations::arithmetic l = deepest_of_list l.first.now l.second.now l.rest.now * 16 + 6

abbrev pub decreases-operations::chain : goal.decreases-operations::chain
decreases-operations::chain l = deepest_of_list l.first.now l.second.now l.rest.now * 16 + 7

abbrev pub decreases-expressions::bare : goal.decreases-expressions::bare
decreases-expressions::bare l = goal.size-expressions::bare l * 16 + 0

abbrev pub decreases-expressions::actual_value : goal.decreases-expressions::actual_value
decreases-expressions::actual_value l = goal.size-expressions::actual_value l * 16 + 1

abbrev pub decreases-expressions::written_by : goal.decreases-expressions::written_by
decreases-expressions::written_by l = goal.size-expressions::written_by l * 16 + 2

abbrev pub decreases-expressions::variable_of : goal.decreases-expressions::variable_of
decreases-expressions::variable_of l = goal.size-expressions::variable_of l * 16 + 1

abbrev pub decreases-expressions::number_as : goal.decreases-expressions::number_as
decreases-expressions::number_as l = goal.size-expressions::number_as l * 16 + 1

abbrev pub decreases-expressions::with_pool : goal.decreases-expressions::with_pool
decreases-expressions::with_pool l = goal.size-expressions::with_pool l * 16 + 2

abbrev pub decreases-expressions::converted : goal.decreases-expressions::converted
decreases-expressions::converted l = goal.size-expressions::converted l * 16 + 2

abbrev pub decreases-expressions::value_or_none : goal.decreases-expressions::value_or_none
decreases-expressions::value_or_none l = goal.size-expressions::value_or_none l * 16 + 1

abbrev pub decreases-expressions::new_object : goal.decreases-expressions::new_object
decreases-expressions::new_object l = goal.size-expressions::new_object l * 16 + 3

abbrev pub decreases-expressions::object : goal.decreases-expressions::object
decreases-expressions::object l = goal.size-expressions::object l * 16 + 2

abbrev pub decreases-expressions::with_one : goal.decreases-expressions::with_one
decreases-expressions::with_one l = goal.size-expressions::with_one l * 16 + 3

abbrev pub decreases-expressions::record_by : goal.decreases-expressions::record_by
decreases-expressions::record_by l = goal.size-expressions::record_by l * 16 + 2

abbrev pub decreases-expressions::record_inside : goal.decreases-expressions::record_inside
decreases-expressions::record_inside l = goal.size-expressions::record_inside l * 16 + 2

abbrev pub decreases-expressions::actual_of : goal.decreases-expressions::actual_of
decreases-expressions::actual_of l = goal.size-expressions::actual_of l * 16 + 3

abbrev pub decreases-expressions::actuals_behind : goal.decreases-expressions::actuals_behind
decreases-expressions::actuals_behind l = goal.size-expressions::actuals_behind l * 16 + 4

abbrev pub decreases-expressions::actuals : goal.decreases-expressions::actuals
decreases-expressions::actuals l = deepest (l.first.now ∷ l.more.now) * 16 + 5

abbrev pub decreases-expressions::called : goal.decreases-expressions::called
decreases-expressions::called l = deepest (l.first.now ∷ l.more.now) * 16 + 6

abbrev pub decreases-expressions::with_arguments : goal.decreases-expressions::with_arguments
decreases-expressions::with_arguments l = deepest (l.first.now ∷ l.more.now) * 16 + 7

abbrev pub decreases-expressions::suffixed : goal.decreases-expressions::suffixed
decreases-expressions::suffixed l = goal.size-expressions::suffixed l * 16 + 8

abbrev pub decreases-expressions::suffixes : goal.decreases-expressions::suffixes
decreases-expressions::suffixes l = goal.size-expressions::suffixes l * 16 + 9

abbrev pub decreases-expressions::found : goal.decreases-expressions::found
decreases-expressions::found l = goal.size-expressions::found l * 16 + 10

abbrev pub decreases-expressions::named : goal.decreases-expressions::named
decreases-expressions::named l = goal.size-expressions::named l * 16 + 11

abbrev pub decreases-expressions::allocation : goal.decreases-expressions::allocation
decreases-expressions::allocation l = size-Expression Use (New l.place l.handle.now l.mark.now l.value.now) * 16 - 4

abbrev pub decreases-expressions::handle_or_none : goal.decreases-expressions::handle_or_none
decreases-expressions::handle_or_none l = goal.size-expressions::handle_or_none l * 16 + 11
