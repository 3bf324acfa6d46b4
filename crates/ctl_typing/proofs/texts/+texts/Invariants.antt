-- What is put by the operands that are left, behind what is put so far, is what all put.
use Rattle.std.proofs.Common.{◌≡◌, ◌+◌, ◌*◌, map, drop}
use denote.Param.Weighed.{most}
use Rattle.ctl_syntax.specs.declared.denoted.Use.{Use}
use Rattle.ctl_syntax.specs.declared.operators.Operand.{Operand}
use Rattle.ctl_syntax.specs.declared.expression.Expression.{Expression, size-Expression}
use Rattle.ctl_typing.specs.Putting as putting
use Rattle.ctl_typing.specs.Senses as senses
use Rattle.ctl_typing.proofs.Depths.{deepest_of_list}
use Rattle.ctl_typing.proofs.texts.+texts.Given as goal

abbrev pub invariant-texts_behind-loop-operand : goal.invariant-texts_behind-loop-operand
invariant-texts_behind-loop-operand l =
    putting.texts_behind l.tables l.done (map senses.operand_sense (drop l.operand-index l.rest)) l.notes
    ≡ putting.texts_behind l.tables l.fn.so_far (map senses.operand_sense l.rest) l.fn.notes

-- Each call goes down the expression, or at one depth to a function of lower rank.

abbrev pub decreases-texts : goal.decreases-texts
decreases-texts l = goal.size-texts l * 16 + 0

abbrev pub decreases-texts_behind : goal.decreases-texts_behind
decreases-texts_behind l = most (λ (o : Operand (Expression Use)). size-Expression Use o.operand) l.rest.now * 16 + 1

abbrev pub decreases-joined_texts : goal.decreases-joined_texts
decreases-joined_texts l = deepest_of_list l.first.now l.second.now l.rest.now * 16 + 2
