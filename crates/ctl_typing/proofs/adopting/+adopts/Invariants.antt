use Rattle.std.proofs.Common.{◌≡◌, ◌∷◌, ◌+◌, ◌*◌, map, drop}
use Rattle.ctl_typing.specs.Senses as senses
use Rattle.ctl_typing.specs.Typing as spec
use Rattle.ctl_typing.proofs.Depths.{deepest_of_list}
use Rattle.ctl_typing.proofs.adopting.+adopts.Given as goal

-- those that are left, behind those so far, take on what all do
abbrev pub invariant-all_adopt-loop-operand : goal.invariant-all_adopt-loop-operand
invariant-all_adopt-loop-operand l =
    spec.all_adopt l.so_far (map senses.operand_sense (drop l.operand-index l.rest))
    ≡ spec.all_adopt (spec.sense l.fn.first).adopts (senses.operand_sense l.fn.second ∷ map senses.operand_sense l.rest)

-- Each call goes down the expression, or at one depth to a function of lower rank.

abbrev pub decreases-adopts : goal.decreases-adopts
decreases-adopts l = goal.size-adopts l * 2 + 0

abbrev pub decreases-all_adopt : goal.decreases-all_adopt
decreases-all_adopt l = deepest_of_list l.first.now l.second.now l.rest.now * 2 + 1
