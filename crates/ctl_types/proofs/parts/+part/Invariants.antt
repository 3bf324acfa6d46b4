use Rattle.std.proofs.Common.{◌≡◌, [], map, drop, Some, ◌+◌, ◌*◌}
use Rattle.ctl_types.specs.Elaboration as spec
use Rattle.ctl_types.specs.Parts as part
use Rattle.ctl_typing.specs.Judgement.{each}
use Rattle.ctl_types.proofs.parts.+part.Given as goal

abbrev pub invariant-sequence-loop-one : goal.invariant-sequence-loop-one
invariant-sequence-loop-one l =
    each (λ s. s l.around) l.done (map spec.statement (drop l.one-index l.statements)) l.draft
    ≡ each (λ s. s l.around) (Some []) (map spec.statement l.statements) l.fn.draft

abbrev pub invariant-branches-loop-one : goal.invariant-branches-loop-one
invariant-branches-loop-one l =
    each (spec.branch l.around) l.done (map part.branch_of (drop l.one-index l.more)) l.draft
    ≡ each (spec.branch l.around) l.fn.before (map part.branch_of l.more) l.fn.draft

-- how deep is what is left, and then the order of the calls at one depth
abbrev pub decreases-statement : goal.decreases-statement
decreases-statement l = goal.size-statement l * 16 + 0

abbrev pub decreases-sequence : goal.decreases-sequence
decreases-sequence l = goal.size-sequence l * 16 + 1

abbrev pub decreases-branch : goal.decreases-branch
decreases-branch l = goal.size-branch l * 16 + 2

abbrev pub decreases-branches : goal.decreases-branches
decreases-branches l = goal.size-branches l * 16 + 3

abbrev pub decreases-endless : goal.decreases-endless
decreases-endless l = goal.size-endless l * 16 + 2

abbrev pub decreases-while_loop : goal.decreases-while_loop
decreases-while_loop l = goal.size-while_loop l * 16 + 2

abbrev pub decreases-with_parameter : goal.decreases-with_parameter
decreases-with_parameter l = goal.size-with_parameter l * 16 + 2

abbrev pub decreases-counting : goal.decreases-counting
decreases-counting l = goal.size-counting l * 16 + 3

abbrev pub decreases-block : goal.decreases-block
decreases-block l = goal.size-block l * 16 + 5

abbrev pub decreases-master : goal.decreases-master
decreases-master l = goal.size-master l * 16 + 4

abbrev pub decreases-declarative_part : goal.decreases-declarative_part
decreases-declarative_part l = goal.size-declarative_part l * 16 + 3

abbrev pub decreases-items_in_order : goal.decreases-items_in_order
decreases-items_in_order l = goal.size-items_in_order l * 16 + 2

abbrev pub decreases-item : goal.decreases-item
decreases-item l = goal.size-item l * 16 + 1

abbrev pub decreases-subprogram : goal.decreases-subprogram
decreases-subprogram l = goal.size-subprogram l * 16 + 6

abbrev pub decreases-subprogram_body : goal.decreases-subprogram_body
decreases-subprogram_body l = goal.size-subprogram_body l * 16 + 5

abbrev pub decreases-handlers : goal.decreases-handlers
decreases-handlers l = goal.size-handlers l * 16 + 4

abbrev pub decreases-handler : goal.decreases-handler
decreases-handler l = goal.size-handler l * 16 + 2

abbrev pub decreases-handlers_in_order : goal.decreases-handlers_in_order
decreases-handlers_in_order l = goal.size-handlers_in_order l * 16 + 3

abbrev pub invariant-handlers_in_order-loop-one : goal.invariant-handlers_in_order-loop-one
invariant-handlers_in_order-loop-one l =
    each (spec.handler l.place l.around) l.done (map part.handler_of (drop l.one-index l.handlers)) l.draft
    ≡ each (spec.handler l.place l.around) (Some []) (map part.handler_of l.handlers) l.fn.draft

abbrev pub invariant-items_in_order-loop-one : goal.invariant-items_in_order-loop-one
invariant-items_in_order-loop-one l = record {
  left : l.left ≡ part.bodies_on 0 (drop l.one-index l.items);
  walked : spec.items l.around l.done (map spec.item_judged (drop l.one-index l.items)) l.draft ≡ spec.items l.around (Some []) (map spec.item_judged l.items) l.fn.draft;
}
