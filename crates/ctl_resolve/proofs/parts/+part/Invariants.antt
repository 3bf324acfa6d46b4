-- Naming what is left, behind what is named, names all.
use Rattle.std.proofs.Common.{◌≡◌, ◌+◌, ◌*◌, [], drop}
use Rattle.ctl_syntax.specs.declared.item.Statement.TheVariants as s
use Rattle.ctl_resolve.specs.Naming.{each}
use Rattle.ctl_resolve.specs.Parts.{item_of, statement, named_branch, named_handler}
use Rattle.ctl_resolve.proofs.StatementDepths.{deepness, deepest_of_branches}
use Rattle.ctl_resolve.proofs.parts.+part.Given as goal

abbrev pub invariant-items-loop-one : goal.invariant-items-loop-one
invariant-items-loop-one l = each item_of l.resolved (drop l.one-index l.all) l.view ≡ each item_of [] l.all l.fn.view

abbrev pub invariant-statements-loop-one : goal.invariant-statements-loop-one
invariant-statements-loop-one l = each statement l.resolved (drop l.one-index l.all) l.view ≡ each statement [] l.all l.fn.view

abbrev pub invariant-branches-loop-one : goal.invariant-branches-loop-one
invariant-branches-loop-one l = each named_branch l.resolved (drop l.one-index l.all) l.view ≡ each named_branch [] l.all l.fn.view

abbrev pub invariant-handlers-loop-one : goal.invariant-handlers-loop-one
invariant-handlers-loop-one l = each named_handler l.resolved (drop l.one-index l.all) l.view ≡ each named_handler [] l.all l.fn.view

-- Each call goes down the tree, or at one size to a function of lower rank.

abbrev pub decreases-statement : goal.decreases-statement
decreases-statement l = goal.size-statement l * 8 + 1

abbrev pub decreases-body : goal.decreases-body
decreases-body l = goal.size-body l * 8 + 1

abbrev pub decreases-boxed_body : goal.decreases-boxed_body
decreases-boxed_body l = goal.size-boxed_body l * 8 + 2

abbrev pub decreases-statements : goal.decreases-statements
decreases-statements l = goal.size-statements l * 8 + 2

abbrev pub decreases-guarded : goal.decreases-guarded
decreases-guarded l = goal.size-guarded l * 8 + 3

abbrev pub decreases-branches : goal.decreases-branches
decreases-branches l = deepest_of_branches l.all.now * 8 + 4

abbrev pub decreases-handler : goal.decreases-handler
decreases-handler l = goal.size-handler l * 8 + 3

abbrev pub decreases-handlers : goal.decreases-handlers
decreases-handlers l = goal.size-handlers l * 8 + 4

abbrev pub decreases-exception_part : goal.decreases-exception_part
decreases-exception_part l = goal.size-exception_part l * 8 + 5

abbrev pub decreases-repeated : goal.decreases-repeated
decreases-repeated l = goal.size-repeated l * 8 + 3

abbrev pub decreases-body_item : goal.decreases-body_item
decreases-body_item l = goal.size-body_item l * 8 + 3

abbrev pub decreases-kind : goal.decreases-kind
decreases-kind l = goal.size-kind l * 8 + 4

abbrev pub decreases-item : goal.decreases-item
decreases-item l = goal.size-item l * 8 + 5

abbrev pub decreases-items : goal.decreases-items
decreases-items l = goal.size-items l * 8 + 6

abbrev pub decreases-conditional : goal.decreases-conditional
decreases-conditional l = deepness (s.If l.at l.first.now l.more.now l.others.now) * 8 + 0

abbrev pub decreases-endless : goal.decreases-endless
decreases-endless l = goal.size-endless l * 8 + 3

abbrev pub decreases-while_loop : goal.decreases-while_loop
decreases-while_loop l = goal.size-while_loop l * 8 + 3

abbrev pub decreases-counting : goal.decreases-counting
decreases-counting l = goal.size-counting l * 8 + 4

abbrev pub decreases-block : goal.decreases-block
decreases-block l = goal.size-block l * 8 + 3
