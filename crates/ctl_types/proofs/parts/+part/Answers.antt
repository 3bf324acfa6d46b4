use Rattle.std.proofs.Common.{arith, map, drop, length, ap, sym, ◌∙◌, ◌+◌, Some}
use Rattle.ctl_syntax.specs.declared.denoted.Definition.{Definition}
use Rattle.ctl_syntax.specs.declared.denoted.Use.{Use}
use Rattle.ctl_syntax.specs.declared.item.Body.{out-Body, fold_out-Body}
use Rattle.ctl_syntax.specs.declared.item.Item.{fold_out-Item}
use Rattle.ctl_syntax.specs.declared.item.Statement.{Statement, size-Statement, size_is-Statement, fold_out-Statement}
use Rattle.ctl_syntax.specs.declared.item.Statement.TheVariants.{outs-Assignment, If, outs-If, outs-Loop}
use Rattle.ctl_types.specs.Elaboration as spec
use Rattle.ctl_statements.specs.Statements.{assignment}
use Rattle.ctl_types.specs.Parts as part
use Rattle.ctl_typing.proofs.Turns.{each_walked}
use Rattle.ctl_typing.specs.Judgement.{appended, each}
use Rattle.ctl_typing.specs.Senses.{suffix_sense}
use Rattle.ctl_typing.specs.Typing.{sense}
use Rattle.ctl_types.proofs.Conditionals.{conditional_judged}
use Rattle.ctl_draft.proofs.Drafts.{by_tables_judges, judges_as}
use Rattle.ctl_types.proofs.Wholes.{master_judged}
use Rattle.ctl_draft.proofs.Behind.{next_of}
use Rattle.ctl_types.proofs.Ordered.{bodies_left, ordered, items_turn}
use Rattle.ctl_types.proofs.parts.+part.Goals as goal

pub statement-returns-in-Assignment : goal.statement-returns-in-Assignment
statement-returns-in-Assignment t c =
    let i = c.in-Assignment in
    rw (i.is, fold_out-Statement, outs-Assignment i.field-0 i.to i.value)
    (by_tables_judges (assignment i.to.first (map suffix_sense i.to.suffixes) (sense i.value)) c.args.draft.now c.assignment.result c.assignment.new.notes c.assignment.ensures)

pub statement-returns-in-Loop : goal.statement-returns-in-Loop
statement-returns-in-Loop t c =
    let i = c.in-Loop in
    rw (i.is, fold_out-Statement, outs-Loop i.field-0 i.statements, ← c.as_slice-in-Loop.ensures) c.endless.ensures

pub branch-sequence-requires : goal.branch-sequence-requires
branch-sequence-requires t c = rw c.as_slice-statements.ensures (omega (arith, c.decreases), tt)

pub statement-branches-requires : goal.statement-branches-requires
statement-branches-requires t c =
    let i = c.in-If in
    let sized = rw (outs-If i.field-0 i.first i.more i.otherwise) at (size_is-Statement Definition Use (If i.field-0 i.first i.more i.otherwise)) in
    let whole = ap (λ (s : Statement Definition Use). size-Statement Definition Use s) i.is in
    rw c.as_slice.ensures (omega (arith, sized, whole, c.decreases), tt)

pub statement-sequence-requires : goal.statement-sequence-requires
statement-sequence-requires t c =
    let i = c.in-If in
    let sized = rw (outs-If i.field-0 i.first i.more i.otherwise) at (size_is-Statement Definition Use (If i.field-0 i.first i.more i.otherwise)) in
    let whole = ap (λ (s : Statement Definition Use). size-Statement Definition Use s) i.is in
    rw c.as_slice-in-If.ensures (omega (arith, sized, whole, c.decreases), tt)

pub statement-returns-in_ok-otherwise-in-If : goal.statement-returns-in_ok-otherwise-in-If
statement-returns-in_ok-otherwise-in-If t c =
    let i = c.in-If in
    let one = c.in_ok-first-in-If.first in
    let appended_first = c.in_ok-first-in-If-2.ensures ∙ ap (λ none. appended (Some none) one) c.new.ensures in
    let arms = rw (appended_first, c.as_slice.ensures) at c.in_ok-arms-in-If.ensures in
    let last = rw c.as_slice-in-If.ensures at c.in_ok-otherwise-in-If.ensures in
    rw (i.is, fold_out-Statement, outs-If i.field-0 i.first i.more i.otherwise, c.conditional.ensures)
    (conditional_judged c.args.around (part.branch_of i.first) (map part.branch_of i.more) (map spec.statement i.otherwise) c.args.draft.now c.branch-alloc.new.draft c.branches.new.draft c.sequence.new.draft
    c.in_ok-first-in-If.first c.in_ok-arms-in-If.arms c.in_ok-otherwise-in-If.otherwise c.in_ok-first-in-If.ensures arms last)

pub master-returns : goal.master-returns
master-returns t c =
    let b = c.args.body.now in
    let items = rw c.as_slice.ensures at c.in_ok-items.ensures in
    let statements = rw c.as_slice-2.ensures at c.in_ok-statements.ensures in
    let handlers = rw c.as_slice-3.ensures at c.in_ok-handlers.ensures in
    rw (fold_out-Body, c.master_of.ensures, c.len.ensures)
    (master_judged (spec.part (map spec.item_judged (out-Body Definition Use b).items) c.args.around) (spec.sequence (map spec.statement (out-Body Definition Use b).statements) c.args.around)
    (spec.handlers c.args.place c.args.around (map part.handler_of (out-Body Definition Use b).handlers)) c.args.draft.now c.declarative_part.new.draft c.sequence.new.draft c.handlers.new.draft
    c.in_ok-items.items c.in_ok-statements.statements c.in_ok-handlers.handlers items statements handlers)

pub declarative_part-returns : goal.declarative_part-returns
declarative_part-returns t c =
    let items = map spec.item_judged c.args.items.now in
    let d = c.args.draft.now in
    let waiting = length d.waiting in
    let judged = ap (λ r. spec.part_behind c.args.around waiting r) c.in_ok-judged.ensures in
    judges_as (spec.part items c.args.around) (λ e. spec.part_behind c.args.around waiting (c.in_ok-judged.judged, e)) d c.items_in_order.new.draft c.end_part.result c.end_part.new.draft
    judged (rw c.len-waiting.ensures at c.end_part.ensures)

pub items_in_order-loop-one-preserved : goal.items_in_order-loop-one-preserved
items_in_order-loop-one-preserved t c =
    let all = c.args.items.now in
    let i = c.loop-one.one-index in
    let x = c.one-item.result in
    let rest = drop (i + 1) all in
    let split = next_of all i x c.loop-one-test.true c.one-item.is in
    let left = c.without_body-left.ensures ∙ ap (part.bodies_but x) (c.loop-one.invariant.left ∙ ap (part.bodies_on 0) split) ∙ bodies_left x rest in
    let order = c.order_before.ensures ∙ ap part.order_with left ∙ sym (ordered rest) in
    record {
      left = left;
      walked =
          items_turn c.args.around c.loop-one.done c.in_ok-done.done c.in_ok-judged.judged x rest c.loop-one.draft c.item.new.draft c.order_before.result order c.in_ok-judged.ensures c.in_ok-done.ensures
          ∙ ap (λ xs. spec.items c.args.around c.loop-one.done (map spec.item_judged xs) c.loop-one.draft) (sym split)
          ∙ c.loop-one.invariant.walked;
    }

pub item-returns-in-Body : goal.item-returns-in-Body
item-returns-in-Body t c = rw (fold_out-Item, c.in-Body.is, ← c.get.ensures) (c.subprogram.ensures c.args.order)

pub item-returns-in_ok-pool_clause-in-StoragePool : goal.item-returns-in_ok-pool_clause-in-StoragePool
item-returns-in_ok-pool_clause-in-StoragePool t c = rw (fold_out-Item, c.in-StoragePool.is) (ap spec.surely c.in_ok-pool_clause-in-StoragePool.ensures)

pub handlers_in_order-loop-one-preserved : goal.handlers_in_order-loop-one-preserved
handlers_in_order-loop-one-preserved t c =
    let all = c.args.handlers.now in
    let i = c.loop-one.one-index in
    let f = spec.handler c.args.place c.args.around in
    let split = next_of all i c.one-item.result c.loop-one-test.true c.one-item.is in
    each_walked f c.loop-one.done c.in_ok-done.done c.in_ok-judged.judged (part.handler_of c.one-item.result) (map part.handler_of (drop (i + 1) all)) c.loop-one.draft c.handler.new.draft c.in_ok-judged.ensures c.in_ok-done.ensures
    ∙ ap (λ hs. each f c.loop-one.done (map part.handler_of hs) c.loop-one.draft) (sym split)
    ∙ c.loop-one.invariant
