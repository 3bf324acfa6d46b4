use Rattle.ctl_grammar.proofs.Late.{function_here, function_past, procedure_here, procedure_past, specification_here, specification_past}
use Rattle.ctl_grammar.specs.Form.{at, leaf, none, pair, tag, written}
use Rattle.ctl_grammar.specs.Grammar.{behind, behind_is, behind_name, body, branch, branches, clause, completed, completed_function, completed_procedure, completed_specification, completion, declared, end_name, function, function_item, handled, handler, handler_list, handlers, identifier, identifiers, instance, item, name, named_item, next_branch, otherwise, overriding_item, part, procedure_item, simple_statement, statement, statements, type_item}
use Rattle.ctl_grammar.specs.Label as labels
use Rattle.ctl_grammar.specs.Nodes.{behind_2, behind_3, first, identifier_of, no, or_else, part_2, part_2_letters, part_3, part_5, procedure_of, row_of, second, yes}
use Rattle.ctl_grammar.specs.Reading.{read}
use Rattle.ctl_parse.proofs.Forms.{bounding, elsewhere, inside, setting}
use Rattle.ctl_parse.proofs.Keeping.{kept_behind_2, kept_behind_3, kept_blocked, kept_first_first, kept_letters, kept_looped, kept_name_letters, kept_part_2, kept_part_3, kept_part_5, kept_procedure_item, paired}
use Rattle.ctl_parse.proofs.PartViews.{boxing, completed_kept, some_node, view_if, view_of_body, view_of_item}
use Rattle.ctl_parse.proofs.Rows.{beginning, beginning_pushed, gathered, gathering, smaller}
use Rattle.ctl_parse.proofs.Steps.{barring, being, building, building_as, choosing, keeping, kept_first, kept_second, making, making_2, nesting, passing, staying, then}
use Rattle.ctl_parse.specs.Kept.{kept_here, subprogram_part}
use Rattle.ctl_parse.specs.Parts.{branch_node, completed_node, handler_node, scheme_node, specification_node, view_item, view_statement}
use Rattle.ctl_parse.specs.Reads.{Appends, Reads}
use Rattle.ctl_parse.specs.View.{identifier_node}
use Rattle.std.proofs.Common.{ap, map, refl, subst, sym, ◌∙◌}
use Rattle.ctl_parse.proofs.cursor.Parser.+statements.Goals as goal

pub statements-more-init : goal.statements-more-init
unfolding statements statement simple_statement name identifier
statements-more-init t c = beginning_pushed view_statement c.statement-first.ensures (subst (λ b. Appends b c.statement-first.result c.push.new.all c.statement-first.new.self c.push.new.self) c.new-all.ensures c.push.ensures)

pub statements-more-smaller : goal.statements-more-smaller
unfolding statements statement simple_statement name identifier
statements-more-smaller t c = smaller refl (sym c.at_statement.ensures ∙ c.more-test.true) c.statement-next.ensures c.push-in-more.ensures

pub statements-more-preserved : goal.statements-more-preserved
unfolding statements statement simple_statement name identifier
statements-more-preserved t c = gathering view_statement c.more.invariant refl (sym c.at_statement.ensures ∙ c.more-test.true) c.statement-next.ensures c.push-in-more.ensures

pub statements-returns : goal.statements-returns
unfolding statements statement simple_statement name identifier
statements-returns t c = gathered c.more.invariant (sym c.at_statement.ensures ∙ c.more-test.false)

pub conditional-returns-then-open : goal.conditional-returns-then-open
conditional-returns-then-open t c = nesting c.next_is-is_next.ensures (c.open.ensures.opened c.if-open.true) c.in_conditional-inside.ensures c.close.ensures.left (ap (λ r. r.now) c.close.ensures.rest) c.close.ensures.fault

pub conditional-returns-else-open : goal.conditional-returns-else-open
conditional-returns-else-open t c = barring c.next_is-is_next.ensures (c.open.ensures.unopened c.if-open.false)

pub in_conditional-returns : goal.in_conditional-returns
unfolding body branches
in_conditional-returns t c = being (view_if _ _ _ _) (making (λ v. pair (first v) (tag labels.If (pair (part_2 v) (part_3 v)))) (λ v. paired (kept_first v) (ap (tag labels.If) (paired (kept_part_2 v) (kept_part_3 v)))) (then c.mark-span.ensures (then (then c.branch-first.ensures c.next_branches-more.ensures) (then c.otherwise-others.ensures c.end_if.ensures))))

pub branch-returns : goal.branch-returns
unfolding branch
branch-returns t c = making (λ v. pair (first v) (behind_2 v)) (λ v. paired (kept_first v) (kept_behind_2 v)) (then c.expression-condition.ensures (then c.skip.ensures c.statements-statements.ensures))

pub next_branch-returns : goal.next_branch-returns
unfolding next_branch
next_branch-returns t c = making_2 second (λ x y. refl) c.skip.ensures c.branch-self.ensures

pub next_branches-more-init : goal.next_branches-more-init
unfolding next_branch
next_branches-more-init t c = rw c.new-all.ensures (beginning c.args.self.now)

pub next_branches-more-smaller : goal.next_branches-more-smaller
unfolding next_branch
next_branches-more-smaller t c = smaller refl (sym c.next_is.ensures ∙ c.more-test.true) c.next_branch-next.ensures c.push.ensures

pub next_branches-more-preserved : goal.next_branches-more-preserved
unfolding next_branch
next_branches-more-preserved t c = gathering (branch_node view_statement) c.more.invariant refl (sym c.next_is.ensures ∙ c.more-test.true) c.next_branch-next.ensures c.push.ensures

pub next_branches-returns : goal.next_branches-returns
unfolding next_branch
next_branches-returns t c = gathered c.more.invariant (sym c.next_is.ensures ∙ c.more-test.false)

pub otherwise-returns-then-next_is : goal.otherwise-returns-then-next_is
unfolding otherwise
otherwise-returns-then-next_is t c = choosing (sym c.next_is.ensures ∙ c.if-next_is.true) (making_2 second (λ x y. refl) c.skip.ensures c.statements.ensures)

pub otherwise-returns-else-next_is : goal.otherwise-returns-else-next_is
unfolding otherwise
otherwise-returns-else-next_is t c = passing (sym c.next_is.ensures ∙ c.if-next_is.false) (rw c.new.ensures (staying _))

pub repetition-returns-then-open : goal.repetition-returns-then-open
repetition-returns-then-open t c = nesting c.at_repetition-is_next.ensures (c.open.ensures.opened c.if-open.true) c.in_repetition-inside.ensures c.close.ensures.left (ap (λ r. r.now) c.close.ensures.rest) c.close.ensures.fault

pub repetition-returns-else-open : goal.repetition-returns-else-open
repetition-returns-else-open t c = barring c.at_repetition-is_next.ensures (c.open.ensures.unopened c.if-open.false)

pub in_repetition-returns : goal.in_repetition-returns
unfolding body
in_repetition-returns t c = being (c.looped.ensures ∙ ap (λ p. pair p (tag labels.Loop (pair (scheme_node c.scheme-start.result.1) (row_of (map view_statement c.statements-statements.result))))) c.earlier-span.ensures) (making (λ v. pair (or_else (first (first v)) (part_2 v)) (tag labels.Loop (pair (second (first v)) (part_3 v)))) kept_looped (then c.scheme-start.ensures (then c.mark-word.ensures (then c.statements-statements.ensures c.end_loop.ensures))))

pub block-returns-then-open : goal.block-returns-then-open
block-returns-then-open t c = nesting c.at_block-is_next.ensures (c.open.ensures.opened c.if-open.true) c.in_block-inside.ensures c.close.ensures.left (ap (λ r. r.now) c.close.ensures.rest) c.close.ensures.fault

pub block-returns-else-open : goal.block-returns-else-open
block-returns-else-open t c = barring c.at_block-is_next.ensures (c.open.ensures.unopened c.if-open.false)

pub in_block-returns : goal.in_block-returns
unfolding body
in_block-returns t c = building (making (λ v. pair (or_else (first (first v)) (part_2 v)) (tag labels.Block (pair (second (first v)) (part_3 v)))) kept_blocked (then c.declared-start.ensures (then c.mark-word.ensures (then c.handled-statements.ensures (then c.skip.ensures c.skip-2.ensures))))) (building_as (λ z. paired (sym c.earlier-span.ensures) (ap (tag labels.Block) (sym (view_of_body _ _ _)))) c.blocked.ensures)

pub declared-returns-then-next_is : goal.declared-returns-then-next_is
unfolding declared
declared-returns-then-next_is t c = choosing (sym c.next_is.ensures ∙ c.if-next_is.true) (then c.mark-span.ensures c.part-items.ensures)

pub declared-returns-else-next_is : goal.declared-returns-else-next_is
unfolding declared
declared-returns-else-next_is t c = passing (sym c.next_is.ensures ∙ c.if-next_is.false) (rw c.new.ensures (making (λ v. pair none none) (λ v. refl) (staying _)))

pub handled-returns : goal.handled-returns
unfolding handled
handled-returns t c = then c.statements-statements.ensures c.handlers-handlers.ensures

pub handlers-returns-then-next_is : goal.handlers-returns-then-next_is
unfolding handlers
handlers-returns-then-next_is t c = choosing (sym c.next_is.ensures ∙ c.if-next_is.true) (making_2 second (λ x y. refl) c.skip.ensures c.handler_list.ensures)

pub handlers-returns-else-next_is : goal.handlers-returns-else-next_is
unfolding handlers
handlers-returns-else-next_is t c = passing (sym c.next_is.ensures ∙ c.if-next_is.false) (rw c.new.ensures (staying _))

pub handler_list-more-init : goal.handler_list-more-init
unfolding handler_list handler
handler_list-more-init t c = beginning_pushed (handler_node view_statement) c.handler-first.ensures (subst (λ b. Appends b c.handler-first.result c.push.new.all c.handler-first.new.self c.push.new.self) c.new-all.ensures c.push.ensures)

pub handler_list-more-smaller : goal.handler_list-more-smaller
unfolding handler_list handler
handler_list-more-smaller t c = smaller refl (sym c.next_is.ensures ∙ c.more-test.true) c.handler-next.ensures c.push-in-more.ensures

pub handler_list-more-preserved : goal.handler_list-more-preserved
unfolding handler_list handler
handler_list-more-preserved t c = gathering (handler_node view_statement) c.more.invariant refl (sym c.next_is.ensures ∙ c.more-test.true) c.handler-next.ensures c.push-in-more.ensures

pub handler_list-returns : goal.handler_list-returns
unfolding handler_list handler
handler_list-returns t c = gathered c.more.invariant (sym c.next_is.ensures ∙ c.more-test.false)

pub handler-returns : goal.handler-returns
unfolding handler
handler-returns t c = making (λ v. pair (first v) (pair (part_2 v) (behind_3 v))) (λ v. paired (kept_first v) (paired (kept_part_2 v) (kept_behind_3 v))) (then c.mark-span.ensures (then c.choices-choices.ensures (then c.skip.ensures c.statements-statements.ensures)))

pub part-more-init : goal.part-more-init
unfolding part item overriding_item procedure_item completed_procedure function_item completed_function function type_item clause named_item identifiers identifier
part-more-init t c = rw c.new-all.ensures (beginning c.args.self.now)

pub part-more-smaller : goal.part-more-smaller
unfolding part item overriding_item procedure_item completed_procedure function_item completed_function function type_item clause named_item identifiers identifier
part-more-smaller t c = smaller refl (sym c.at_item.ensures ∙ c.more-test.true) c.item-next.ensures c.push.ensures

pub part-more-preserved : goal.part-more-preserved
unfolding part item overriding_item procedure_item completed_procedure function_item completed_function function type_item clause named_item identifiers identifier
part-more-preserved t c = gathering view_item c.more.invariant refl (sym c.at_item.ensures ∙ c.more-test.true) c.item-next.ensures c.push.ensures

pub part-returns : goal.part-returns
unfolding part item overriding_item procedure_item completed_procedure function_item completed_function function type_item clause named_item identifiers identifier
part-returns t c = gathered c.more.invariant (sym c.at_item.ensures ∙ c.more-test.false)

pub item-returns-then-next_is : goal.item-returns-then-next_is
unfolding item overriding_item procedure_item completed_procedure function_item completed_function function type_item clause named_item identifiers identifier
item-returns-then-next_is t c = choosing (sym c.next_is.ensures ∙ c.if-next_is.true) (c.overriding_item.ensures)

pub item-returns-then-next_is-2 : goal.item-returns-then-next_is-2
unfolding item overriding_item procedure_item completed_procedure function_item completed_function function type_item clause named_item identifiers identifier
item-returns-then-next_is-2 t c = passing (sym c.next_is.ensures ∙ c.if-next_is.false) (choosing (sym c.next_is-else-next_is.ensures ∙ c.if-next_is-2.true) (c.procedure_item.ensures))

pub item-returns-then-next_is-3 : goal.item-returns-then-next_is-3
unfolding item overriding_item procedure_item completed_procedure function_item completed_function function type_item clause named_item identifiers identifier
item-returns-then-next_is-3 t c = passing (sym c.next_is.ensures ∙ c.if-next_is.false) (passing (sym c.next_is-else-next_is.ensures ∙ c.if-next_is-2.false) (choosing (sym c.next_is-else-next_is-2.ensures ∙ c.if-next_is-3.true) (c.function_item.ensures)))

pub item-returns-then-next_is-4 : goal.item-returns-then-next_is-4
unfolding item overriding_item procedure_item completed_procedure function_item completed_function function type_item clause named_item identifiers identifier
item-returns-then-next_is-4 t c = passing (sym c.next_is.ensures ∙ c.if-next_is.false) (passing (sym c.next_is-else-next_is.ensures ∙ c.if-next_is-2.false) (passing (sym c.next_is-else-next_is-2.ensures ∙ c.if-next_is-3.false) (choosing (sym c.next_is-else-next_is-3.ensures ∙ c.if-next_is-4.true) (c.type_item.ensures))))

pub item-returns-then-next_is-5 : goal.item-returns-then-next_is-5
unfolding item overriding_item procedure_item completed_procedure function_item completed_function function type_item clause named_item identifiers identifier
item-returns-then-next_is-5 t c = passing (sym c.next_is.ensures ∙ c.if-next_is.false) (passing (sym c.next_is-else-next_is.ensures ∙ c.if-next_is-2.false) (passing (sym c.next_is-else-next_is-2.ensures ∙ c.if-next_is-3.false) (passing (sym c.next_is-else-next_is-3.ensures ∙ c.if-next_is-4.false) (choosing (sym c.next_is-else-next_is-4.ensures ∙ c.if-next_is-5.true) (c.clause.ensures)))))

pub item-returns-else-next_is-5 : goal.item-returns-else-next_is-5
unfolding item overriding_item procedure_item completed_procedure function_item completed_function function type_item clause named_item identifiers identifier
item-returns-else-next_is-5 t c = passing (sym c.next_is.ensures ∙ c.if-next_is.false) (passing (sym c.next_is-else-next_is.ensures ∙ c.if-next_is-2.false) (passing (sym c.next_is-else-next_is-2.ensures ∙ c.if-next_is-3.false) (passing (sym c.next_is-else-next_is-3.ensures ∙ c.if-next_is-4.false) (passing (sym c.next_is-else-next_is-4.ensures ∙ c.if-next_is-5.false) (c.named_item.ensures)))))

pub overriding_item-returns : goal.overriding_item-returns
unfolding overriding_item
overriding_item-returns t c = let e = c.completed_specification-specification.ensures in being (view_of_item _ _ ∙ ap (λ k. pair (at c.mark-span.result) k) (c.subprogram-kind.ensures ∙ ap (λ n. tag labels.Subprogram (pair yes (pair (specification_node c.completed_specification-specification.result.0) n))) (sym (completed_kept c.completed_specification-specification.result.1 e.0)))) (keeping (λ v. pair (first v) (tag labels.Subprogram (pair yes (second v)))) (λ v. pair (first v) (tag labels.Subprogram (subprogram_part (pair yes (second v))))) (λ v. paired (kept_first v) (ap (λ n. tag labels.Subprogram (subprogram_part (pair yes n))) (kept_second v))) (then c.mark-span.ensures e.1))

pub function_item-returns : goal.function_item-returns
unfolding function_item
function_item-returns t c = let e = c.completed_function-specification.ensures in being (view_of_item _ _ ∙ ap (λ k. pair (at c.completed_function-specification.result.0.span) k) (c.subprogram-kind.ensures ∙ ap (λ n. tag labels.Subprogram (pair no (pair (specification_node c.completed_function-specification.result.0) n))) (sym (completed_kept c.completed_function-specification.result.1 e.0)))) (keeping (λ v. pair (first (first v)) (tag labels.Subprogram (pair no v))) (λ v. pair (first (first v)) (tag labels.Subprogram (subprogram_part (pair no v)))) (λ v. paired (kept_first_first v) refl) e.1)

pub completed_specification-returns : goal.completed_specification-returns
unfolding completed_specification
completed_specification-returns t c = let e = c.completed-body.ensures in (e.0, bounding c.refuse_deep_body.ensures specification_here specification_past (inside part_2_letters (λ v h left ts. ap (λ n. read left completed n ts) (kept_letters v (specification_node c.specification-specification.result) c.specification-specification.result.name.text h refl)) c.specification-specification.ensures e.1))

pub completed_function-returns : goal.completed_function-returns
unfolding completed_function
completed_function-returns t c = let e = c.completed-body.ensures in (e.0, bounding c.refuse_deep_body.ensures function_here function_past (inside part_2_letters (λ v h left ts. ap (λ n. read left completed n ts) (kept_letters v (specification_node c.function-specification.result) c.function-specification.result.name.text h refl)) c.function-specification.ensures e.1))

pub procedure_item-returns : goal.procedure_item-returns
unfolding procedure_item completed_procedure
procedure_item-returns t c = let e = c.behind_name-rest.ensures in being (view_of_item _ _ ∙ ap (λ k. pair (at c.mark-span.result) k) (c.procedure_kind-kind.ensures e.0)) (keeping (λ v. pair (first (first v)) (procedure_of (first (first v)) (second (first v)) (second v))) (λ v. pair (first (first v)) (kept_here (procedure_of (first (first v)) (second (first v)) (second v)))) kept_procedure_item (bounding c.refuse_deep_body.ensures procedure_here procedure_past (inside (λ v. first (second v)) (λ v h left ts. ap (λ n. read left behind_name n ts) (kept_name_letters v (pair (at c.mark-span.result) (identifier_node c.identifier-name.result)) c.identifier-name.result.text h refl)) (then c.mark-span.ensures c.identifier-name.ensures) e.1)))

pub behind_name-returns-then-next_is : goal.behind_name-returns-then-next_is
unfolding behind_name
behind_name-returns-then-next_is t c = let e = c.completed-body.ensures in (e.0, choosing (sym c.next_is.ensures ∙ c.if-next_is.true) (making (λ v. pair none v) (λ v. refl) (then (setting c.formals-formals.ensures) e.1)))

pub behind_name-returns-then-next_is-2 : goal.behind_name-returns-then-next_is-2
unfolding behind_name
behind_name-returns-then-next_is-2 t c = let e = c.behind_is.ensures in (e.0, passing (sym c.next_is.ensures ∙ c.if-next_is.false) (choosing (sym c.next_is-else-next_is.ensures ∙ c.if-next_is-2.true) (making_2 second (λ x y. refl) (elsewhere (λ left ts. refl) c.skip.ensures) e.1)))

pub behind_name-returns-else-next_is-2 : goal.behind_name-returns-else-next_is-2
unfolding behind_name
behind_name-returns-else-next_is-2 t c = (none, passing (sym c.next_is.ensures ∙ c.if-next_is.false) (passing (sym c.next_is-else-next_is.ensures ∙ c.if-next_is-2.false) (rw c.new.ensures (making (λ v. pair none (pair none none)) (λ v. refl) (elsewhere (λ left ts. refl) c.skip-else-next_is-2.ensures)))))

pub behind_is-returns-then-next_is : goal.behind_is-returns-then-next_is
unfolding behind_is instance behind
behind_is-returns-then-next_is t c = (none, choosing (sym c.next_is.ensures ∙ c.if-next_is.true) (making (λ v. pair yes v) (λ v. refl) (setting c.instance-generic.ensures)))

pub behind_is-returns-else-next_is : goal.behind_is-returns-else-next_is
unfolding behind_is instance behind
behind_is-returns-else-next_is t c = let e = c.bare_body-inside.ensures in (e.0, rw c.new.ensures (building (passing (sym c.next_is.ensures ∙ c.if-next_is.false) (making (λ v. pair none (pair none (pair none v))) (λ v. refl) e.1)) (boxing (λ x. pair none (pair none (completed_node x e.0))) c.bare_body-inside.result c.boxed-body.result _ _ c.boxed-body.ensures.left (ap (λ r. r.now) c.boxed-body.ensures.rest) c.boxed-body.ensures.value)))

pub completed-returns-then-next_is : goal.completed-returns-then-next_is
unfolding completed
completed-returns-then-next_is t c = (none, choosing (sym c.next_is.ensures ∙ c.if-next_is.true) (making (λ v. none) (λ v. refl) (elsewhere (λ left ts. refl) c.skip.ensures)))

pub completed-returns-else-next_is : goal.completed-returns-else-next_is
unfolding completed
completed-returns-else-next_is t c = let e = c.body-inside.ensures in (e.0, building (passing (sym c.next_is.ensures ∙ c.if-next_is.false) (making (λ v. pair none v) (λ v. refl) e.1)) (boxing (λ x. completed_node x e.0) c.body-inside.result c.boxed.result _ _ c.boxed.ensures.left (ap (λ r. r.now) c.boxed.ensures.rest) c.boxed.ensures.value))

pub body-returns-then-open : goal.body-returns-then-open
body-returns-then-open t c = (c.in_body-inside.ensures.0, nesting c.next_is-is_next.ensures (c.open.ensures.opened c.if-open.true) c.in_body-inside.ensures.1 c.close.ensures.left (ap (λ r. r.now) c.close.ensures.rest) c.close.ensures.fault)

pub body-returns-else-open : goal.body-returns-else-open
body-returns-else-open t c = (none, barring c.next_is-is_next.ensures (c.open.ensures.unopened c.if-open.false))

pub in_body-returns : goal.in_body-returns
unfolding body
in_body-returns t c = let e = c.completion.ensures in (e.0, making_2 second (λ x y. refl) (elsewhere (λ left ts. refl) c.skip.ensures) e.1)

pub bare_body-returns-then-open : goal.bare_body-returns-then-open
unfolding body
bare_body-returns-then-open t c = (c.completion-inside.ensures.0, nesting c.at_bare_body-is_next.ensures (c.open.ensures.opened c.if-open.true) c.completion-inside.ensures.1 c.close.ensures.left (ap (λ r. r.now) c.close.ensures.rest) c.close.ensures.fault)

pub bare_body-returns-else-open : goal.bare_body-returns-else-open
unfolding body
bare_body-returns-else-open t c = (none, barring c.at_bare_body-is_next.ensures (c.open.ensures.unopened c.if-open.false))

pub completion-returns : goal.completion-returns
unfolding completion
completion-returns t c = let e = some_node (λ t. identifier_of (leaf t.now)) (λ v. Reads end_name (written c.args.name.now.text) c.skip-2.new.self v c.end_name.new.self) c.end_name.result c.end_name.ensures in (e.0, being (ap (λ n. pair (first n) (pair (second n) e.0)) (view_of_body _ _ _)) (making (λ v. pair (first v) (pair (part_3 v) (part_5 v))) (λ v. paired (kept_first v) (paired (kept_part_3 v) (kept_part_5 v))) (then (setting c.part-items.ensures) (then (elsewhere (λ left ts. refl) c.skip.ensures) (then (setting c.handled-statements.ensures) (then (elsewhere (λ left ts. refl) c.skip-2.ensures) (then e.1 (elsewhere (λ left ts. refl) c.skip-3.ensures))))))))
