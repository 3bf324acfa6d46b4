use Rattle.std.proofs.Common.{refl, sym, ap, ◌∙◌}
use Rattle.ctl_grammar.specs.Form.{none, pair, tag}
use Rattle.ctl_grammar.specs.Grammar.{addend, addends, adding, allocator, behind_and, behind_or, body, compared, expression, expressions, factor, handle, identifier, joined, joiner, multiplicand, multiplicands, multiplying, name, next_expression, next_relation, null, number, primary, qualified, relation, relational, relations, selection, simple, string, suffix, suffixes, term}
use Rattle.ctl_grammar.specs.Label as labels
use Rattle.ctl_grammar.specs.Nodes.{alone, first, second, part_2, behind_2, part_3, behind_3, name_of, parentheses_of, unary_of, product_of, sum_of, relation_of, logical_of, allocator_of, arguments_of}
use Rattle.ctl_parse.specs.Kept.{kept}
use Rattle.ctl_parse.specs.View.{view, operand_node, suffix_node, chain_of}
use Rattle.ctl_parse.proofs.Steps.{then, making, making_2, building, building_as, built_from, built_before, moving, being, choosing, passing, staying, nesting, barring, sound_from, kept_first, kept_second, kept_name, kept_parentheses, kept_product, kept_sum_parts, kept_allocator, kept_relation, kept_logical}
use Rattle.ctl_parse.proofs.Rows.{one_more, no_more, beginning, gathering, gathered, smaller}
use Rattle.ctl_parse.proofs.Terms.{term_unsigned, product_is, sum_is}
use Rattle.ctl_parse.proofs.cursor.Parser.+expressions.Goals as goal

pub expression-returns : goal.expression-returns
unfolding expression
expression-returns t c = building (making_2 (λ v. logical_of (first v) (second v)) kept_logical c.relation-first.ensures c.joined-rest.ensures) c.logical.ensures

pub joined-returns-then-next_is : goal.joined-returns-then-next_is
unfolding joined
joined-returns-then-next_is t c = choosing (sym c.next_is.ensures ∙ c.if-next_is.true) (making_2 second (λ x y. refl) c.skip.ensures c.conjunction-rest.ensures)

pub joined-returns-then-next_is-2 : goal.joined-returns-then-next_is-2
unfolding joined
joined-returns-then-next_is-2 t c = passing (sym c.next_is.ensures ∙ c.if-next_is.false) (choosing (sym c.next_is-else-next_is.ensures ∙ c.if-next_is-2.true) (making_2 second (λ x y. refl) c.skip-then-next_is-2.ensures c.disjunction-rest.ensures))

pub joined-returns-then-next_is-3 : goal.joined-returns-then-next_is-3
unfolding joined
joined-returns-then-next_is-3 t c = passing (sym c.next_is.ensures ∙ c.if-next_is.false) (passing (sym c.next_is-else-next_is.ensures ∙ c.if-next_is-2.false) (choosing (sym c.next_is-else-next_is-2.ensures ∙ c.if-next_is-3.true) (making_2 (λ v. pair (alone labels.Xor) (second v)) (λ x y. refl) c.skip-then-next_is-3.ensures c.relations-second.ensures)))

pub joined-returns-else-next_is-3 : goal.joined-returns-else-next_is-3
unfolding joined
joined-returns-else-next_is-3 t c = passing (sym c.next_is.ensures ∙ c.if-next_is.false) (passing (sym c.next_is-else-next_is.ensures ∙ c.if-next_is-2.false) (passing (sym c.next_is-else-next_is-2.ensures ∙ c.if-next_is-3.false) (staying _)))

pub conjunction-returns-then-next_is : goal.conjunction-returns-then-next_is
unfolding behind_and
conjunction-returns-then-next_is t c = choosing (sym c.next_is.ensures ∙ c.if-next_is.true) (making_2 (λ v. pair (alone labels.AndThen) (second v)) (λ x y. refl) c.skip.ensures c.relations-second.ensures)

pub conjunction-returns-else-next_is : goal.conjunction-returns-else-next_is
unfolding behind_and
conjunction-returns-else-next_is t c = passing (sym c.next_is.ensures ∙ c.if-next_is.false) (making (λ v. pair (alone labels.And) v) (λ v. refl) c.relations-second-else-next_is.ensures)

pub disjunction-returns-then-next_is : goal.disjunction-returns-then-next_is
unfolding behind_or
disjunction-returns-then-next_is t c = choosing (sym c.next_is.ensures ∙ c.if-next_is.true) (making_2 (λ v. pair (alone labels.OrElse) (second v)) (λ x y. refl) c.skip.ensures c.relations-second.ensures)

pub disjunction-returns-else-next_is : goal.disjunction-returns-else-next_is
unfolding behind_or
disjunction-returns-else-next_is t c = passing (sym c.next_is.ensures ∙ c.if-next_is.false) (making (λ v. pair (alone labels.Or) v) (λ v. refl) c.relations-second-else-next_is.ensures)

pub relations-returns : goal.relations-returns
unfolding relations
relations-returns t c = then c.relation-second.ensures c.next_relations-others.ensures

pub next_relation-returns : goal.next_relation-returns
unfolding next_relation
next_relation-returns t c = making_2 second (λ x y. refl) c.joiner.ensures c.relation.ensures

pub relation-returns : goal.relation-returns
unfolding relation
relation-returns t c = building (making_2 (λ v. relation_of (first v) (second v)) kept_relation c.simple-left.ensures c.compared-right.ensures) c.comparison.ensures

pub compared-returns-then-at_relational : goal.compared-returns-then-at_relational
unfolding compared relational
compared-returns-then-at_relational t c = choosing (sym c.at_relational.ensures ∙ c.if-at_relational.true) (then c.relational-operator.ensures c.simple-right.ensures)

pub compared-returns-else-at_relational : goal.compared-returns-else-at_relational
unfolding compared relational
compared-returns-else-at_relational t c = passing (sym c.at_relational.ensures ∙ c.if-at_relational.false) (staying _)

pub simple-returns : goal.simple-returns
unfolding simple
simple-returns t c =
    let read = making_2 (λ v. sum_of (first v) (part_2 v) (behind_2 v)) kept_sum_parts c.sign-sign.ensures.given (then c.term-first.ensures c.addends-rest.ensures.given) in
    let signed = c.signed-signed.ensures c.sign-sign.ensures.signs in
    building (moving read signed) (building_as (λ z.
    sum_is c.sign-sign.result (view c.term-first.result) c.addends-rest.result (term_unsigned c.term-first.ensures (sound_from c.addends-rest.ensures.given (built_before signed z))) c.addends-rest.ensures.level
    ∙ ap (λ n. chain_of n c.addends-rest.result) (sym (built_from signed z))) c.chain.ensures)

pub term-returns : goal.term-returns
unfolding term
term-returns t c = building (making_2 (λ v. product_of (first v) (second v)) kept_product c.factor-first.ensures c.multiplicands-rest.ensures.given) (building_as (λ z. product_is (view c.factor-first.result) c.multiplicands-rest.result c.multiplicands-rest.ensures.level) c.chain.ensures)

pub addends-returns-then-at_adding-clause-given : goal.addends-returns-then-at_adding-clause-given
unfolding addends addend adding
addends-returns-then-at_adding-clause-given t c = one_more refl (sym c.at_adding.ensures ∙ c.if-at_adding.true) c.addend-second.ensures.given c.next_addends-others.ensures

pub addends-returns-else-at_adding-clause-given : goal.addends-returns-else-at_adding-clause-given
unfolding addends addend adding
addends-returns-else-at_adding-clause-given t c = no_more _ (sym c.at_adding.ensures ∙ c.if-at_adding.false)

pub multiplicands-returns-then-at_multiplying-clause-given : goal.multiplicands-returns-then-at_multiplying-clause-given
unfolding multiplicands multiplicand multiplying
multiplicands-returns-then-at_multiplying-clause-given t c = one_more refl (sym c.at_multiplying.ensures ∙ c.if-at_multiplying.true) c.multiplicand-second.ensures.given c.next_multiplicands-others.ensures

pub multiplicands-returns-else-at_multiplying-clause-given : goal.multiplicands-returns-else-at_multiplying-clause-given
unfolding multiplicands multiplicand multiplying
multiplicands-returns-else-at_multiplying-clause-given t c = no_more _ (sym c.at_multiplying.ensures ∙ c.if-at_multiplying.false)

pub addend-returns-clause-given : goal.addend-returns-clause-given
unfolding addend
addend-returns-clause-given t c = then c.adding-operator.ensures.given c.term-operand.ensures

pub multiplicand-returns-clause-given : goal.multiplicand-returns-clause-given
unfolding multiplicand
multiplicand-returns-clause-given t c = then c.multiplying-operator.ensures.given c.factor-operand.ensures

pub factor-returns-then-next_is : goal.factor-returns-then-next_is
unfolding factor
factor-returns-then-next_is t c = choosing (sym c.next_is.ensures ∙ c.if-next_is.true) (building (making_2 (unary_of labels.Abs) (λ x y. refl) c.mark-span.ensures c.primary-operand.ensures) c.unary.ensures)

pub factor-returns-then-next_is-2 : goal.factor-returns-then-next_is-2
unfolding factor
factor-returns-then-next_is-2 t c = passing (sym c.next_is.ensures ∙ c.if-next_is.false) (choosing (sym c.next_is-else-next_is.ensures ∙ c.if-next_is-2.true) (building (making_2 (unary_of labels.Not) (λ x y. refl) c.mark-span-then-next_is-2.ensures c.primary-operand-then-next_is-2.ensures) c.unary-then-next_is-2.ensures))

pub factor-returns-else-next_is-2 : goal.factor-returns-else-next_is-2
unfolding factor
factor-returns-else-next_is-2 t c = passing (sym c.next_is.ensures ∙ c.if-next_is.false) (passing (sym c.next_is-else-next_is.ensures ∙ c.if-next_is-2.false) (c.primary.ensures))

pub primary-returns-then-next_is : goal.primary-returns-then-next_is
unfolding primary number string null name identifier allocator
primary-returns-then-next_is t c = choosing (sym c.next_is.ensures ∙ c.if-next_is.true) (c.number.ensures)

pub primary-returns-then-next_is-2 : goal.primary-returns-then-next_is-2
unfolding primary number string null name identifier allocator
primary-returns-then-next_is-2 t c = passing (sym c.next_is.ensures ∙ c.if-next_is.false) (choosing (sym c.next_is-else-next_is.ensures ∙ c.if-next_is-2.true) (c.string.ensures))

pub primary-returns-then-next_is-3 : goal.primary-returns-then-next_is-3
unfolding primary number string null name identifier allocator
primary-returns-then-next_is-3 t c = passing (sym c.next_is.ensures ∙ c.if-next_is.false) (passing (sym c.next_is-else-next_is.ensures ∙ c.if-next_is-2.false) (choosing (sym c.next_is-else-next_is-2.ensures ∙ c.if-next_is-3.true) (c.null.ensures)))

pub primary-returns-then-next_is-4 : goal.primary-returns-then-next_is-4
unfolding primary number string null name identifier allocator
primary-returns-then-next_is-4 t c = passing (sym c.next_is.ensures ∙ c.if-next_is.false) (passing (sym c.next_is-else-next_is.ensures ∙ c.if-next_is-2.false) (passing (sym c.next_is-else-next_is-2.ensures ∙ c.if-next_is-3.false) (choosing (sym c.next_is-else-next_is-3.ensures ∙ c.if-next_is-4.true) (being c.name_expression.ensures (making name_of kept_name c.name-name.ensures)))))

pub primary-returns-then-next_is-5 : goal.primary-returns-then-next_is-5
unfolding primary number string null name identifier allocator
primary-returns-then-next_is-5 t c = passing (sym c.next_is.ensures ∙ c.if-next_is.false) (passing (sym c.next_is-else-next_is.ensures ∙ c.if-next_is-2.false) (passing (sym c.next_is-else-next_is-2.ensures ∙ c.if-next_is-3.false) (passing (sym c.next_is-else-next_is-3.ensures ∙ c.if-next_is-4.false) (choosing (sym c.next_is-else-next_is-4.ensures ∙ c.if-next_is-5.true) (c.allocator.ensures)))))

pub primary-returns-else-next_is-5 : goal.primary-returns-else-next_is-5
unfolding primary number string null name identifier allocator
primary-returns-else-next_is-5 t c = passing (sym c.next_is.ensures ∙ c.if-next_is.false) (passing (sym c.next_is-else-next_is.ensures ∙ c.if-next_is-2.false) (passing (sym c.next_is-else-next_is-2.ensures ∙ c.if-next_is-3.false) (passing (sym c.next_is-else-next_is-3.ensures ∙ c.if-next_is-4.false) (passing (sym c.next_is-else-next_is-4.ensures ∙ c.if-next_is-5.false) (building (making parentheses_of kept_parentheses c.enclosed-inside.ensures) c.parentheses.ensures)))))

pub allocator-returns : goal.allocator-returns
unfolding allocator
allocator-returns t c = building (making_2 (λ v. allocator_of (first v) (part_2 v) (part_3 v) (behind_3 v)) kept_allocator c.mark-span.ensures (then c.handle-handle.ensures (then c.dotted-mark.ensures c.qualified-value.ensures))) c.allocated.ensures

pub handle-returns-then-next_is : goal.handle-returns-then-next_is
unfolding handle
handle-returns-then-next_is t c = choosing (sym c.next_is.ensures ∙ c.if-next_is.true) (making (λ v. pair none v) (λ v. refl) c.enclosed_name-name.ensures)

pub handle-returns-else-next_is : goal.handle-returns-else-next_is
unfolding handle
handle-returns-else-next_is t c = passing (sym c.next_is.ensures ∙ c.if-next_is.false) (staying _)

pub enclosed_name-returns-then-open : goal.enclosed_name-returns-then-open
enclosed_name-returns-then-open t c = nesting c.next_is-is_next.ensures (c.open.ensures.opened c.if-open.true) c.in_enclosed_name-inside.ensures c.close.ensures.left (ap (λ r. r.now) c.close.ensures.rest) c.close.ensures.fault

pub enclosed_name-returns-else-open : goal.enclosed_name-returns-else-open
enclosed_name-returns-else-open t c = barring c.next_is-is_next.ensures (c.open.ensures.unopened c.if-open.false)

pub enclosed-returns-then-open : goal.enclosed-returns-then-open
enclosed-returns-then-open t c = nesting c.next_is-is_next.ensures (c.open.ensures.opened c.if-open.true) c.in_enclosed-inside.ensures c.close.ensures.left (ap (λ r. r.now) c.close.ensures.rest) c.close.ensures.fault

pub enclosed-returns-else-open : goal.enclosed-returns-else-open
enclosed-returns-else-open t c = barring c.next_is-is_next.ensures (c.open.ensures.unopened c.if-open.false)

pub arguments-returns-then-open : goal.arguments-returns-then-open
arguments-returns-then-open t c = nesting c.next_is-is_next.ensures (c.open.ensures.opened c.if-open.true) c.in_arguments-inside.ensures c.close.ensures.left (ap (λ r. r.now) c.close.ensures.rest) c.close.ensures.fault

pub arguments-returns-else-open : goal.arguments-returns-else-open
arguments-returns-else-open t c = barring c.next_is-is_next.ensures (c.open.ensures.unopened c.if-open.false)

pub in_enclosed_name-returns : goal.in_enclosed_name-returns
unfolding body
in_enclosed_name-returns t c = making_2 (λ v. part_2 v) (λ x y. kept_first y) c.skip.ensures (then c.name-name.ensures c.skip-2.ensures)

pub in_enclosed-returns : goal.in_enclosed-returns
unfolding body
in_enclosed-returns t c = making_2 (λ v. pair (first v) (part_2 v)) (λ x y. ap (λ n. pair (kept x) n) (kept_first y)) c.mark-span.ensures (then c.expression-inside.ensures c.skip.ensures)

pub in_arguments-returns : goal.in_arguments-returns
unfolding body
in_arguments-returns t c = making_2 (λ v. arguments_of (first v) (part_2 v)) (λ x y. ap (λ n. tag labels.Arguments (pair (kept x) n)) (kept_first y)) c.mark-span.ensures (then c.expressions-first.ensures c.skip.ensures)

pub qualified-returns-then-next_is : goal.qualified-returns-then-next_is
unfolding qualified
qualified-returns-then-next_is t c = choosing (sym c.next_is.ensures ∙ c.if-next_is.true) (making_2 (λ v. pair none (second (second v))) (λ x y. ap (λ n. pair none n) (kept_second y)) c.skip.ensures c.enclosed-value.ensures)

pub qualified-returns-else-next_is : goal.qualified-returns-else-next_is
unfolding qualified
qualified-returns-else-next_is t c = passing (sym c.next_is.ensures ∙ c.if-next_is.false) (staying _)

pub name-returns : goal.name-returns
unfolding name
name-returns t c = then c.identifier-first.ensures c.suffixes-suffixes.ensures

pub suffix-returns-then-next_is : goal.suffix-returns-then-next_is
unfolding suffix selection
suffix-returns-then-next_is t c = choosing (sym c.next_is.ensures ∙ c.if-next_is.true) (c.selection.ensures)

pub suffix-returns-then-next_is-2 : goal.suffix-returns-then-next_is-2
unfolding suffix selection
suffix-returns-then-next_is-2 t c = passing (sym c.next_is.ensures ∙ c.if-next_is.false) (choosing (sym c.next_is-else-next_is.ensures ∙ c.if-next_is-2.true) (making_2 second (λ x y. refl) c.skip.ensures c.attribute.ensures))

pub suffix-returns-else-next_is-2 : goal.suffix-returns-else-next_is-2
unfolding suffix selection
suffix-returns-else-next_is-2 t c = passing (sym c.next_is.ensures ∙ c.if-next_is.false) (passing (sym c.next_is-else-next_is.ensures ∙ c.if-next_is-2.false) (c.arguments.ensures))

pub expressions-returns : goal.expressions-returns
unfolding expressions
expressions-returns t c = then c.expression-first.ensures c.next_expressions-others.ensures

pub next_expression-returns : goal.next_expression-returns
unfolding next_expression
next_expression-returns t c = making_2 second (λ x y. refl) c.skip.ensures c.expression.ensures

pub next_relations-more-init : goal.next_relations-more-init
unfolding next_relation joiner
next_relations-more-init t c = rw c.new-all.ensures (beginning c.args.self.now)

pub next_relations-more-smaller : goal.next_relations-more-smaller
unfolding next_relation joiner
next_relations-more-smaller t c = smaller refl (sym c.at_joiner.ensures ∙ c.more-test.true) c.next_relation-next.ensures c.push.ensures

pub next_relations-more-preserved : goal.next_relations-more-preserved
unfolding next_relation joiner
next_relations-more-preserved t c = gathering (view) c.more.invariant refl (sym c.at_joiner.ensures ∙ c.more-test.true) c.next_relation-next.ensures c.push.ensures

pub next_relations-returns : goal.next_relations-returns
unfolding next_relation joiner
next_relations-returns t c = gathered c.more.invariant (sym c.at_joiner.ensures ∙ c.more-test.false)

pub next_addends-more-init : goal.next_addends-more-init
unfolding addends addend adding
next_addends-more-init t c = rw c.new-all.ensures (beginning c.args.self.now)

pub next_addends-more-smaller : goal.next_addends-more-smaller
unfolding addends addend adding
next_addends-more-smaller t c = smaller refl (sym c.at_adding.ensures ∙ c.more-test.true) c.addend-next.ensures.given c.push.ensures

pub next_addends-more-preserved : goal.next_addends-more-preserved
unfolding addends addend adding
next_addends-more-preserved t c = gathering (operand_node view) c.more.invariant refl (sym c.at_adding.ensures ∙ c.more-test.true) c.addend-next.ensures.given c.push.ensures

pub next_addends-returns : goal.next_addends-returns
unfolding addends addend adding
next_addends-returns t c = gathered c.more.invariant (sym c.at_adding.ensures ∙ c.more-test.false)

pub next_multiplicands-more-init : goal.next_multiplicands-more-init
unfolding multiplicands multiplicand multiplying
next_multiplicands-more-init t c = rw c.new-all.ensures (beginning c.args.self.now)

pub next_multiplicands-more-smaller : goal.next_multiplicands-more-smaller
unfolding multiplicands multiplicand multiplying
next_multiplicands-more-smaller t c = smaller refl (sym c.at_multiplying.ensures ∙ c.more-test.true) c.multiplicand-next.ensures.given c.push.ensures

pub next_multiplicands-more-preserved : goal.next_multiplicands-more-preserved
unfolding multiplicands multiplicand multiplying
next_multiplicands-more-preserved t c = gathering (operand_node view) c.more.invariant refl (sym c.at_multiplying.ensures ∙ c.more-test.true) c.multiplicand-next.ensures.given c.push.ensures

pub next_multiplicands-returns : goal.next_multiplicands-returns
unfolding multiplicands multiplicand multiplying
next_multiplicands-returns t c = gathered c.more.invariant (sym c.at_multiplying.ensures ∙ c.more-test.false)

pub suffixes-more-init : goal.suffixes-more-init
unfolding suffixes suffix selection
suffixes-more-init t c = rw c.new-all.ensures (beginning c.args.self.now)

pub suffixes-more-smaller : goal.suffixes-more-smaller
unfolding suffixes suffix selection
suffixes-more-smaller t c = smaller refl (sym c.at_suffix.ensures ∙ c.more-test.true) c.suffix-next.ensures c.push.ensures

pub suffixes-more-preserved : goal.suffixes-more-preserved
unfolding suffixes suffix selection
suffixes-more-preserved t c = gathering (suffix_node view) c.more.invariant refl (sym c.at_suffix.ensures ∙ c.more-test.true) c.suffix-next.ensures c.push.ensures

pub suffixes-returns : goal.suffixes-returns
unfolding suffixes suffix selection
suffixes-returns t c = gathered c.more.invariant (sym c.at_suffix.ensures ∙ c.more-test.false)

pub next_expressions-more-init : goal.next_expressions-more-init
unfolding next_expression
next_expressions-more-init t c = rw c.new-all.ensures (beginning c.args.self.now)

pub next_expressions-more-smaller : goal.next_expressions-more-smaller
unfolding next_expression
next_expressions-more-smaller t c = smaller refl (sym c.next_is.ensures ∙ c.more-test.true) c.next_expression-next.ensures c.push.ensures

pub next_expressions-more-preserved : goal.next_expressions-more-preserved
unfolding next_expression
next_expressions-more-preserved t c = gathering (view) c.more.invariant refl (sym c.next_is.ensures ∙ c.more-test.true) c.next_expression-next.ensures c.push.ensures

pub next_expressions-returns : goal.next_expressions-returns
unfolding next_expression
next_expressions-returns t c = gathered c.more.invariant (sym c.next_is.ensures ∙ c.more-test.false)
