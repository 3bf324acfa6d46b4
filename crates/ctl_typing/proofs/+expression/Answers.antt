use Rattle.std.proofs.lemmas.Bool.{ltb-false}
use Rattle.std.proofs.lemmas.List.{take_rest}
use denote.Param.Weighed.{at_most, most}
use Rattle.std.proofs.Common.{arith, if◌then◌else◌, Option, option_map, sym, ap, ◌∙◌, ◌+◌, ◌-◌, [], length, ◌∷◌, map, drop, take, Some}
use Rattle.ctl_syntax.specs.declared.denoted.Use.{Use}
use Rattle.ctl_syntax.specs.declared.expression.Expression.{Expression, size-Expression, size_is-Expression}
use Rattle.ctl_syntax.specs.declared.expression.Expression.TheVariants.{Logical, outs-Logical, New, outs-New, Relation, outs-Relation}
use Rattle.ctl_typing.specs.Judgement.{◌>>=◌, beside, each, following, known, onward, then_beside, with_known}
use Rattle.ctl_syntax.specs.declared.operators.Operand.{Operand}
use Rattle.ctl_typing.specs.Allocating.{by_parts, handle_of}
use Rattle.ctl_typing.specs.declared.found.Typed.{Typed}
use Rattle.ctl_typing.specs.declared.notes.Notes.{Notes}
use Rattle.ctl_typing.specs.Senses as senses
use Rattle.ctl_typing.specs.Typing as spec
use Rattle.ctl_typing.specs.declared.found.Asked.TheVariants.{Exactly, Number}
use Rattle.ctl_typing.specs.Senses.{suffix_sense, operand_sense}
use Rattle.ctl_typing.proofs.Depths.{around_one, chain_depth}
use Rattle.ctl_typing.proofs.Logical.{logical_judged_is}
use Rattle.ctl_typing.proofs.Matching.{no_more, no_more_formals}
use Rattle.ctl_typing.proofs.Parting.{second_is_typed, further_is_typed, led_by}
use Rattle.ctl_typing.proofs.Senses.{record_enclosed_is, sense_name, sense_chain, sense_logical, sense_new, sense_number, sense_null, sense_parentheses, sense_relation, sense_string, sense_unary}
use Rattle.ctl_typing.proofs.Stages.{judged_as, onward_is, both_are, both_judged, following_judged, swapped_is}
use Rattle.ctl_typing.proofs.Turns.{each_added, first_added, next_of}
use Rattle.ctl_typing.proofs.+expression.Goals as goal

pub expressions::expression-returns-in-Logical : goal.expressions::expression-returns-in-Logical
expressions::expression-returns-in-Logical t c =
    let i = c.in-Logical in
    rw (i.is, sense_logical i.place i.operator i.first i.second i.more, ← c.get-first.ensures, ← c.get-second.ensures, ← c.as_slice.ensures) c.logical.ensures

pub expressions::expression-returns-in-Chain : goal.expressions::expression-returns-in-Chain
expressions::expression-returns-in-Chain t c =
    let i = c.in-Chain in
    rw (i.is, sense_chain i.place i.first i.second i.rest, ← c.get-first-in-Chain.ensures, ← c.get-second-in-Chain.ensures, ← c.as_slice-in-Chain.ensures) c.chain.ensures

pub expressions::expression-returns-in-Relation : goal.expressions::expression-returns-in-Relation
expressions::expression-returns-in-Relation t c =
    let i = c.in-Relation in
    rw (i.is, sense_relation i.place i.operator i.left i.right, ← c.get.ensures, ← c.get-in-Relation.ensures) c.relation.ensures

pub expressions::expression-returns-in-Unary : goal.expressions::expression-returns-in-Unary
expressions::expression-returns-in-Unary t c =
    let i = c.in-Unary in
    rw (i.is, sense_unary i.place i.operator i.operand, ← c.get-in-Unary.ensures) c.unary.ensures

pub expressions::expression-returns-in-Parentheses : goal.expressions::expression-returns-in-Parentheses
expressions::expression-returns-in-Parentheses t c =
    let i = c.in-Parentheses in
    rw (i.is, sense_parentheses i.field-0 i.inner, ← c.get-in-Parentheses.ensures) c.expression.ensures

pub expressions::expression-returns-in-String : goal.expressions::expression-returns-in-String
expressions::expression-returns-in-String t c = let i = c.in-String in rw (i.is, sense_string i.place i.field-1) c.wrong.ensures

pub expressions::expression-returns-in-Number : goal.expressions::expression-returns-in-Number
expressions::expression-returns-in-Number t c = let i = c.in-Number in rw (i.is, sense_number i.place i.value) (c.number.ensures c.args.tables.now)

pub expressions::expression-returns-in-Null : goal.expressions::expression-returns-in-Null
expressions::expression-returns-in-Null t c = let i = c.in-Null in rw (i.is, sense_null i.place) (c.null.ensures c.args.tables.now)

pub expressions::expression-returns-in-Name : goal.expressions::expression-returns-in-Name
expressions::expression-returns-in-Name t c = let i = c.in-Name in rw (i.is, sense_name i.field-0 i.name) c.named.ensures

pub expressions::expression-returns-in-New : goal.expressions::expression-returns-in-New
expressions::expression-returns-in-New t c = let i = c.in-New in rw (i.is, sense_new i.place i.handle i.mark i.value) c.allocation.ensures

pub expressions::named-returns : goal.expressions::named-returns
expressions::named-returns t c =
    let name = c.args.name.now in
    let tables = c.args.tables.now in
    judged_as (spec.name_judged name.first (map suffix_sense name.suffixes) tables c.args.asked) (senses.name_value tables name.first.span c.args.asked c.in_ok-found.found)
    c.args.notes.now c.found.new.notes c.name_value.new.notes c.name_value.result
    (ap (λ q. with_known (spec.value_found tables name.first.span c.args.asked) (with_known (spec.settled tables name.first.span) q)) c.in_ok-found.ensures)
    c.name_value.ensures

pub expressions::allocation-returns : goal.expressions::allocation-returns
expressions::allocation-returns t c =
    let tables = c.args.tables.now in
    let place = c.args.place in
    let asked = c.args.asked in
    let mark = c.args.mark.now in
    let value = option_map spec.sense c.args.value.now in
    let start = c.args.notes.now in
    let held = c.handle_or_none.new.notes in
    let ended = c.new_object-object.new.notes in
    let handle = spec.handle_given tables asked (option_map senses.name_sense c.args.handle.now) in
    let object = following (spec.mark_judged tables (spec.told_at place mark.first) mark.rest) (spec.object_judged tables place asked value) in
    let parts = both_judged handle object start held ended c.in_ok-handle.handle c.in_ok-parts.parts c.in_ok-handle.ensures (c.in_ok-parts.ensures object held ended c.new_object-object.ensures) in
    judged_as (spec.new_judged place (option_map senses.name_sense c.args.handle.now) mark value tables asked) (onward c.in_ok-parts.parts by_parts)
    start ended c.allocator.new.notes c.allocator.result
    (ap (with_known by_parts) parts) c.allocator.ensures

pub expressions::new_object-returns : goal.expressions::new_object-returns
expressions::new_object-returns t c =
    let tables = c.args.tables.now in
    let mark = c.args.mark.now in
    let rest = spec.object_judged tables c.args.place c.args.asked (option_map spec.sense c.args.value.now) in
    let first = spec.told_at c.args.place mark.first in
    let ty = c.in_ok-ty.ty in
    let start = c.args.notes.now in
    let marked = c.mark_judged.new.notes in
    let typed =
    ap (λ u. spec.mark_judged tables u mark.rest start) (sym c.told_at-first.ensures)
    ∙ ap (λ is'. spec.mark_judged tables c.told_at-first.result is' start) (sym c.as_slice.ensures)
    ∙ c.in_ok-ty.ensures in
    judged_as (following (spec.mark_judged tables first mark.rest) rest) (λ n. beside (rest ty) (ty, n)) start marked c.object.new.notes c.paired_with.result
    (ap (then_beside rest) typed) (c.paired_with.ensures (rest ty) marked c.object.new.notes c.object.ensures)

pub expressions::object-returns : goal.expressions::object-returns
expressions::object-returns t c =
    let tables = c.args.tables.now in
    let place = c.args.place in
    let ty = c.args.ty in
    let access = c.allocates_known-access.result in
    let value = spec.value_judged tables place ty (option_map spec.sense c.args.value.now) in
    let start = c.args.notes.now in
    let asked = c.allocates_known-access.new.notes in
    let ended = c.value_or_none.new.notes in
    judged_as (spec.object_judged tables place c.args.asked (option_map spec.sense c.args.value.now) ty) (λ n. beside value (access, n)) start asked ended c.paired_with.result
    (ap (beside value) c.allocates_known-access.ensures) (c.paired_with.ensures value asked ended c.value_or_none.ensures)

pub expressions::expression-logical-requires : goal.expressions::expression-logical-requires
expressions::expression-logical-requires t c =
    let i = c.in-Logical in
    let sized = rw (outs-Logical i.place i.operator i.first i.second i.more) at (size_is-Expression Use (Logical i.place i.operator i.first i.second i.more)) in
    let whole = ap (λ (x : Expression Use). size-Expression Use x) i.is in
    rw (c.get-first.ensures, c.get-second.ensures, c.as_slice.ensures) (omega (arith, sized, whole, c.decreases), tt)

pub expressions::expression-relation-requires : goal.expressions::expression-relation-requires
expressions::expression-relation-requires t c =
    let i = c.in-Relation in
    let sized = rw (outs-Relation i.place i.operator i.left i.right) at (size_is-Expression Use (Relation i.place i.operator i.left i.right)) in
    let whole = ap (λ (x : Expression Use). size-Expression Use x) i.is in
    rw (c.get.ensures, c.get-in-Relation.ensures) (omega (arith, sized, whole, c.decreases), tt)

pub expressions::expression-chain-requires : goal.expressions::expression-chain-requires
expressions::expression-chain-requires t c =
    let i = c.in-Chain in
    let below = chain_depth i.place i.first i.second i.rest in
    let whole = ap (λ (x : Expression Use). size-Expression Use x) i.is in
    rw (c.get-first-in-Chain.ensures, c.get-second-in-Chain.ensures, c.as_slice-in-Chain.ensures) (omega (arith, below, whole, c.decreases), tt)

pub expressions::expression-allocation-requires : goal.expressions::expression-allocation-requires
expressions::expression-allocation-requires t c =
    let i = c.in-New in
    let sized = rw (outs-New i.place i.handle i.mark i.value) at (size_is-Expression Use (New i.place i.handle i.mark i.value)) in
    let whole = ap (λ (x : Expression Use). size-Expression Use x) i.is in
    (omega (arith, sized, whole, c.decreases), tt)

-- Allocators -----------------------------------------------------------------------------------------------------------------------

pub expressions::allocation-handle_or_none-requires : goal.expressions::allocation-handle_or_none-requires
expressions::allocation-handle_or_none-requires t c =
    let sized = rw (outs-New c.args.place c.args.handle.now c.args.mark.now c.args.value.now) at (size_is-Expression Use (New c.args.place c.args.handle.now c.args.mark.now c.args.value.now)) in
    (omega (arith, sized, c.decreases), tt)

pub expressions::allocation-new_object-object-requires : goal.expressions::allocation-new_object-object-requires
expressions::allocation-new_object-object-requires t c =
    let sized = rw (outs-New c.args.place c.args.handle.now c.args.mark.now c.args.value.now) at (size_is-Expression Use (New c.args.place c.args.handle.now c.args.mark.now c.args.value.now)) in
    (omega (arith, sized, c.decreases), tt)

-- Operators ------------------------------------------------------------------------------------------------------------------------

pub operations::logical-returns : goal.operations::logical-returns
operations::logical-returns t c =
    let tables = c.args.tables.now in
    let place = c.args.place in
    let first = spec.sense c.args.first.now in
    let second = spec.sense c.args.second.now in
    let more = map spec.sense c.args.more.now in
    let two = c.in_ok-two.ensures (spec.truth_of tables second) c.truth.new.notes c.truth-2.new.notes c.truth-2.ensures in
    judged_as (spec.logical_judged place c.args.operator first second more tables c.args.asked) (onward c.in_ok-value.value (senses.boolean_at place c.args.asked)) c.args.notes.now c.logical_behind.new.notes c.boolean.new.notes c.boolean.result
    (logical_judged_is place c.args.operator first second more tables c.args.asked c.args.notes.now c.truth.new.notes c.truth-2.new.notes c.logical_behind.new.notes
    c.in_ok-first.first c.in_ok-value.value c.in_ok-two.two c.in_ok-first.ensures two c.in_ok-value.ensures)
    c.boolean.ensures

pub operations::logical-truth-requires : goal.operations::logical-truth-requires
operations::logical-truth-requires t c = (omega (arith, c.decreases), tt)

pub operations::logical-truth-requires-2 : goal.operations::logical-truth-requires-2
operations::logical-truth-requires-2 t c = (omega (arith, c.decreases), tt)

pub operations::logical-logical_behind-requires : goal.operations::logical-logical_behind-requires
operations::logical-logical_behind-requires t c = (omega (arith, c.decreases), tt)

pub operations::whole-returns : goal.operations::whole-returns
operations::whole-returns t c =
    let op = c.args.op in
    let start = c.args.notes.now in
    let ended = c.truths_behind.new.notes in
    let more = senses.truths_behind op c.args.tables.now (map spec.sense c.args.more.now) in
    judged_as (senses.whole_behind op c.args.two (map spec.sense c.args.more.now) c.args.tables.now) (onward c.in_ok-all.all (senses.chain_made op)) start ended ended c.truths_joined.result
    (ap (with_known (senses.chain_made op)) (c.in_ok-all.ensures more start ended c.truths_behind.ensures)) (c.truths_joined.ensures ended)

pub operations::short-returns : goal.operations::short-returns
operations::short-returns t c =
    let form = c.args.form in
    let start = c.args.notes.now in
    let ended = c.truths.new.notes in
    let more = spec.truths_of c.args.tables.now (map spec.sense c.args.more.now) in
    judged_as (senses.short_behind form c.args.two (map spec.sense c.args.more.now) c.args.tables.now) (onward c.in_ok-all.all (senses.short_made form)) start ended ended c.short_circuit.result
    (ap (with_known (senses.short_made form)) (c.in_ok-all.ensures more start ended c.truths.ensures)) (c.short_circuit.ensures ended)

pub operations::relation-expression-requires : goal.operations::relation-expression-requires
operations::relation-expression-requires t c = (omega (arith, c.decreases), tt)

pub operations::relation-returns-then-is_led_by_right : goal.operations::relation-returns-then-is_led_by_right
operations::relation-returns-then-is_led_by_right t c =
    let tables = c.args.tables.now in
    let place = c.args.place in
    let op = c.args.operator in
    let asked = c.args.asked in
    let left = spec.sense c.args.left.now in
    let right = spec.sense c.args.right.now in
    let start = c.args.notes.now in
    let middle = c.expression.new.notes in
    let ended = c.expression-then-is_led_by_right.new.notes in
    let like = c.asked_like-like.result in
    let leading = c.in_ok-right.right in
    let beside' = c.asked_beside-beside.ensures ∙ ap (spec.asked_beside op) c.adopts.ensures in
    let first = ap (λ a. right.judged tables a start) (sym beside') ∙ c.in_ok-right.ensures in
    let second =
    ap (λ a. beside (left.judged tables (spec.asked_like a leading)) (leading, middle)) (sym c.compared-taken.ensures)
    ∙ ap (λ a. beside (left.judged tables a) (leading, middle)) (sym c.asked_like-like.ensures)
    ∙ c.in_ok-both.ensures (left.judged tables like) middle ended c.expression-then-is_led_by_right.ensures in
    let both = following_judged (right.judged tables (spec.asked_beside op left.adopts)) (λ ty. left.judged tables (spec.asked_like (spec.compared op) ty)) start middle ended leading c.in_ok-both.both first second in
    judged_as (spec.relation_judged place op left right tables asked) (onward c.swapped.result (senses.relation_at place op asked)) start ended c.relation_joined.new.notes c.relation_joined.result
    (ap
    (λ b. (if b then (following (right.judged tables (spec.asked_beside op left.adopts)) (λ ty. left.judged tables (spec.asked_like (spec.compared op) ty)) >>= (λ p. spec.fits place asked (spec.relation_of op p.1 p.0)))
    else (following (left.judged tables (spec.compared op)) (λ ty. right.judged tables (spec.asked_like (spec.compared op) ty)) >>= (λ p. spec.fits place asked (spec.relation_of op p.0 p.1)))) start)
    (sym c.is_led_by_right.ensures ∙ c.if-is_led_by_right.true)
    ∙ ap (with_known (λ p. spec.fits place asked (spec.relation_of op p.1 p.0))) both
    ∙ swapped_is (senses.relation_at place op asked) c.in_ok-both.both c.swapped.result ended (c.swapped.ensures ended))
    c.relation_joined.ensures

pub operations::relation-expression-requires-3 : goal.operations::relation-expression-requires-3
operations::relation-expression-requires-3 t c = (omega (arith, c.decreases), tt)

pub operations::relation-expression-requires-then-is_led_by_right : goal.operations::relation-expression-requires-then-is_led_by_right
operations::relation-expression-requires-then-is_led_by_right t c = (omega (arith, c.decreases), tt)

pub operations::relation-expression-requires-2 : goal.operations::relation-expression-requires-2
operations::relation-expression-requires-2 t c = (omega (arith, c.decreases), tt)

pub operations::chain-arithmetic-requires : goal.operations::chain-arithmetic-requires
operations::chain-arithmetic-requires t c = (omega (arith, c.decreases), tt)

pub operations::arithmetic-by_first-requires : goal.operations::arithmetic-by_first-requires
operations::arithmetic-by_first-requires t c = (omega (arith, c.decreases), tt)

pub operations::arithmetic-by_second-requires : goal.operations::arithmetic-by_second-requires
operations::arithmetic-by_second-requires t c = (omega (arith, c.decreases), tt)

pub operations::arithmetic-by_place-requires : goal.operations::arithmetic-by_place-requires
operations::arithmetic-by_place-requires t c = (omega (arith, c.decreases), tt)

pub operations::arithmetic-by_further-requires : goal.operations::arithmetic-by_further-requires
operations::arithmetic-by_further-requires t c =
    let leading = rw c.in-Some.is at c.parted.ensures in
    let around = around_one (λ (o : Operand (Expression Use)). size-Expression Use o.operand) c.args.rest.now c.in-Some.at c.index-rest-at.result leading.inside c.index-rest-at.is in
    let tail = ap (λ os. most (λ (o : Operand (Expression Use)). size-Expression Use o.operand) os) (take_rest c.args.rest.now (c.in-Some.at + 1)) in
    (omega (arith, around, tail, c.decreases), tt)

pub operations::arithmetic-returns-then-not-takes_on-2 : goal.operations::arithmetic-returns-then-not-takes_on-2
operations::arithmetic-returns-then-not-takes_on-2 t c =
    let x = spec.sense c.args.first.now in
    let o = operand_sense c.args.second.now in
    let os = map operand_sense c.args.rest.now in
    let first = ap spec.adopts (sym c.adopts.ensures) ∙ sym c.takes_on.ensures ∙ c.if-not-takes_on.false in
    let second = ap spec.adopts (sym c.adopts-2.ensures) ∙ sym c.takes_on-2.ensures ∙ c.if-not-takes_on-2.true in
    judged_as (senses.arithmetic c.args.tables.now c.args.asked x (o ∷ os)) (spec.by_other c.args.tables.now c.args.asked x [] (Some o) os) c.args.notes.now c.args.notes.now c.by_second.new.notes c.by_second.result
    (ap (λ j. j c.args.notes.now) (second_is_typed c.args.tables.now c.args.asked x o os first second)) (c.by_second.ensures c.args.asked)

pub operations::arithmetic-returns-in-Some : goal.operations::arithmetic-returns-in-Some
operations::arithmetic-returns-in-Some t c =
    let x = spec.sense c.args.first.now in
    let o = operand_sense c.args.second.now in
    let rest = c.args.rest.now in
    let leading = rw c.in-Some.is at c.parted.ensures in
    let first = ap spec.adopts (sym c.adopts.ensures) ∙ sym c.takes_on.ensures ∙ c.if-not-takes_on.false in
    let second = ap spec.adopts (sym c.adopts-2.ensures) ∙ sym c.takes_on-2.ensures ∙ c.if-not-takes_on-2.false in
    let before = map operand_sense (take c.in-Some.at rest) in
    let tail = take (length rest - (c.in-Some.at + 1)) (drop (c.in-Some.at + 1) rest) in
    let behind = map operand_sense tail in
    let typed = operand_sense c.index-rest-at.result in
    let parts =
    led_by rest c.in-Some.at c.index-rest-at.result c.index-rest-at.is leading
    ∙ ap (λ os. record { before = before; typed = Some typed; behind = map operand_sense os }) (sym (take_rest rest (c.in-Some.at + 1))) in
    judged_as (senses.arithmetic c.args.tables.now c.args.asked x (o ∷ map operand_sense rest)) (spec.by_other c.args.tables.now c.args.asked x (o ∷ before) (Some typed) behind) c.args.notes.now c.args.notes.now c.by_further.new.notes c.by_further.result
    (ap (λ j. j c.args.notes.now) (further_is_typed c.args.tables.now c.args.asked x o (map operand_sense rest) (record { before = before; typed = Some typed; behind = behind }) first second parts)) (c.by_further.ensures c.args.asked)

pub operations::by_first-expression-requires : goal.operations::by_first-expression-requires
operations::by_first-expression-requires t c = (omega (arith, c.decreases), tt)

pub operations::by_first-operands_as-requires : goal.operations::by_first-operands_as-requires
operations::by_first-operands_as-requires t c = (omega (arith, c.decreases), tt)

pub operations::by_first-returns : goal.operations::by_first-returns
operations::by_first-returns t c =
    let tables = c.args.tables.now in
    let x = spec.sense c.args.first.now in
    let os = operand_sense c.args.second.now ∷ map operand_sense c.args.rest.now in
    let start = c.args.notes.now in
    let typed = c.expression.new.notes in
    let ended = c.operands_as.new.notes in
    let others = λ (r : Option Typed). spec.operands_as tables (spec.asked_like Number r) os in
    let all = following_judged (x.judged tables Number) others start typed ended c.in_ok-typed.typed c.in_ok-all.all c.in_ok-typed.ensures
    (ap (λ a. beside (spec.operands_as tables a os) (c.in_ok-typed.typed, typed)) (sym c.asked_like-like.ensures) ∙ c.in_ok-all.ensures (spec.operands_as tables c.asked_like-like.result os) typed ended c.operands_as.ensures) in
    judged_as (spec.by_first tables x os) (onward c.in_ok-all.all senses.led_by_first) start ended ended c.chain_typed.result
    (ap (with_known senses.led_by_first) all) (c.chain_typed.ensures ended)

pub operations::by_second-expression-requires : goal.operations::by_second-expression-requires
operations::by_second-expression-requires t c = (omega (arith, c.decreases), tt)

pub operations::around_second-expression-requires : goal.operations::around_second-expression-requires
operations::around_second-expression-requires t c = (omega (arith, c.decreases), tt)

pub operations::around_second-operands_behind-requires : goal.operations::around_second-operands_behind-requires
operations::around_second-operands_behind-requires t c = (omega (arith, c.decreases), tt)

pub operations::by_second-around_second-others-requires : goal.operations::by_second-around_second-others-requires
operations::by_second-around_second-others-requires t c = (omega (arith, c.decreases), tt)

pub operations::by_second-returns : goal.operations::by_second-returns
operations::by_second-returns t c asked =
    let tables = c.args.tables.now in
    let x = spec.sense c.args.first.now in
    let o = operand_sense c.args.second.now in
    let os = map operand_sense c.args.rest.now in
    let like = c.asked_like-like.result in
    let leading = c.in_ok-typed.typed in
    let start = c.args.notes.now in
    let typed = c.expression.new.notes in
    let ended = c.around_second-others.new.notes in
    let joins = senses.led_by c.args.second.now.operator in
    let others = λ (r : Option Typed). spec.around tables x [] os (spec.asked_like Number r) in
    judged_as (spec.by_other tables asked x [] (Some o) os) (λ n. with_known joins (beside (spec.around tables x [] os like) (leading, n))) start typed ended c.chain_led_by.result
    (ap (λ r. with_known joins (then_beside others r)) c.in_ok-typed.ensures
    ∙ ap (λ a. with_known joins (beside (spec.around tables x [] os a) (leading, typed))) (sym c.asked_like-like.ensures))
    (c.chain_led_by.ensures (spec.around tables x [] os like) typed ended c.around_second-others.ensures)

pub operations::around_second-returns : goal.operations::around_second-returns
operations::around_second-returns t c =
    let tables = c.args.tables.now in
    let x = spec.sense c.args.first.now in
    let os = map operand_sense c.args.rest.now in
    let like = c.args.like in
    let start = c.args.notes.now in
    let valued = c.expression.new.notes in
    let ended = c.operands_behind.new.notes in
    let value = ap (with_known (λ (r : Typed). known {S = Notes} r.value)) c.in_ok-value.ensures ∙ c.value_of.ensures valued in
    let first = both_are (x.judged tables like >>= (λ r. known r.value)) (spec.operands_as tables like []) start valued valued c.value_of.result (Some c.new.result) c.paired-first.result
    value (ap (λ e. (Some e, valued)) (sym c.new.ensures)) (c.paired-first.ensures valued) in
    let behind = judged_as (spec.operands_as tables like os) (each (spec.operand_as tables like) (Some c.new-2.result) os) valued valued ended c.operands_behind.result
    (ap (λ e. each (spec.operand_as tables like) (Some e) os valued) (sym c.new-2.ensures)) c.operands_behind.ensures in
    judged_as (spec.around tables x [] os like) (λ n. beside (spec.operands_as tables like os) (c.paired-first.result, n)) start valued ended c.paired_with.result
    (ap (beside (spec.operands_as tables like os)) first) (c.paired_with.ensures (spec.operands_as tables like os) valued ended behind)

pub operations::by_place-first_as-requires : goal.operations::by_place-first_as-requires
operations::by_place-first_as-requires t c = (omega (arith, c.decreases), tt)

pub operations::by_place-returns : goal.operations::by_place-returns
operations::by_place-returns t c =
    let tables = c.args.tables.now in
    let x = spec.sense c.args.first.now in
    let os = operand_sense c.args.second.now ∷ map operand_sense c.args.rest.now in
    let ty = c.adopted-ty.result in
    let ended = c.first_as.new.notes in
    rw (← c.adopted-ty.ensures)
    (judged_as (spec.first_as tables (Exactly ty) x os >>= senses.of_literals ty) (onward c.in_ok-whole.whole (senses.of_literals ty)) c.args.notes.now ended ended c.literals_joined.result
    (onward_is (spec.first_as tables (Exactly ty) x os) (senses.of_literals ty) c.args.notes.now ended c.in_ok-whole.whole c.in_ok-whole.ensures) (c.literals_joined.ensures ended))

pub operations::by_further-expression-requires : goal.operations::by_further-expression-requires
operations::by_further-expression-requires t c = (omega (arith, c.decreases), tt)

pub operations::by_further-around_further-others-requires : goal.operations::by_further-around_further-others-requires
operations::by_further-around_further-others-requires t c = (omega (arith, c.decreases), tt)

pub operations::around_further-first_as-requires : goal.operations::around_further-first_as-requires
operations::around_further-first_as-requires t c = (omega (arith, c.decreases), tt)

pub operations::around_further-operands_behind-requires : goal.operations::around_further-operands_behind-requires
operations::around_further-operands_behind-requires t c = (omega (arith, c.decreases), tt)

pub operations::by_further-returns : goal.operations::by_further-returns
operations::by_further-returns t c asked =
    let tables = c.args.tables.now in
    let x = spec.sense c.args.first.now in
    let o = operand_sense c.args.leading.now in
    let before = operand_sense c.args.second.now ∷ map operand_sense c.args.before.now in
    let os = map operand_sense c.args.behind.now in
    let like = c.asked_like-like.result in
    let leading = c.in_ok-typed.typed in
    let start = c.args.notes.now in
    let typed = c.expression.new.notes in
    let ended = c.around_further-others.new.notes in
    let joins = senses.led_by c.args.leading.now.operator in
    let others = λ (r : Option Typed). spec.around tables x before os (spec.asked_like Number r) in
    judged_as (spec.by_other tables asked x before (Some o) os) (λ n. with_known joins (beside (spec.around tables x before os like) (leading, n))) start typed ended c.chain_led_by.result
    (ap (λ r. with_known joins (then_beside others r)) c.in_ok-typed.ensures
    ∙ ap (λ a. with_known joins (beside (spec.around tables x before os a) (leading, typed))) (sym c.asked_like-like.ensures))
    (c.chain_led_by.ensures (spec.around tables x before os like) typed ended c.around_further-others.ensures)

pub operations::around_further-returns : goal.operations::around_further-returns
operations::around_further-returns t c =
    let tables = c.args.tables.now in
    let x = spec.sense c.args.first.now in
    let before = operand_sense c.args.second.now ∷ map operand_sense c.args.before.now in
    let os = map operand_sense c.args.behind.now in
    let like = c.args.like in
    let start = c.args.notes.now in
    let valued = c.first_as.new.notes in
    let ended = c.operands_behind.new.notes in
    let behind = judged_as (spec.operands_as tables like os) (each (spec.operand_as tables like) (Some c.new.result) os) valued valued ended c.operands_behind.result
    (ap (λ e. each (spec.operand_as tables like) (Some e) os valued) (sym c.new.ensures)) c.operands_behind.ensures in
    judged_as (spec.around tables x before os like) (λ n. beside (spec.operands_as tables like os) (c.in_ok-first.first, n)) start valued ended c.paired_with.result
    (ap (beside (spec.operands_as tables like os)) c.in_ok-first.ensures) (c.paired_with.ensures (spec.operands_as tables like os) valued ended behind)

pub operations::first_as-expression-requires : goal.operations::first_as-expression-requires
operations::first_as-expression-requires t c = (omega (arith, c.decreases), tt)

pub operations::first_as-operands_as-others-requires : goal.operations::first_as-operands_as-others-requires
operations::first_as-operands_as-others-requires t c = (omega (arith, c.decreases), tt)

pub operations::first_as-returns : goal.operations::first_as-returns
operations::first_as-returns t c =
    let tables = c.args.tables.now in
    let asked = c.args.asked in
    let x = spec.sense c.args.first.now in
    let os = operand_sense c.args.second.now ∷ map operand_sense c.args.rest.now in
    let start = c.args.notes.now in
    let valued = c.expression.new.notes in
    let ended = c.operands_as-others.new.notes in
    let value = ap (with_known (λ (r : Typed). known {S = Notes} r.value)) c.in_ok-typed.ensures ∙ c.value_of.ensures valued in
    judged_as (spec.first_as tables asked x os) (λ n. beside (spec.operands_as tables asked os) (c.value_of.result, n)) start valued ended c.paired_with.result
    (ap (beside (spec.operands_as tables asked os)) value) (c.paired_with.ensures (spec.operands_as tables asked os) valued ended c.operands_as-others.ensures)

pub operations::operands_as-expression-typed-requires : goal.operations::operands_as-expression-typed-requires
operations::operands_as-expression-typed-requires t c = (omega (arith, c.decreases), tt)

pub operations::operands_as-operands_behind-requires : goal.operations::operands_as-operands_behind-requires
operations::operands_as-operands_behind-requires t c = (omega (arith, c.decreases), tt)

pub operations::operands_as-returns : goal.operations::operands_as-returns
operations::operands_as-returns t c =
    let tables = c.args.tables.now in
    let asked = c.args.asked in
    let f = spec.operand_as tables asked in
    let o = operand_sense c.args.second.now in
    let os = map operand_sense c.args.rest.now in
    let start = c.args.notes.now in
    let typed = c.expression-typed.new.notes in
    let so_far = c.in_ok-so_far.so_far in
    judged_as (spec.operands_as tables asked (o ∷ os)) (each f so_far os) start typed c.operands_behind.new.notes c.operands_behind.result
    (first_added f c.new.result so_far o os start typed c.new.ensures (c.in_ok-so_far.ensures (o.operand.judged tables asked) start typed c.expression-typed.ensures)) c.operands_behind.ensures

pub operations::operands_behind-loop-operand-preserved : goal.operations::operands_behind-loop-operand-preserved
operations::operands_behind-loop-operand-preserved t c =
    let all = c.args.rest.now in
    let i = c.loop-operand.operand-index in
    let o = c.operand-item.result in
    let x = operand_sense o in
    let f = spec.operand_as c.args.tables.now c.args.asked in
    let before = c.loop-operand.notes in
    let typed = c.expression-typed.new.notes in
    let split = next_of all i o c.loop-operand-test.true c.operand-item.is in
    each_added f c.loop-operand.done c.in_ok-done.done x (map operand_sense (drop (i + 1) all)) before typed
    (c.in_ok-done.ensures (x.operand.judged c.args.tables.now c.args.asked) before typed c.expression-typed.ensures)
    ∙ ap (λ os. each f c.loop-operand.done (map operand_sense os) before) (sym split)
    ∙ c.loop-operand.invariant

pub operations::truths-loop-x-preserved : goal.operations::truths-loop-x-preserved
operations::truths-loop-x-preserved t c =
    let all = c.args.more.now in
    let i = c.loop-x.x-index in
    let x = spec.sense c.x-item.result in
    let f = spec.truth_of c.args.tables.now in
    let before = c.loop-x.notes in
    let judged = c.truth-value.new.notes in
    let split = next_of all i c.x-item.result c.loop-x-test.true c.x-item.is in
    each_added f c.loop-x.done c.in_ok-done.done x (map spec.sense (drop (i + 1) all)) before judged (c.in_ok-done.ensures (f x) before judged c.truth-value.ensures)
    ∙ ap (λ xs. each f c.loop-x.done (map spec.sense xs) before) (sym split)
    ∙ c.loop-x.invariant

pub operations::truths_behind-loop-x-preserved : goal.operations::truths_behind-loop-x-preserved
operations::truths_behind-loop-x-preserved t c =
    let all = c.args.more.now in
    let i = c.loop-x.x-index in
    let x = spec.sense c.x-item.result in
    let f = senses.truth_behind c.args.op c.args.tables.now in
    let before = c.loop-x.notes in
    let judged = c.truth-value.new.notes in
    let split = next_of all i c.x-item.result c.loop-x-test.true c.x-item.is in
    each_added f c.loop-x.done c.in_ok-done.done x (map spec.sense (drop (i + 1) all)) before judged
    (c.in_ok-done.ensures (spec.truth_of c.args.tables.now x) before judged c.truth-value.ensures)
    ∙ ap (λ xs. each f c.loop-x.done (map spec.sense xs) before) (sym split)
    ∙ c.loop-x.invariant

-- Names ----------------------------------------------------------------------------------------------------------------------------

pub expressions::found-suffixes-requires : goal.expressions::found-suffixes-requires
expressions::found-suffixes-requires t c = rw c.as_slice.ensures (omega (arith, c.decreases), tt)

pub expressions::suffixed-with_arguments-whole-requires : goal.expressions::suffixed-with_arguments-whole-requires
expressions::suffixed-with_arguments-whole-requires t c =
    let below = rw c.in-Arguments.is at c.decreases in
    rw c.as_slice.ensures (omega (arith, below), tt)

pub expressions::with_arguments-called-requires : goal.expressions::with_arguments-called-requires
expressions::with_arguments-called-requires t c = (omega (arith, c.decreases), tt)

pub expressions::with_arguments-with_one-requires : goal.expressions::with_arguments-with_one-requires
expressions::with_arguments-with_one-requires t c = (omega (arith, c.decreases), tt)

pub expressions::called-actuals-requires : goal.expressions::called-actuals-requires
expressions::called-actuals-requires t c = (omega (arith, c.decreases), tt)

pub expressions::actuals-actual_of-one-requires : goal.expressions::actuals-actual_of-one-requires
expressions::actuals-actual_of-one-requires t c = (omega (arith, c.decreases), tt)

pub expressions::actuals-actuals_behind-requires : goal.expressions::actuals-actuals_behind-requires
expressions::actuals-actuals_behind-requires t c = (omega (arith, c.decreases), tt)

pub expressions::actuals_behind-returns : goal.expressions::actuals_behind-returns
expressions::actuals_behind-returns t c =
    sym c.loop-at.invariant ∙ no_more (spec.actual_of c.args.tables.now) spec.sense c.loop-at.done c.args.formals.now c.args.more.now c.loop-at.at c.loop-at.notes c.loop-at-test.false

pub expressions::actuals_behind-returns-in_default : goal.expressions::actuals_behind-returns-in_default
expressions::actuals_behind-returns-in_default t c =
    sym c.loop-at.invariant
    ∙ no_more_formals (spec.actual_of c.args.tables.now) spec.sense c.loop-at.done c.args.formals.now c.args.more.now c.loop-at.at c.loop-at.notes (ltb-false c.loop-at.at (length c.args.formals.now) (sym c.in_default.ensures.lookup.0))

pub expressions::actuals_behind-loop-at-preserved : goal.expressions::actuals_behind-loop-at-preserved
expressions::actuals_behind-loop-at-preserved t c =
    let all = c.args.more.now in
    let formals = c.args.formals.now in
    let i = c.loop-at.at in
    let y = c.index-more-at.result in
    let p = c.in-Some.formal.now in
    let f = spec.actual_of c.args.tables.now in
    let before = c.loop-at.notes in
    let judged = c.actual_of-one.new.notes in
    let read = c.in-Some.ensures.lookup in
    let one = next_of all i y c.loop-at-test.true c.index-more-at.is in
    let formal = next_of formals i p read.3.0 read.1 in
    each_added f c.loop-at.done c.in_ok-done.done (p, spec.sense y) (spec.matched (drop (i + 1) formals) (map spec.sense (drop (i + 1) all))) before judged
    (c.in_ok-done.ensures (f (p, spec.sense y)) before judged c.actual_of-one.ensures)
    ∙ ap (λ fs. each f c.loop-at.done (spec.matched fs (map spec.sense (y ∷ drop (i + 1) all))) before) (sym formal)
    ∙ ap (λ ys. each f c.loop-at.done (spec.matched (drop i formals) (map spec.sense ys)) before) (sym one)
    ∙ c.loop-at.invariant

pub expressions::bare-returns-in-Name : goal.expressions::bare-returns-in-Name
expressions::bare-returns-in-Name t c = let i = c.in-Name in rw (i.is, sense_name i.field-0 i.name) c.found.ensures

pub expressions::record_by-returns-in_ok-found-in-Name : goal.expressions::record_by-returns-in_ok-found-in-Name
expressions::record_by-returns-in_ok-found-in-Name t c =
    let i = c.in-Name in
    let tables = c.args.tables.now in
    let place = i.place in
    rw (i.is, sense_name i.place i.name)
    (judged_as (spec.found i.name.first (map suffix_sense i.name.suffixes) tables >>= spec.settled tables place >>= spec.record_found place c.args.ty) (senses.record_handed_on tables place c.args.ty c.in_ok-found-in-Name.found)
    c.args.notes.now c.found.new.notes c.record_handed_on.new.notes c.record_handed_on.result
    (ap (λ q. with_known (spec.record_found place c.args.ty) (with_known (spec.settled tables place) q)) c.in_ok-found-in-Name.ensures) c.record_handed_on.ensures)

pub expressions::record_by-returns-in-Parentheses : goal.expressions::record_by-returns-in-Parentheses
expressions::record_by-returns-in-Parentheses t c =
    let i = c.in-Parentheses in
    rw (i.is, sense_parentheses i.field-0 i.inner, ← c.get.ensures, record_enclosed_is c.args.tables.now c.args.ty i.field-0 (spec.sense c.get.result.now) (spec.sense c.get.result.now).named) c.record_inside.ensures

pub expressions::record_inside-returns-in_ok-found-in-Name : goal.expressions::record_inside-returns-in_ok-found-in-Name
expressions::record_inside-returns-in_ok-found-in-Name t c =
    let i = c.in-Name in
    let tables = c.args.tables.now in
    let place = i.place in
    rw (i.is, sense_name i.place i.name)
    (judged_as (spec.found i.name.first (map suffix_sense i.name.suffixes) tables >>= spec.settled tables place >>= spec.record_enclosed place c.args.ty) (senses.record_in_parentheses tables place c.args.ty c.in_ok-found-in-Name.found)
    c.args.notes.now c.found.new.notes c.record_in_parentheses.new.notes c.record_in_parentheses.result
    (ap (λ q. with_known (spec.record_enclosed place c.args.ty) (with_known (spec.settled tables place) q)) c.in_ok-found-in-Name.ensures) c.record_in_parentheses.ensures)

pub expressions::record_inside-returns-in-Parentheses : goal.expressions::record_inside-returns-in-Parentheses
expressions::record_inside-returns-in-Parentheses t c =
    let i = c.in-Parentheses in
    rw (i.is, sense_parentheses i.field-0 i.inner, ← c.get.ensures, record_enclosed_is c.args.tables.now c.args.ty i.field-0 (spec.sense c.get.result.now) (spec.sense c.get.result.now).named) c.record_inside.ensures

pub expressions::variable_of-returns-in_ok-found-in-Name : goal.expressions::variable_of-returns-in_ok-found-in-Name
expressions::variable_of-returns-in_ok-found-in-Name t c =
    let i = c.in-Name in
    let tables = c.args.tables.now in
    let place = i.place in
    rw (i.is, sense_name i.place i.name)
    (judged_as (spec.found i.name.first (map suffix_sense i.name.suffixes) tables >>= spec.settled tables place >>= spec.variable_found tables place c.args.ty) (senses.variable_named tables place c.args.ty c.in_ok-found-in-Name.found)
    c.args.notes.now c.found.new.notes c.variable_named.new.notes c.variable_named.result
    (ap (λ q. with_known (spec.variable_found tables place c.args.ty) (with_known (spec.settled tables place) q)) c.in_ok-found-in-Name.ensures) c.variable_named.ensures)

pub expressions::handle_or_none-returns : goal.expressions::handle_or_none-returns
expressions::handle_or_none-returns t c =
    let name = c.get-name.result.now in
    let tables = c.args.tables.now in
    let place = name.first.span in
    let asked = c.args.asked in
    rw (c.in-Some.is, ← c.get-name.ensures)
    (judged_as (spec.handle_judged tables asked (senses.name_sense name)) (handle_of tables place asked c.in_ok-found.found) c.args.notes.now c.found.new.notes c.handle_of.new.notes c.handle_of.result
    (ap (λ q. with_known (spec.in_subpools tables place asked) (with_known (spec.handle_found place) (with_known (spec.settled tables place) q))) c.in_ok-found.ensures) c.handle_of.ensures)

pub expressions::number_as-returns : goal.expressions::number_as-returns
expressions::number_as-returns t c =
    let tables = c.args.tables.now in
    let x = spec.sense c.args.x.now in
    let ended = c.expression.new.notes in
    judged_as (senses.number_of tables c.args.ty x) (onward c.in_ok-typed.typed (spec.converted_number c.args.ty)) c.args.notes.now ended ended c.converted_number.result
    (ap (with_known (spec.converted_number c.args.ty)) c.in_ok-typed.ensures) (c.converted_number.ensures ended)

pub operations::operands_behind-expression-typed-requires : goal.operations::operands_behind-expression-typed-requires
operations::operands_behind-expression-typed-requires t c =
    let o = c.operand-item.result in
    let below = at_most (λ (p : Operand (Expression Use)). size-Expression Use p.operand) c.args.rest.now c.loop-operand.operand-index o c.loop-operand-test.true in
    let same = ap (λ (p : Operand (Expression Use)). size-Expression Use p.operand) c.operand-item.is in
    (omega (arith, below, same, c.decreases), tt)

-- Calls at one depth, to a function of lower rank ----------------------------------------------------------------------------------

pub expressions::truth-expression-requires : goal.expressions::truth-expression-requires
expressions::truth-expression-requires t c = (omega (arith, c.decreases), tt)

pub expressions::named-found-requires : goal.expressions::named-found-requires
expressions::named-found-requires t c = (omega (arith, c.decreases), tt)

pub expressions::with_one-converted-requires : goal.expressions::with_one-converted-requires
expressions::with_one-converted-requires t c = (omega (arith, c.decreases), tt)

pub expressions::with_one-with_pool-requires : goal.expressions::with_one-with_pool-requires
expressions::with_one-with_pool-requires t c = (omega (arith, c.decreases), tt)

pub expressions::with_one-expression-requires : goal.expressions::with_one-expression-requires
expressions::with_one-expression-requires t c = (omega (arith, c.decreases), tt)

pub expressions::with_pool-variable_of-requires : goal.expressions::with_pool-variable_of-requires
expressions::with_pool-variable_of-requires t c = (omega (arith, c.decreases), tt)

pub expressions::converted-number_as-requires : goal.expressions::converted-number_as-requires
expressions::converted-number_as-requires t c = (omega (arith, c.decreases), tt)

pub expressions::converted-number_as-requires-in-Count : goal.expressions::converted-number_as-requires-in-Count
expressions::converted-number_as-requires-in-Count t c = (omega (arith, c.decreases), tt)

pub expressions::converted-expression-requires : goal.expressions::converted-expression-requires
expressions::converted-expression-requires t c = (omega (arith, c.decreases), tt)

pub expressions::converted-bare-requires : goal.expressions::converted-bare-requires
expressions::converted-bare-requires t c = (omega (arith, c.decreases), tt)

pub expressions::number_as-expression-requires : goal.expressions::number_as-expression-requires
expressions::number_as-expression-requires t c = (omega (arith, c.decreases), tt)

pub expressions::written_by-variable_of-requires : goal.expressions::written_by-variable_of-requires
expressions::written_by-variable_of-requires t c = (omega (arith, c.decreases), tt)

pub expressions::actual_value-expression-requires : goal.expressions::actual_value-expression-requires
expressions::actual_value-expression-requires t c = (omega (arith, c.decreases), tt)

pub expressions::actual_of-record_by-requires : goal.expressions::actual_of-record_by-requires
expressions::actual_of-record_by-requires t c = (omega (arith, c.decreases), tt)

pub expressions::actual_of-actual_value-requires : goal.expressions::actual_of-actual_value-requires
expressions::actual_of-actual_value-requires t c = (omega (arith, c.decreases), tt)

pub expressions::actual_of-written_by-requires : goal.expressions::actual_of-written_by-requires
expressions::actual_of-written_by-requires t c = (omega (arith, c.decreases), tt)

pub operations::logical_behind-whole-requires : goal.operations::logical_behind-whole-requires
operations::logical_behind-whole-requires t c = (omega (arith, c.decreases), tt)

pub operations::logical_behind-whole-requires-in-Or : goal.operations::logical_behind-whole-requires-in-Or
operations::logical_behind-whole-requires-in-Or t c = (omega (arith, c.decreases), tt)

pub operations::logical_behind-whole-requires-in-Xor : goal.operations::logical_behind-whole-requires-in-Xor
operations::logical_behind-whole-requires-in-Xor t c = (omega (arith, c.decreases), tt)

pub operations::logical_behind-short-requires : goal.operations::logical_behind-short-requires
operations::logical_behind-short-requires t c = (omega (arith, c.decreases), tt)

pub operations::logical_behind-short-requires-in-OrElse : goal.operations::logical_behind-short-requires-in-OrElse
operations::logical_behind-short-requires-in-OrElse t c = (omega (arith, c.decreases), tt)

pub operations::whole-truths_behind-requires : goal.operations::whole-truths_behind-requires
operations::whole-truths_behind-requires t c = (omega (arith, c.decreases), tt)

pub operations::short-truths-requires : goal.operations::short-truths-requires
operations::short-truths-requires t c = (omega (arith, c.decreases), tt)

pub operations::unary-expression-requires : goal.operations::unary-expression-requires
operations::unary-expression-requires t c = (omega (arith, c.decreases), tt)

pub expressions::new_object-object-requires : goal.expressions::new_object-object-requires
expressions::new_object-object-requires t c = (omega (arith, c.decreases), tt)

pub expressions::object-value_or_none-requires : goal.expressions::object-value_or_none-requires
expressions::object-value_or_none-requires t c = (omega (arith, c.decreases), tt)

pub expressions::record_inside-actual_value-requires : goal.expressions::record_inside-actual_value-requires
expressions::record_inside-actual_value-requires t c = (omega (arith, c.decreases), tt)

pub expressions::variable_of-expression-requires : goal.expressions::variable_of-expression-requires
expressions::variable_of-expression-requires t c = (omega (arith, c.decreases), tt)
