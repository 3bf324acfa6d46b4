use Rattle.std.proofs.Common.{arith, sym, ap, ◌∙◌, [], drop}
use Rattle.ctl_syntax.specs.declared.denoted.Use.{Use}
use Rattle.ctl_syntax.specs.declared.expression.Expression.{Expression}
use Rattle.ctl_syntax.specs.declared.operators.Operand.{Operand}
use Rattle.ctl_resolve.specs.Naming.{each}
use Rattle.ctl_resolve.specs.Expressions.{expression, named_operand, named_suffix}
use Rattle.ctl_resolve.proofs.Each.{turned}
use Rattle.ctl_resolve.proofs.ExpressionDepths.{logical_below, relation_below, chain_below}
use Rattle.ctl_resolve.proofs.ExpressionParts.{logical, chain, of_name, allocator, named, arguments}
use Rattle.ctl_resolve.proofs.expressions.+expression.Goals as goal

pub logical-returns : goal.logical-returns
logical-returns t c =
    let v1 = c.boxed.new.view in
    let v2 = c.boxed-2.new.view in
    let both = c.in_ok-both-2.both in
    let front = c.in_ok-both.ensures (expression c.args.second.now) v1 v2 c.boxed-2.ensures in
    let last = c.in_ok-both-2.ensures (each expression [] c.as_slice.result.now) v2 c.expressions.new.view c.expressions.ensures in
    logical c.args.at c.args.operator c.args.first.now c.args.second.now c.args.more.now c.args.view.now v1 v2 c.expressions.new.view both.0 both.1 c.in_ok-both-2.more
    (c.in_ok-first.ensures ∙ ap (λ (x : Expression Use). (x, v1)) (sym (ap (λ (a : Expression Use × Expression Use). a.0) last.0 ∙ front.0)))
    (front.1 ∙ ap (λ (a : Expression Use × Expression Use). (a.1, v2)) (sym last.0))
    (ap (λ ys. each expression [] ys v2) (sym c.as_slice.ensures) ∙ last.1)

pub chain-returns : goal.chain-returns
chain-returns t c =
    let v1 = c.boxed.new.view in
    let v2 = c.boxed_operand.new.view in
    let both = c.in_ok-both-2.both in
    let front = c.in_ok-both.ensures (named_operand c.args.second.now) v1 v2 c.boxed_operand.ensures in
    let last = c.in_ok-both-2.ensures (each named_operand [] c.as_slice.result.now) v2 c.operands.new.view c.operands.ensures in
    chain c.args.at c.args.first.now c.args.second.now c.args.more.now c.args.view.now v1 v2 c.operands.new.view both.0 both.1 c.in_ok-both-2.more
    (c.in_ok-first.ensures ∙ ap (λ (x : Expression Use). (x, v1)) (sym (ap (λ (a : Expression Use × Operand (Expression Use)). a.0) last.0 ∙ front.0)))
    (front.1 ∙ ap (λ (a : Expression Use × Operand (Expression Use)). (a.1, v2)) (sym last.0))
    (ap (λ ys. each named_operand [] ys v2) (sym c.as_slice.ensures) ∙ last.1)

pub expression-returns-in_ok-name-in-Name : goal.expression-returns-in_ok-name-in-Name
expression-returns-in_ok-name-in-Name t c =
    ap (λ e. expression e c.args.view.now) c.in-Name.is
    ∙ of_name c.in-Name.at c.in-Name.of c.args.view.now c.name.new.view c.in_ok-name-in-Name.name c.in_ok-name-in-Name.ensures

pub expression-returns-in_ok-value-in-New : goal.expression-returns-in_ok-value-in-New
expression-returns-in_ok-value-in-New t c =
    ap (λ e. expression e c.args.view.now) c.in-New.is
    ∙ allocator c.in-New.at c.in-New.handle c.in-New.of c.in-New.value c.args.view.now c.handle_or_none.new.view c.mark.new.view c.value_or_none.new.view c.in_ok-handle-in-New.handle c.in_ok-mark-in-New.mark c.in_ok-value-in-New.value c.in_ok-handle-in-New.ensures c.in_ok-mark-in-New.ensures c.in_ok-value-in-New.ensures

pub name-returns : goal.name-returns
name-returns t c =
    let v1 = c.beginning.new.view in
    let count = c.in_ok-first.count in
    let both = c.in_ok-first-2.ensures (each named_suffix [] (drop count c.as_slice.result.now)) v1 c.suffixes-suffixes.new.view c.suffixes-suffixes.ensures in
    named c.args.of.now c.args.view.now v1 c.suffixes-suffixes.new.view c.in_ok-first-2.first count c.in_ok-first-2.suffixes
    (c.in_ok-first.ensures ∙ ap (λ (u : Use). ((u, count), v1)) (sym both.0))
    (ap (λ xs. each named_suffix [] (drop count xs) v1) (sym c.as_slice.ensures) ∙ both.1)

pub suffix-returns-in-Arguments : goal.suffix-returns-in-Arguments
suffix-returns-in-Arguments t c = rw c.in-Arguments.is c.arguments.ensures

pub arguments-returns : goal.arguments-returns
arguments-returns t c =
    let v1 = c.expression.new.view in
    let both = c.in_ok-first-2.ensures (each expression [] c.as_slice.result.now) v1 c.expressions.new.view c.expressions.ensures in
    arguments c.args.at c.args.first.now c.args.more.now c.args.view.now v1 c.expressions.new.view c.in_ok-first-2.first c.in_ok-first-2.more
    (c.in_ok-first.ensures ∙ ap (λ (x : Expression Use). (x, v1)) (sym both.0))
    (ap (λ ys. each expression [] ys v1) (sym c.as_slice.ensures) ∙ both.1)

pub expressions-loop-one-preserved : goal.expressions-loop-one-preserved
expressions-loop-one-preserved t c = turned expression c.loop-one.resolved _ c.args.all.now c.loop-one.one-index c.one-item.result c.expression.result c.loop-one.view c.expression.new.view c.loop-one-test.true c.one-item.is c.expression.ensures c.in_ok-resolved-2.ensures ∙ c.loop-one.invariant

pub operands-loop-one-preserved : goal.operands-loop-one-preserved
operands-loop-one-preserved t c = turned named_operand c.loop-one.resolved _ c.args.all.now c.loop-one.one-index c.one-item.result c.operand.result c.loop-one.view c.operand.new.view c.loop-one-test.true c.one-item.is c.operand.ensures c.in_ok-resolved-2.ensures ∙ c.loop-one.invariant

pub expression-logical-requires : goal.expression-logical-requires
expression-logical-requires t c =
    let h = logical_below c.args.of.now c.in-Logical.at c.in-Logical.operator c.in-Logical.first c.in-Logical.second c.in-Logical.more c.in-Logical.is in
    (omega (arith, h, c.decreases), tt)

pub expression-relation-requires : goal.expression-relation-requires
expression-relation-requires t c =
    let h = relation_below c.args.of.now c.in-Relation.at c.in-Relation.operator c.in-Relation.left c.in-Relation.right c.in-Relation.is in
    (omega (arith, h, c.decreases), tt)

pub expression-chain-requires : goal.expression-chain-requires
expression-chain-requires t c =
    let h = chain_below c.args.of.now c.in-Chain.at c.in-Chain.first c.in-Chain.second c.in-Chain.more c.in-Chain.is in
    (omega (arith, h, c.decreases), tt)
