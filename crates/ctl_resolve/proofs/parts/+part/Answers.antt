use Rattle.std.proofs.Common.{List, arith, sym, [], ap, ◌∙◌, map}
use Rattle.ctl_syntax.specs.declared.denoted.Definition.{Definition}
use Rattle.ctl_syntax.specs.declared.denoted.Use.{Use}
use Rattle.ctl_syntax.specs.declared.expression.Expression.{Expression}
use Rattle.ctl_syntax.specs.declared.name.Identifier.{Identifier}
use denote.Param.Weighed.{at_most}
use Rattle.ctl_syntax.specs.declared.item.Body.{out-Body}
use Rattle.ctl_syntax.specs.declared.item.Branch.{Branch}
use Rattle.ctl_syntax.specs.declared.item.Choices.{Choices}
use Rattle.ctl_syntax.specs.declared.item.Item.{Item}
use Rattle.ctl_syntax.specs.declared.item.Statement.{Statement}
use Rattle.ctl_resolve.specs.Naming.{after, each, changed, leave}
use Rattle.ctl_resolve.specs.Parts.{item_of, statement, named_branch, named_handler, note_choices, looped}
use Rattle.ctl_resolve.proofs.BodyParts.{bodied}
use Rattle.ctl_resolve.proofs.StatementDepths.{deepness, depth_of_branch, first_below, more_below, others_below}
use Rattle.ctl_resolve.proofs.StatementParts.{conditional, endless, while_true, guarding, handling, looping}
use Rattle.ctl_resolve.proofs.Each.{turned}
use Rattle.ctl_resolve.proofs.parts.+part.Goals as goal

abbrev Named_items : Type 0
Named_items = List (Item Definition Use)

abbrev Named_statements : Type 0
Named_statements = List (Statement Definition Use)

abbrev Named_branch : Type 0
Named_branch = Branch (Statement Definition Use) Use

pub items-loop-one-preserved : goal.items-loop-one-preserved
items-loop-one-preserved t c = turned item_of c.loop-one.resolved _ c.args.all.now c.loop-one.one-index c.one-item.result c.item.result c.loop-one.view c.item.new.view c.loop-one-test.true c.one-item.is c.item.ensures c.in_ok-resolved-2.ensures ∙ c.loop-one.invariant

pub statements-loop-one-preserved : goal.statements-loop-one-preserved
statements-loop-one-preserved t c = turned statement c.loop-one.resolved _ c.args.all.now c.loop-one.one-index c.one-item.result c.statement.result c.loop-one.view c.statement.new.view c.loop-one-test.true c.one-item.is c.statement.ensures c.in_ok-resolved-2.ensures ∙ c.loop-one.invariant

pub branches-loop-one-preserved : goal.branches-loop-one-preserved
branches-loop-one-preserved t c = turned named_branch c.loop-one.resolved _ c.args.all.now c.loop-one.one-index c.one-item.result c.guarded.result c.loop-one.view c.guarded.new.view c.loop-one-test.true c.one-item.is c.guarded.ensures c.in_ok-resolved-2.ensures ∙ c.loop-one.invariant

pub handlers-loop-one-preserved : goal.handlers-loop-one-preserved
handlers-loop-one-preserved t c = turned named_handler c.loop-one.resolved _ c.args.all.now c.loop-one.one-index c.one-item.result c.handler.result c.loop-one.view c.handler.new.view c.loop-one-test.true c.one-item.is c.handler.ensures c.in_ok-resolved-2.ensures ∙ c.loop-one.invariant

pub body-returns : goal.body-returns
body-returns t c =
    let o = out-Body Identifier Identifier c.args.of.now in
    let v1 = c.items.new.view in
    let w1 = c.note_unfinished.new.view in
    let v2 = c.statements.new.view in
    let v3 = c.exception_part-handlers.new.view in
    let parts = c.in_ok-parts-2.parts in
    let front = c.in_ok-parts.ensures (each statement [] c.as_slice-2.result.now) w1 v2 c.statements.ensures in
    let last = c.in_ok-parts-2.ensures (after (note_choices c.as_slice-3.result.now) (each named_handler [] c.as_slice-3.result.now)) v2 v3 c.exception_part-handlers.ensures in
    bodied c.args.of.now c.args.view.now v1 v2 v3 parts.0 parts.1 c.in_ok-parts-2.handlers
    (ap (λ ys. each item_of [] ys c.args.view.now) (sym c.as_slice.ensures) ∙ c.in_ok-items.ensures ∙ ap (λ (x : Named_items). (x, v1)) (sym (ap (λ (a : Named_items × Named_statements). a.0) last.0 ∙ front.0)))
    (ap (λ w. each statement [] o.statements w) (sym c.note_unfinished.ensures) ∙ ap (λ ys. each statement [] ys w1) (sym c.as_slice-2.ensures) ∙ front.1 ∙ ap (λ (a : Named_items × Named_statements). (a.1, v2)) (sym last.0))
    (ap (λ hs. each named_handler [] hs (note_choices hs v2)) (sym c.as_slice-3.ensures) ∙ last.1)

pub guarded-returns : goal.guarded-returns
guarded-returns t c =
    let v1 = c.expression.new.view in
    let both = c.in_ok-condition-2.ensures (each statement [] c.as_slice.result.now) v1 c.statements-statements.new.view c.statements-statements.ensures in
    guarding c.args.of.now c.args.view.now v1 c.statements-statements.new.view c.in_ok-condition-2.condition c.in_ok-condition-2.statements
    (c.in_ok-condition.ensures ∙ ap (λ (x : Expression Use). (x, v1)) (sym both.0))
    (ap (λ ys. each statement [] ys v1) (sym c.as_slice.ensures) ∙ both.1)

pub handler-returns : goal.handler-returns
handler-returns t c =
    let v1 = c.choices.new.view in
    let read = c.before.in_ok-choices-2 in
    let both = read.ensures (each statement [] c.as_slice.result.now) v1 c.statements-statements.new.view c.statements-statements.ensures in
    handling c.args.of.now c.args.view.now v1 c.statements-statements.new.view read.choices read.statements
    (c.in_ok-choices.ensures ∙ ap (λ (x : Choices Use). (x, v1)) (sym both.0))
    (ap (λ ys. each statement [] ys v1) (sym c.as_slice.ensures) ∙ both.1)

pub repeated-returns : goal.repeated-returns
repeated-returns t c =
    let v = c.args.view.now in
    let all = c.args.all.now in
    let v1 = c.new_name.new.view in
    let v2 = c.statements.new.view in
    let both = c.in_ok-both.both in
    let read = c.in_ok-both.ensures (each statement [] all) v1 v2 c.statements.ensures in
    ap (λ w. changed (leave v.part) (looped c.args.id.now (map statement all) w)) (sym c.enter_region-around.ensures.inside)
    ∙ ap (changed (leave v.part)) (looping c.args.id.now all c.enter_region-around.new.view v1 v2 both.0 both.1 (c.in_ok-parameter.ensures ∙ ap (λ (d : Definition). (d, v1)) (sym read.0)) read.1)
    ∙ ap (λ w. (both, w)) (ap (λ a. leave a v2) (sym c.enter_region-around.ensures.around) ∙ sym c.leave.ensures)

pub statement-conditional-requires : goal.statement-conditional-requires
statement-conditional-requires t c =
    let h = ap deepness c.in-If.is in
    (omega (arith, h, c.decreases), tt)

pub conditional-guarded-requires : goal.conditional-guarded-requires
conditional-guarded-requires t c =
    let h = first_below c.args.at c.args.first.now c.args.more.now c.args.others.now in
    (omega (arith, h, c.decreases), tt)

pub conditional-branches-requires : goal.conditional-branches-requires
conditional-branches-requires t c =
    let h = more_below c.args.at c.args.first.now c.args.more.now c.args.others.now c.as_slice.result.now c.as_slice.ensures in
    (omega (arith, h, c.decreases), tt)

pub conditional-statements-requires : goal.conditional-statements-requires
conditional-statements-requires t c =
    let h = others_below c.args.at c.args.first.now c.args.more.now c.args.others.now c.as_slice-2.result.now c.as_slice-2.ensures in
    (omega (arith, h, c.decreases), tt)

pub branches-guarded-requires : goal.branches-guarded-requires
branches-guarded-requires t c =
    let b = c.one-item.result in
    let below = at_most (λ (x : Branch (Statement Identifier Identifier) Identifier). depth_of_branch x) c.args.all.now c.loop-one.one-index b c.loop-one-test.true in
    let same = ap (λ (x : Branch (Statement Identifier Identifier) Identifier). depth_of_branch x) c.one-item.is in
    (omega (arith, below, same, c.decreases), tt)

pub conditional-returns : goal.conditional-returns
conditional-returns t c =
    let v1 = c.guarded.new.view in
    let v2 = c.branches.new.view in
    let arms = c.in_ok-arms-2.arms in
    let first = c.in_ok-arms.ensures (each named_branch [] c.as_slice.result.now) v1 v2 c.branches.ensures in
    let last = c.in_ok-arms-2.ensures (each statement [] c.as_slice-2.result.now) v2 c.statements.new.view c.statements.ensures in
    conditional c.args.at c.args.first.now c.args.more.now c.args.others.now c.args.view.now v1 v2 c.statements.new.view arms.0 arms.1 c.in_ok-arms-2.others
    (c.in_ok-first.ensures ∙ ap (λ (x : Named_branch). (x, v1)) (sym (ap (λ (a : Named_branch × List Named_branch). a.0) last.0 ∙ first.0)))
    (ap (λ ys. each named_branch [] ys v1) (sym c.as_slice.ensures) ∙ first.1 ∙ ap (λ (a : Named_branch × List Named_branch). (a.1, v2)) (sym last.0))
    (ap (λ ys. each statement [] ys v2) (sym c.as_slice-2.ensures) ∙ last.1)

pub endless-returns : goal.endless-returns
endless-returns t c =
    endless c.args.at c.args.all.now c.args.view.now c.statements.new.view c.in_ok-repeated.repeated
    (ap (λ ys. each statement [] ys c.args.view.now) (sym c.as_slice.ensures) ∙ c.in_ok-repeated.ensures)

pub while_loop-returns : goal.while_loop-returns
while_loop-returns t c =
    let v1 = c.expression.new.view in
    let both = c.in_ok-condition-2.ensures (each statement [] c.as_slice.result.now) v1 c.statements.new.view c.statements.ensures in
    while_true c.args.at c.args.condition.now c.args.all.now c.args.view.now v1 c.statements.new.view c.in_ok-condition-2.condition c.in_ok-condition-2.repeated
    (c.in_ok-condition.ensures ∙ ap (λ (x : Expression Use). (x, v1)) (sym both.0))
    (ap (λ ys. each statement [] ys v1) (sym c.as_slice.ensures) ∙ both.1)
