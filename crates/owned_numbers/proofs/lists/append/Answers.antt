use Rattle.std.proofs.Common.{sym, subst, ◌∙◌}
use Rattle.std.specs.Prelude.{Result, Ok, Err, OnErr}
use Rattle.std.specs.FinMap.{insert}
use Rattle.owned_numbers.specs.Lists.{IsAppended}
use Rattle.owned_numbers.proofs.Items.{appended, same_items}
use Rattle.owned_numbers.proofs.lists.append.Goals as goal

pub returns-in-Some-clause-ok : goal.returns-in-Some-clause-ok
returns-in-Some-clause-ok c =
    let a = c.args in
    let v = c.in-Some.list.now in
    let w = c.push.new.self in
    subst (λ i. IsAppended a.owner i a.number a.lists.now.values (insert a.lists.now.values a.owner w)) (sym (c.len-index.ensures ∙ v.ok.0)) (appended a.lists.now.values a.owner a.number v w (sym c.in-Some.ensures.value) c.in_ok-push.ensures.items)

on_err : {T E : Type 0} (r : Result T E) (P : Type 0) → P → OnErr r P
on_err (Ok x) P h = tt
on_err (Err e) P h = h

pub returns-in_err-push-clause-err : goal.returns-in_err-push-clause-err
returns-in_err-push-clause-err c =
    let a = c.args in
    on_err c.from_residual.result _ (same_items a.lists.now.values a.owner c.in-Some.list.now c.push.new.self (sym c.in-Some.ensures.value) c.in_err-push.ensures.items)
