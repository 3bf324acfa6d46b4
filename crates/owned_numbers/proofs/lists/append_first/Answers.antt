use Rattle.std.proofs.Common.{ℕ, List, [], ◌∷◌, ◌++◌, sym, ap, subst, ◌∙◌}
use Rattle.std.specs.FinMap.{insert}
use Rattle.owned_numbers.specs.Lists.{IsAppended, Lists}
use Rattle.owned_numbers.proofs.Items.{appended_first}
use Rattle.owned_numbers.proofs.lists.append_first.Goals as goal

pub returns-clause-ok : goal.returns-clause-ok
returns-clause-ok c =
    let a = c.args in
    let put = c.put_new.ensures.values ∙ ap (λ (m : Lists). insert m a.owner c.push.new.self) c.reserve.ensures.values in
    subst (λ (m : Lists). IsAppended a.owner 0 a.number a.lists.now.values m) (sym put) (appended_first a.lists.now.values a.owner a.number c.push.new.self c.requires (c.in_ok-push.ensures.items ∙ ap (λ (l : List ℕ). l ++ a.number ∷ []) c.new-list.ensures.items))
