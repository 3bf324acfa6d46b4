use Rattle.std.proofs.Common.{◌≡◌, Option, None, sym, ap, subst, ◌∙◌}
use Rattle.std.specs.FinMap.{get}
use Rattle.pool_store.specs.Entries.{Stored}
use Rattle.pool_store.specs.Joined.{side_by_side, AreApart}
use Rattle.pool_store.specs.Store as store
use Rattle.pool_store.specs.Store.{Store}
use Rattle.std.specs.Prelude.{IfSome}
use Rattle.std.specs.Ordering.{nat_cmp}
use Rattle.std.specs.FinMap.{get-empty}
use Rattle.pool_store.proofs.Sides.{none_joined}
use Rattle.pool_store.proofs.store.PoolStore.new.Goals as goal

apart : AreApart store.no_store store.no_store
apart n = subst (λ (o : Option Stored). IfSome o (λ x. get (store.no_store).objects n ≡ None)) (sym (get-empty nat_cmp n)) tt

pub invariant_of-result : goal.invariant_of-result
invariant_of-result g c =
    subst (λ a. AreApart a c.new-2.result) (sym c.new.ensures) (subst (λ b. AreApart store.no_store b) (sym c.new-2.ensures) apart)

pub returns : goal.returns
returns g c =
    ap (λ a. side_by_side a c.new-2.result) c.new.ensures ∙ ap (λ b. side_by_side store.no_store b) c.new-2.ensures ∙ none_joined
