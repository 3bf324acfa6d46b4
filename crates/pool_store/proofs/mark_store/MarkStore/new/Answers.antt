use Rattle.std.proofs.Common.{arith, sym, ap, subst, ◌<◌, ◌∙◌}
use Rattle.std.specs.Prelude.{IfSome}
use Rattle.std.specs.Ordering.{nat_cmp}
use Rattle.std.specs.FinMap.{empty, get, get-empty}
use Rattle.number_map.specs.Table.{mapped}
use Rattle.number_map.proofs.Mapped.{mapped_none}
use Rattle.pool_store.specs.Cells.{mark_of, stored_at, IsAt}
use Rattle.pool_store.proofs.mark_store.MarkStore.new.Goals as goal

pub invariant_of-result : goal.invariant_of-result
invariant_of-result g c =
    let pools = c.new.ensures.values in
    let cells = c.new-3.ensures.values in
    record {
      placed = λ n. subst (λ t. IfSome (get t n) (IsAt c.new.result.values n)) (sym cells) (subst (λ x. IfSome x (IsAt c.new.result.values n)) (sym (get-empty nat_cmp n)) tt);
      numbers = λ p. subst (λ t. IfSome (get t p) (λ m. m.given < 1)) (sym pools) (subst (λ x. IfSome x (λ m. m.given < 1)) (sym (get-empty nat_cmp p)) tt);
      positive = omega arith;
    }

pub returns : goal.returns
returns g c =
    let cells = ap (mapped (stored_at c.new.result.values)) c.new-3.ensures.values ∙ mapped_none (stored_at c.new.result.values) in
    let pools = ap (mapped mark_of) c.new.ensures.values ∙ mapped_none mark_of in
    λ i. record { objects = cells i; blocks = empty; given = 0; marks = pools i; opened = c.new-2.ensures.items i; next_subpool = 1 }
