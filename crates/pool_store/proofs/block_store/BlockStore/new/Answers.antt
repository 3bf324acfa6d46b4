use Rattle.std.proofs.Common.{[], sym, ap, subst, ◌∙◌}
use Rattle.std.specs.Prelude.{IfSome}
use Rattle.std.specs.Ordering.{nat_cmp}
use Rattle.std.specs.FinMap.{empty, get, get-empty}
use Rattle.number_map.specs.Table.{mapped, AreGiven}
use Rattle.number_map.proofs.Mapped.{mapped_none}
use Rattle.pool_store.specs.Entries.{pool_of, stored_in, IsTied}
use Rattle.pool_store.proofs.block_store.BlockStore.new.Goals as goal

pub invariant_of-result : goal.invariant_of-result
invariant_of-result g c =
    let o = c.new.ensures.values in
    let b = c.new-2.ensures.values in
    record {
      tied = λ n. subst (λ t. IfSome (get t n) (IsTied c.new-2.result.values n)) (sym o) (subst (λ x. IfSome x (IsTied c.new-2.result.values n)) (sym (get-empty nat_cmp n)) tt);
      addresses = λ p. subst (λ t. IfSome (get t p) (λ x. AreGiven 0 x.out)) (sym b) (subst (λ x. IfSome x (λ y. AreGiven 0 y.out)) (sym (get-empty nat_cmp p)) tt);
    }

pub returns : goal.returns
returns g c =
    let o = ap (mapped (stored_in c.new-2.result.values)) c.new.ensures.values ∙ mapped_none (stored_in c.new-2.result.values) in
    let b = ap (mapped pool_of) c.new-2.ensures.values ∙ mapped_none pool_of in
    λ i. record { objects = o i; blocks = b i; given = 0; marks = empty; opened = []; next_subpool = 1 }
