use Rattle.std.proofs.Common.{sym, ap, arith, ◌∙◌}
use Rattle.number_map.proofs.Mapped.{mapped_none}
use Rattle.owned_numbers.proofs.Items.{nothing_at}
use Rattle.owned_numbers.specs.Lists.{Places, owners_of}
use Rattle.owned_numbers.proofs.Places.{listed_none}
use Rattle.owned_numbers.proofs.others.Others.new.Goals as goal

pub invariant_of-result : goal.invariant_of-result
invariant_of-result c = record {
  listed = listed_none c.new.result.values c.new-2.result.values c.new.ensures.values (nothing_at c.new-2.result.values c.new-2.ensures.values);
  many = sym c.new.ensures.size;
  few = omega arith;
}

pub returns-clause-owners : goal.returns-clause-owners
returns-clause-owners c = ap (λ (m : Places). owners_of m) c.new.ensures.values ∙ mapped_none (λ x. x.owner)
