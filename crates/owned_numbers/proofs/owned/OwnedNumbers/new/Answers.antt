use Rattle.std.proofs.Common.{ℕ, ap, ◌∙◌}
use Rattle.std.specs.Ordering.{nat_cmp}
use Rattle.std.specs.FinMap.{FinMap, get, get-empty}
use Rattle.owned_numbers.specs.Owned.{is_owner}
use Rattle.owned_numbers.proofs.owned.OwnedNumbers.new.Goals as goal

pub returns-clause-none : goal.returns-clause-none
returns-clause-none c = λ p n. ap (λ (m : FinMap nat_cmp ℕ). is_owner p (get m n)) c.new.ensures.owners ∙ ap (is_owner p) (get-empty nat_cmp n)
