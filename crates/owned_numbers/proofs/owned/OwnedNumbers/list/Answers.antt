use Rattle.std.proofs.Common.{cond, ap, ◌∙◌}
use Rattle.std.specs.Prelude.{true, nat_eq, ◌&&◌}
use Rattle.std.specs.FinMap.{get}
use Rattle.owned_numbers.specs.Owned.{Owned, owns}
use Rattle.owned_numbers.proofs.Apart.{listed_as, no_owner}
use Rattle.owned_numbers.proofs.owned.OwnedNumbers.list.Goals as goal

pub invariant_of-self-2 : goal.invariant_of-self-2
invariant_of-self-2 c =
    let n = c.args.number in
    no_owner (get c.file.new.others.owners n) (λ p. ap (λ (o : Owned). owns p n o) (c.in_ok-file.ensures.ok ∙ c.self.view_is) ∙ c.requires p)

pub returns-clause-ok : goal.returns-clause-ok
returns-clause-ok c = λ p k.
    let n = c.args.number in
    let none = no_owner (get c.file.new.others.owners n) (λ q. ap (λ (o : Owned). owns q n o) (c.in_ok-file.ensures.ok ∙ c.self.view_is) ∙ c.requires q) in
    listed_as c.file.new.others c.args.owner n none p k ∙ ap (λ (o : Owned). cond (nat_eq c.args.owner p && nat_eq n k) true (owns p k o)) (c.in_ok-file.ensures.ok ∙ c.self.view_is)
