use Rattle.std.proofs.Common.{◌≡◌, sym, ap, ◌∙◌, subst, Some, rules}
use Rattle.std.specs.Prelude.{slice_get}
use Rattle.fin_lists.specs.Members.{IsSole, members_in, objects_of}
use Rattle.fin_lists.proofs.MemberLemmas.{sole_members}
use Rattle.fin_lists.proofs.group.Group.nth_in.Goals as goal

pub returns-then-eq : goal.returns-then-eq
returns-then-eq g c =
    let xs = c.self.inside.members.items in
    let is : c.self.inside.sole ≡ Some c.args.set = search rules in
    let whole = sole_members c.args.set xs (subst (λ s. IsSole s xs) is c.self.invariant.1) in
    c.nth.ensures ∙ ap (λ l. slice_get (objects_of l) c.args.k) (sym c.self.view_is ∙ sym whole ∙ ap (members_in c.args.set) c.self.view_is)
