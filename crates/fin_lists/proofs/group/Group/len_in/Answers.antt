use Rattle.std.proofs.Common.{◌≡◌, length, sym, ap, ◌∙◌, subst, Some, rules}
use Rattle.std.specs.List.Sorted.{IsStrictlyIncreasing}
use Rattle.fin_lists.specs.Members.{IsSole, members_in, objects_of}
use Rattle.fin_lists.proofs.MemberLemmas.{sole_members, members_rise}
use Rattle.fin_lists.proofs.group.Group.len_in.Goals as goal

pub returns-then-eq-clause-count : goal.returns-then-eq-clause-count
returns-then-eq-clause-count g c =
    let xs = c.self.inside.members.items in
    let is : c.self.inside.sole ≡ Some c.args.set = search rules in
    let whole = sole_members c.args.set xs (subst (λ s. IsSole s xs) is c.self.invariant.1) in
    c.len.ensures ∙ ap length (sym c.self.view_is ∙ sym whole) ∙ ap (λ l. length (members_in c.args.set l)) c.self.view_is

pub returns-then-eq-clause-rising : goal.returns-then-eq-clause-rising
returns-then-eq-clause-rising g c =
    subst (λ l. IsStrictlyIncreasing (objects_of (members_in c.args.set l))) c.self.view_is
    (members_rise c.args.set c.self.inside.members.items c.self.invariant.0 c.self.invariant.2)

pub returns-clause-rising : goal.returns-clause-rising
returns-clause-rising g c =
    subst (λ l. IsStrictlyIncreasing (objects_of (members_in c.args.set l))) c.self.view_is
    (members_rise c.args.set c.self.inside.members.items c.self.invariant.0 c.self.invariant.2)
