use Rattle.std.proofs.Common.{◌∙◌, Option, subst, sym, ℕ}
use Rattle.std.specs.declared.ops.Bound.TheVariants.{Included}
use Rattle.ctl_groups.specs.declared.groups.Group.{Group}
use Rattle.ctl_groups.specs.Groups.{IsLastMember}
use Rattle.ctl_groups.proofs.Grouped.{greatest_member, no_greatest_member, other_last, same_is}
use Rattle.ctl_groups.proofs.groups.Groups.member_to.Goals as goal

pub returns-in-Some : goal.returns-in-Some
returns-in-Some c = greatest_member c.args.self.now c.args.group c.args.end c.in-Some.found c.in-Some.number c.in-Some.ensures (same_is c.in-Some.found c.args.group (sym c.eq.ensures ∙ c.if-eq.true))

pub returns-in_default : goal.returns-in_default
returns-in_default c = other_last c.args.self.now c.args.group c.args.end c.in-Some.found c.in-Some.number c.in-Some.ensures (sym c.eq.ensures ∙ c.if-eq.false)

pub returns-in_default-2 : goal.returns-in_default-2
returns-in_default-2 c =
    no_greatest_member c.args.self.now c.args.group c.args.end
    (subst (λ (r : Option (Group × ℕ)). IsLastMember (Included (c.args.group, c.args.end)) r c.args.self.now) c.in_default.is c.last_to.ensures)
