use Rattle.std.proofs.Common.{◌∙◌, Option, subst, sym, ℕ}
use Rattle.std.specs.declared.ops.Bound.TheVariants.{Included}
use Rattle.ctl_groups.specs.declared.groups.Group.{Group}
use Rattle.ctl_groups.specs.Groups.{IsFirstMember}
use Rattle.ctl_groups.proofs.Grouped.{least_member, no_least_member, other_first, same_is}
use Rattle.ctl_groups.proofs.groups.Groups.member_from.Goals as goal

pub returns-in-Some : goal.returns-in-Some
returns-in-Some c = least_member c.args.self.now c.args.group c.args.start c.in-Some.found c.in-Some.number c.in-Some.ensures (same_is c.in-Some.found c.args.group (sym c.eq.ensures ∙ c.if-eq.true))

pub returns-in_default : goal.returns-in_default
returns-in_default c = other_first c.args.self.now c.args.group c.args.start c.in-Some.found c.in-Some.number c.in-Some.ensures (sym c.eq.ensures ∙ c.if-eq.false)

pub returns-in_default-2 : goal.returns-in_default-2
returns-in_default-2 c =
    no_least_member c.args.self.now c.args.group c.args.start
    (subst (λ (r : Option (Group × ℕ)). IsFirstMember (Included (c.args.group, c.args.start)) r c.args.self.now) c.in_default.is c.first_from.ensures)
