use Rattle.std.proofs.Common.{Some, arith, subst, ℕ}
use Rattle.std.specs.declared.ops.Bound.{Bound}
use Rattle.ctl_groups.specs.declared.groups.Group.{Group}
use Rattle.ctl_groups.specs.Groups.{IsFirstMember}
use Rattle.ctl_groups.proofs.Grouped.{next_found, next_too_far}
use Rattle.ctl_groups.proofs.groups.Groups.next.Goals as goal

pub returns-then-group-last : goal.returns-then-group-last
returns-then-group-last c =
    let f = c.in_ok-group.group in
    let n = c.in_ok-group._number in
    next_too_far c.args.start c.args.last c.args.self.now f n (subst (λ (b : Bound (Group × ℕ)). IsFirstMember b (Some (f, n)) c.args.self.now) c.start_of.ensures c.in_ok-group.ensures) (omega (arith, c.if-group-last.true))

pub returns : goal.returns
returns c =
    let f = c.in_ok-group.group in
    let n = c.in_ok-group._number in
    next_found c.args.start c.args.last c.args.self.now f n c.count.result c.requires (subst (λ (b : Bound (Group × ℕ)). IsFirstMember b (Some (f, n)) c.args.self.now) c.start_of.ensures c.in_ok-group.ensures)
    (omega (arith, c.if-group-last.false)) c.count.ensures
