use Rattle.std.proofs.Common.{◌≡◌, ◌≤◌, [], ◌∷◌, length, ap, sym, subst, arith, ◌∙◌}
use Rattle.ctl_code.specs.Kinds.{stack_in}
use Rattle.ctl_code.specs.Stacks.{stacks_over, AreMeasured, LeadDown}
use Rattle.ctl_code.specs.Windows.{depth, height}
use Rattle.ctl_code.specs.declared.stacks.Link.{Link}
use Rattle.ctl_code.proofs.Links.{length_stacks, one_more, one_more_leads_down, one_more_is_measured}
use Rattle.ctl_code.proofs.stacks.Stacks.push.Goals as goal

pub invariant_of-self : goal.invariant_of-self
invariant_of-self c =
    subst (λ links. LeadDown links × AreMeasured links) (sym c.in_err-push.ensures.items) (c.self.invariant.0, c.self.invariant.1)

pub invariant_of-self-2 : goal.invariant_of-self-2
invariant_of-self-2 c =
    let links = c.self.inside.links.items in
    let l : Link = record { kind = c.args.kind; below = c.args.below; height = c.in-Some.height; depth = c.in-Some-depth_with.depth } in
    let made : c.args.below ≤ length links = omega (arith, length_stacks [] links, ap length c.self.view_is) in
    let high : c.in-Some.height ≡ height (c.args.kind ∷ stack_in (stacks_over [] links) c.args.below) = c.in-Some.ensures _ c.height.ensures ∙ ap (λ made. height (c.args.kind ∷ stack_in made c.args.below)) (sym c.self.view_is) in
    let deep : c.in-Some-depth_with.depth ≡ depth (c.args.kind ∷ stack_in (stacks_over [] links) c.args.below) = c.in-Some-depth_with.ensures _ c.depth.ensures ∙ ap (λ made. depth (c.args.kind ∷ stack_in made c.args.below)) (sym c.self.view_is) in
    subst (λ links. LeadDown links × AreMeasured links) (sym c.in_ok-push.ensures.items) (one_more_leads_down links l c.self.invariant.0 made, one_more_is_measured links l c.self.invariant.0 c.self.invariant.1 made high deep)

pub returns-clause-ok : goal.returns-clause-ok
returns-clause-ok c = rw (c.in_ok-push.ensures.items, ← c.self.view_is) (one_more [] c.self.inside.links.items (record { kind = c.args.kind; below = c.args.below; height = c.in-Some.height; depth = c.in-Some-depth_with.depth }))
