use Rattle.std.proofs.Common.{◌∷◌, List, ap, sym, ◌∙◌}
use Rattle.ctl_code.specs.declared.kinds.Kind.{Kind}
use Rattle.ctl_code.specs.Kinds.{stack_in}
use Rattle.ctl_code.specs.Windows.{master_at}
use Rattle.ctl_code.proofs.stacks.Stacks.master_at.Goals as goal

pub returns-in-Body : goal.returns-in-Body
returns-in-Body c =
    let below = stack_in c.args.self.now c.in-Some.link.below in
    let there = c.in-Some.ensures.top ∙ ap (λ (k : Kind). k ∷ below) c.in-Body.is in
    c.master_in.ensures below ∙ sym (ap (λ (s : List Kind). master_at s c.args.level) there) ∙ c.loop-link.invariant

pub returns-in-Default : goal.returns-in-Default
returns-in-Default c =
    let below = stack_in c.args.self.now c.in-Some.link.below in
    let there = c.in-Some.ensures.top ∙ ap (λ (k : Kind). k ∷ below) c.in-Default.is in
    c.master_around.ensures below ∙ sym (ap (λ (s : List Kind). master_at s c.args.level) there) ∙ c.loop-link.invariant
