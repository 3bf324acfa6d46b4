use Rattle.std.proofs.Common.{◌≡◌, ◌+◌, [], ◌∷◌, ◌++◌, ◌∙◌, List, length, length-append, ap, arith, map, sym}
use Rattle.ctl_code.specs.declared.kinds.Kind.{Kind}
use Rattle.ctl_code.specs.Kinds.{stack_in, stacks_in}
use Rattle.ctl_code.specs.Windows.{height}
use Rattle.ctl_code.proofs.Links.{stack_newest, stacks_left}
use Rattle.ctl_code.proofs.kinds.KindNotes.enter.Goals as goal

pub returns : goal.returns
returns c =
    let stacks = c.self.inside.stacks in
    let standing = c.self.inside.standing in
    let made = c.args.kind ∷ stack_in stacks standing in
    let longer : c.push.new.self ≡ stacks ++ made ∷ [] = c.in_ok-push.ensures.ok in
    let count : length c.push.new.self ≡ length stacks + 1 = ap length longer ∙ length-append stacks (made ∷ []) in
    let old : stacks_in (stacks ++ made ∷ []) c.self.inside.before.items ≡ stacks_in stacks c.self.inside.before.items = stacks_left stacks (made ∷ []) c.self.inside.before.items c.self.invariant.0 in
    let new : stack_in (stacks ++ made ∷ []) c.newest-self-inside.result ≡ made = stack_newest stacks made c.newest-self-inside.result (omega (arith, c.newest-self-inside.ensures)) in
    rw (longer, ← c.self.view_is) (cc)

pub invariant_of-self-2 : goal.invariant_of-self-2
invariant_of-self-2 c =
    let stacks = c.self.inside.stacks in
    let made = c.args.kind ∷ stack_in stacks c.self.inside.standing in
    let longer : c.push.new.self ≡ stacks ++ made ∷ [] = c.in_ok-push.ensures.ok in
    let count : length c.push.new.self ≡ length stacks + 1 = ap length longer ∙ length-append stacks (made ∷ []) in
    let old : stacks_in c.push.new.self c.self.inside.before.items ≡ stacks_in stacks c.self.inside.before.items = ap (λ s. stacks_in s c.self.inside.before.items) longer ∙ stacks_left stacks (made ∷ []) c.self.inside.before.items c.self.invariant.0 in (
      (λ k d lt. let small = c.self.invariant.0 k d lt in omega (arith, small, count)),
      omega (arith, c.newest-self-inside.ensures),
      c.self.invariant.2 ∙ ap (λ (s : List (List Kind)). map height s) (sym old),
    )
