use Rattle.std.proofs.Common.{◌≡◌, ◌∙◌, ◌∷◌, refl, sym, ap}
use Rattle.ctl_program.specs.declared.types.Ty.TheVariants.{Integer}
use Rattle.ctl_code.specs.declared.kinds.Kind.{Kind}
use Rattle.ctl_code.specs.declared.kinds.Kind.TheVariants.{Operand}
use Rattle.ctl_code.specs.Kinds.{stack_in}
use Rattle.ctl_code.proofs.Lists.{drop_step}
use Rattle.ctl_code.proofs.Numbered.{number_at, one_number}
use Rattle.ctl_code.proofs.stacks.Stacks.has_numbers.Goals as goal

pub returns-in_default : goal.returns-in_default
returns-in_default c =
    let stack = stack_in c.args.self.now c.args.stack in
    (λ t. absurd (cc t), λ h. absurd (cc (number_at c.args.count c.loop.counter stack c.loop-test.true h, c.loop.invariant.0, c.in_default.ensures.top)))

pub returns-then-not-is_same_kind : goal.returns-then-not-is_same_kind
returns-then-not-is_same_kind c =
    let stack = stack_in c.args.self.now c.args.stack in (
      λ t. absurd (cc t),
      λ h.
          let there = sym c.in-Some.ensures.top ∙ (c.loop.invariant.0 ∙ number_at c.args.count c.loop.counter stack c.loop-test.true h) in
          let same : c.in-Some.kind ≡ Operand Integer = cc there in
          absurd (cc (c.is_same_kind.ensures.1 same, c.if-not-is_same_kind.true)),
    )

pub loop-preserved : goal.loop-preserved
loop-preserved c =
    let stack = stack_in c.args.self.now c.args.stack in
    let below = stack_in c.args.self.now c.in-Some.below in
    let there = sym c.loop.invariant.0 ∙ c.in-Some.ensures.top in
    let is = c.if-not-is_same_kind.ensures.0 refl in
    (sym (drop_step c.loop.counter stack _ _ there), one_number c.loop.counter stack below c.loop.invariant.1 (there ∙ ap (λ (x : Kind). x ∷ below) is))
