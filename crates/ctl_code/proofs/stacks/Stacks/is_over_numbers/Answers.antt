use Rattle.std.proofs.Common.{◌∙◌, refl, sym, ap, subst}
use Rattle.std.specs.Prelude.{drop}
use Rattle.ctl_code.specs.Kinds.{stack_in, with_top}
use Rattle.ctl_code.specs.Valid.{HaveNumbers}
use Rattle.ctl_code.proofs.Numbered.{below_over, have_over, over_below}
use Rattle.ctl_code.proofs.stacks.Stacks.is_over_numbers.Goals as goal

pub returns-then-has_numbers : goal.returns-then-has_numbers
returns-then-has_numbers c =
    let stack = stack_in c.args.self.now c.args.stack in
    let below = with_top c.args.kind (stack_in c.args.self.now c.args.below) in (
      λ t. over_below c.args.count stack below (c.if-has_numbers.ensures.0 refl) (sym c.without.ensures.left ∙ c.is_with_top.ensures.0 t),
      λ e. c.is_with_top.ensures.1 (c.without.ensures.left ∙ ap (drop c.args.count) e ∙ below_over c.args.count below),
    )

pub returns-else-has_numbers : goal.returns-else-has_numbers
returns-else-has_numbers c =
    let below = with_top c.args.kind (stack_in c.args.self.now c.args.below) in
    (λ t. cc (t, c.if-has_numbers.false), λ e. c.has_numbers.ensures.1 (subst (HaveNumbers c.args.count) (sym e) (have_over c.args.count below)))
