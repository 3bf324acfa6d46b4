use Rattle.std.proofs.Common.{List, Option, sym, ap, ◌∙◌}
use Rattle.ctl_syntax.specs.declared.name.Mark.{Mark}
use Rattle.ctl_syntax.specs.declared.expression.Expression.{Expression}
use Rattle.ctl_syntax.specs.declared.item.Association.{Association}
use Rattle.ctl_syntax.specs.declared.denoted.Use.{Use}
use Rattle.ctl_resolve.specs.Naming.{Naming, pure, ◌>>=◌, then_by, optional}
use Rattle.ctl_resolve.specs.Expressions.{expression}
use Rattle.ctl_resolve.specs.Declarations.{associations}
use Rattle.ctl_resolve.proofs.objects.object_of.Goals as goal

abbrev Front : Type 0
Front = Mark Use × List (Association Use)

abbrev Within : Type 0
Within = Mark Use × List (Association Use) × Option (Expression Use)

pub returns : goal.returns
returns c =
    let o = c.args.of.now in
    let v1 = c.mark.new.view in
    let v2 = c.associations.new.view in
    let parts : Front = c.in_ok-parts-2.parts in
    let front = c.in_ok-parts.ensures (associations c.as_slice.result.now) v1 v2 c.associations.ensures in
    let last = c.in_ok-parts-2.ensures (optional expression o.value) v2 c.expression_or_none.new.view c.expression_or_none.ensures in
    let third : Option (Expression Use) → Naming Within = λ x. pure (parts.0, parts.1, x) in
    let second : List (Association Use) → Naming Within = λ ds. optional expression o.value >>= (λ x. pure (parts.0, ds, x)) in
    let first : Mark Use → Naming Within = λ m. associations o.discriminants >>= (λ ds. optional expression o.value >>= (λ x. pure (m, ds, x))) in
    ap (then_by first) (c.in_ok-mark.ensures ∙ ap (λ (m : Mark Use). (m, v1)) (sym (ap (λ (a : Front). a.0) last.0 ∙ front.0)))
    ∙ ap (then_by second) (ap (λ ys. associations ys v1) (sym c.as_slice.ensures) ∙ front.1 ∙ ap (λ (a : Front). (a.1, v2)) (sym last.0))
    ∙ ap (then_by third) last.1
