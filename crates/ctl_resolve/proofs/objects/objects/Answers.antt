use Rattle.std.proofs.Common.{List, Option, sym, ap, ◌∙◌}
use Rattle.ctl_syntax.specs.declared.name.Mark.{Mark}
use Rattle.ctl_syntax.specs.declared.expression.Expression.{Expression}
use Rattle.ctl_syntax.specs.declared.item.Association.{Association}
use Rattle.ctl_syntax.specs.declared.item.Objects.{Objects}
use Rattle.ctl_syntax.specs.declared.denoted.Use.{Use}
use Rattle.ctl_syntax.specs.declared.denoted.Definition.{Definition}
use Rattle.ctl_resolve.specs.Naming.{Naming, pure, ◌>>=◌, then_by}
use Rattle.ctl_resolve.specs.Declarations.{new_names}
use Rattle.ctl_resolve.proofs.objects.objects.Goals as goal

abbrev Within : Type 0
Within = Mark Use × List (Association Use) × Option (Expression Use)

pub returns : goal.returns
returns c =
    let o = c.args.of.now in
    let v1 = c.hidden_object_of.new.view in
    let inside : Within = c.in_ok-parts-2.parts in
    let both = c.in_ok-parts-2.ensures (new_names c.as_slice.result.now) v1 c.new_names.new.view c.new_names.ensures in
    let named : Within → List Definition → Naming (Objects Definition Use) = λ x ds. pure (record { names = ds; aliasing = o.aliasing; constancy = o.constancy; mark = x.0; discriminants = x.1; value = x.2 }) in
    ap (then_by (λ x. new_names o.names >>= named x)) (c.in_ok-parts.ensures ∙ ap (λ (x : Within). (x, v1)) (sym both.0))
    ∙ ap (then_by (named inside)) (ap (λ ids. new_names ids v1) (sym c.as_slice.ensures) ∙ both.1)
