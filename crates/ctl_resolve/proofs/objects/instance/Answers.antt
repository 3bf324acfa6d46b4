use Rattle.std.proofs.Common.{◌≡◌, List, [], ◌∷◌, sym, ap, ◌∙◌, length}
use Rattle.ctl_syntax.specs.declared.name.Mark.{Mark}
use Rattle.ctl_syntax.specs.declared.item.Association.{Association}
use Rattle.ctl_syntax.specs.declared.item.Body.{Body}
use Rattle.ctl_syntax.specs.declared.item.ItemKind.{ItemKind}
use Rattle.ctl_syntax.specs.declared.item.ItemKind.TheVariants as item
use Rattle.ctl_syntax.specs.declared.denoted.Use.{Use}
use Rattle.ctl_syntax.specs.declared.denoted.Definition.{Definition}
use Rattle.ctl_resolve.specs.declared.view.Stage.TheVariants.{Complete}
use Rattle.ctl_resolve.specs.Naming.{Naming, pure, ◌>>=◌, then_by, changed, cut}
use Rattle.ctl_resolve.specs.Declarations.{hide_each, instance_of, new_name}
use Rattle.ctl_resolve.proofs.objects.instance.Goals as goal

abbrev Front : Type 0
Front = Mark Use × List (Association Use)

pub returns : goal.returns
returns c =
    let v = c.args.view.now in
    let id = c.args.id.now in
    let w = c.instance_of.new.view in
    let parts : Front = c.in_ok-parts-2.parts in
    let both = c.in_ok-parts-2.ensures (new_name Complete id) c.cut.new.view c.new_name.new.view c.new_name.ensures in
    let hidden : c.hide.new.view ≡ hide_each (id ∷ []) v = c.in_ok-hide.ensures in
    let back : c.cut.new.view ≡ cut (length v.table) w = c.cut.ensures ∙ ap (λ k. cut k w) c.count-count.ensures in
    let made : Front → Definition → Naming (ItemKind Definition Use (Body Definition Use)) = λ x d. pure (item.Instance d x.0 x.1) in
    ap (λ r. then_by (λ x. new_name Complete id >>= made x) (changed (cut (length v.table)) r)) (ap (instance_of c.args.unit.now c.args.actuals.now) (sym hidden) ∙ c.in_ok-parts.ensures ∙ ap (λ (x : Front). (x, w)) (sym both.0))
    ∙ ap (λ u. then_by (made parts) (new_name Complete id u)) (sym back)
    ∙ ap (then_by (made parts)) both.1
