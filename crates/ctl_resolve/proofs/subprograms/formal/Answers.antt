use Rattle.std.proofs.Common.{◌≡◌, List, sym, ap, ◌∙◌, length}
use Rattle.ctl_syntax.specs.declared.name.Mark.{Mark}
use Rattle.ctl_syntax.specs.declared.item.Formal.{Formal}
use Rattle.ctl_syntax.specs.declared.denoted.Use.{Use}
use Rattle.ctl_syntax.specs.declared.denoted.Definition.{Definition}
use Rattle.ctl_resolve.specs.declared.view.View.{View}
use Rattle.ctl_resolve.specs.declared.view.Usage.TheVariants.{Plain}
use Rattle.ctl_resolve.specs.Naming.{Naming, pure, ◌>>=◌, then_by, changed, cut}
use Rattle.ctl_resolve.specs.Expressions.{mark}
use Rattle.ctl_resolve.specs.Declarations.{hide_each, new_names}
use Rattle.ctl_resolve.proofs.subprograms.formal.Goals as goal

pub returns : goal.returns
returns c =
    let v = c.args.view.now in
    let f = c.args.of.now in
    let named : Mark Use → List Definition → Naming (Formal Definition Use) = λ m ds. pure (record { names = ds; mode = f.mode; mark = m }) in
    let marked : Mark Use × View → Formal Definition Use × View = λ r. then_by (λ m. new_names f.names >>= named m) (changed (cut (length v.table)) r) in
    let hidden : c.hide_each.new.view ≡ hide_each f.names v = c.in_ok-hide_each.ensures ∙ ap (λ ids. hide_each ids v) c.as_slice.ensures in
    let back : c.cut.new.view ≡ cut (length v.table) c.mark.new.view = c.cut.ensures ∙ ap (λ k. cut k c.mark.new.view) c.count-count.ensures in
    ap marked (ap (mark Plain f.mark) (sym hidden) ∙ c.in_ok-mark.ensures)
    ∙ ap (λ w. then_by (named c.in_ok-mark.mark) (new_names f.names w)) (sym back)
    ∙ ap (then_by (named c.in_ok-mark.mark)) (ap (λ ids. new_names ids c.cut.new.view) (sym c.as_slice-2.ensures) ∙ c.in_ok-names.ensures)
