use Rattle.std.proofs.Common.{◌≡◌, sym, ap, ◌∙◌, length}
use Rattle.ctl_resolve.specs.Naming.{changed, cut}
use Rattle.ctl_resolve.specs.Declarations.{hide_each, object_of}
use Rattle.ctl_resolve.proofs.objects.hidden_object_of.Goals as goal

pub returns : goal.returns
returns c =
    let v = c.args.view.now in
    let o = c.args.of.now in
    let hidden : c.hide_each.new.view ≡ hide_each o.names v = c.in_ok-hide_each.ensures ∙ ap (λ ids. hide_each ids v) c.as_slice.ensures in
    let back : c.cut.new.view ≡ cut (length v.table) c.object_of.new.view = c.cut.ensures ∙ ap (λ k. cut k c.object_of.new.view) c.count-count.ensures in
    ap (changed (cut (length v.table))) (ap (object_of o) (sym hidden) ∙ c.in_ok-resolved.ensures)
    ∙ ap (λ w. (c.in_ok-resolved.resolved, w)) (sym back)
