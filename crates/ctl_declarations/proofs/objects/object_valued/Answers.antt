use Rattle.std.proofs.Common.{◌∙◌, ap, sym}
use Rattle.ctl_draft.specs.declared.draft.Draft.{Draft}
use Rattle.ctl_draft.proofs.Drafts.{judges_as}
use Rattle.ctl_declarations.specs.Declarations as spec
use Rattle.ctl_declarations.proofs.objects.object_valued.Goals as goal

pub returns : goal.returns
returns c =
    let frozen = spec.object_frozen c.args.around c.args.declared.now c.args.ty c.args.made in
    let kept = ap (λ (d : Draft). frozen (spec.wait_as c.args.order c.args.name c.args.ty d)) (sym c.value_kept.ensures) ∙ ap frozen (sym c.in_ok-wait_as.ensures) in
    judges_as (spec.object_kept c.args.around c.args.order c.args.place c.args.declared.now c.args.name c.args.ty c.args.made) frozen c.args.draft.now c.wait_as.new.draft
    c.object_frozen.result c.object_frozen.new.draft kept c.object_frozen.ensures
