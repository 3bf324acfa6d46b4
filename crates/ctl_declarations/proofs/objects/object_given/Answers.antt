use Rattle.std.proofs.Common.{◌∙◌, ap, sym, ℕ}
use Rattle.ctl_draft.specs.declared.draft.Draft.{Draft}
use Rattle.ctl_draft.specs.Draft.{noted}
use Rattle.ctl_draft.proofs.Drafts.{judges_as}
use Rattle.ctl_declarations.specs.Declarations as spec
use Rattle.ctl_declarations.proofs.objects.object_given.Goals as goal

pub returns : goal.returns
returns c =
    let declared = c.args.declared.now in
    let discriminants = c.args.discriminants in
    let draft = c.args.draft.now in
    let judged : Draft = record draft { notes = c.value_of.new.notes } in
    let valued = spec.object_valued c.args.around c.args.order c.args.place declared c.args.name c.args.ty discriminants in
    let kept = spec.object_kept c.args.around c.args.order c.args.place declared c.args.name c.args.ty in
    let made = ap (λ (n : ℕ). spec.object_made draft.tables n c.args.ty discriminants c.in_ok-value.value) (sym c.len-slot.ensures) ∙ sym c.in_ok-made.ensures in
    judges_as (λ (d : Draft). spec.object_given c.args.around c.args.order c.args.place declared c.args.name c.args.ty (discriminants, d)) (kept c.in_ok-made.made) draft judged
    c.object_valued.result c.object_valued.new.draft (ap (λ r. valued (noted draft r)) c.in_ok-value.ensures ∙ ap (λ m. kept m judged) made) c.object_valued.ensures
