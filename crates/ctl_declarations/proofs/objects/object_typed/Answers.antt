use Rattle.std.proofs.Common.{◌≡◌, ◌∙◌, ap}
use Rattle.ctl_draft.specs.declared.draft.Draft.{Draft}
use Rattle.ctl_draft.specs.Draft.{by_tables, noted}
use Rattle.ctl_draft.proofs.Drafts.{judges_as}
use Rattle.ctl_declarations.specs.Declarations as spec
use Rattle.ctl_declarations.proofs.objects.object_typed.Goals as goal

pub returns : goal.returns
returns c =
    let declared = c.args.declared.now in
    let draft = c.args.draft.now in
    let given = spec.object_given c.args.around c.args.order c.args.place declared c.args.name c.args.ty in
    let same : declared.discriminants ≡ c.as_slice-given.result.now = cc in
    let judged = ap (λ as'. given (by_tables (spec.discriminants_given c.args.place c.args.ty as') draft)) same ∙ ap (λ r. given (noted draft r)) c.in_ok-discriminants.ensures in
    judges_as (λ (d : Draft). spec.object_typed c.args.around c.args.order c.args.place declared c.args.name (c.args.ty, d)) (λ (d : Draft). given (c.in_ok-discriminants.discriminants, d)) draft (record draft { notes = c.discriminants_given.new.notes })
    c.object_given.result c.object_given.new.draft judged c.object_given.ensures
