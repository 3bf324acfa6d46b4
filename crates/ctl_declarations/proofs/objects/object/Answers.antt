use Rattle.std.proofs.Common.{◌∙◌, ap, sym}
use Rattle.ctl_declarations.specs.Declarations as spec
use Rattle.ctl_draft.specs.Draft.{by_tables, noted}
use Rattle.ctl_draft.proofs.Drafts.{judges_as}
use Rattle.ctl_declarations.proofs.objects.object.Goals as goal

pub returns : goal.returns
returns c =
    let typed = spec.object_typed c.args.around c.args.order c.args.place c.args.declared.now c.args.name.now.identifier.span in
    let asked = c.ask.new.self in
    let judged = ap (λ e. by_tables (spec.object_type c.args.place c.args.declared.now) e) (sym c.ask.ensures) ∙ ap (noted asked) c.in_ok-ty.ensures in
    judges_as (spec.object c.args.around c.args.order c.args.place c.args.declared.now c.args.name.now) (λ e. typed (c.in_ok-ty.ty, e)) c.args.draft.now (record asked { notes = c.object_type.new.notes })
    c.object_typed.result c.object_typed.new.draft (ap typed judged) c.object_typed.ensures
