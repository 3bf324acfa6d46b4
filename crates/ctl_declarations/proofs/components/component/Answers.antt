use Rattle.std.proofs.Common.{◌∙◌, ap, sym, option_map}
use Rattle.ctl_draft.specs.declared.draft.Draft.{Draft}
use Rattle.ctl_typing.specs.Typing.{sense}
use Rattle.ctl_draft.specs.Draft.{by_tables, noted}
use Rattle.ctl_draft.proofs.Drafts.{judges_as}
use Rattle.ctl_declarations.specs.Types as spec
use Rattle.ctl_declarations.proofs.components.component.Goals as goal

pub returns : goal.returns
returns c =
    let within = c.args.within in
    let mark = c.args.mark.now in
    let value = option_map sense c.args.value.now in
    let identifier = c.args.identifier.now in
    let named = c.name_component.new.draft in
    let default = spec.component_default within identifier value in
    let judged = ap (λ (e : Draft). by_tables (spec.component_judged within mark value identifier) e) (sym c.in_ok-name_component.ensures) ∙ ap (noted named) c.in_ok-ty.ensures in
    judges_as (spec.component within mark value identifier) (λ (e : Draft). default (c.in_ok-ty.ty, e)) c.args.draft.now (record named { notes = c.component_judged.new.notes })
    c.component_default.result c.component_default.new.draft (ap default judged) c.component_default.ensures
