use Rattle.std.proofs.Common.{sym, ap, ◌∙◌, [], ◌∷◌, Some, None}
use Rattle.ctl_draft.specs.Draft.{noted}
use Rattle.ctl_draft.specs.declared.draft.Draft.{Draft}
use Rattle.ctl_program.specs.declared.statement.Item.TheVariants.{Silent}
use Rattle.ctl_declarations.specs.Types as spec
use Rattle.ctl_declarations.proofs.Yielded.{yielded, yielded_as}
use Rattle.ctl_declarations.proofs.records.extension.Goals as goal

pub returns-in-Some : goal.returns-in-Some
returns-in-Some c =
    let place = c.args.place in
    let number = c.args.number in
    let declared = c.args.declared.now in
    let around = c.args.around in
    let draft = c.args.draft.now in
    let notes = c.parent_named.new.notes in
    yielded_as (spec.extension place number c.args.mark.now declared around) (λ (d : Draft). spec.extension_of place number declared around (Some c.in-Some.parent, d)) draft (record draft { notes = notes }) c.extend.new.draft c.extend.result
    (ap (λ r. spec.extension_of place number declared around (noted draft r)) (c.in_ok-parent.ensures ∙ ap (λ p. (p, notes)) c.in-Some.is))
    c.extend.ensures

pub returns : goal.returns
returns c =
    let place = c.args.place in
    let number = c.args.number in
    let declared = c.args.declared.now in
    let around = c.args.around in
    let draft = c.args.draft.now in
    let notes = c.parent_named.new.notes in
    yielded (spec.extension place number c.args.mark.now declared around) (Silent ∷ []) draft c.extend_nothing.new.draft c.silent.result
    (ap (λ r. spec.extension_of place number declared around (noted draft r)) (c.in_ok-parent.ensures ∙ ap (λ p. (p, notes)) c.in_default.is)
    ∙ ap (λ (d : Draft). (Silent ∷ [], d)) (sym c.in_ok-extend_nothing.ensures))
    c.silent.ensures
