use Rattle.std.proofs.Common.{◌≡◌, ◌∙◌, ap, sym, Some}
use Rattle.ctl_draft.specs.declared.draft.Draft.{Draft}
use Rattle.ctl_draft.specs.Draft.{by_tables, noted}
use Rattle.ctl_draft.proofs.Drafts.{judges_as}
use Rattle.ctl_declarations.specs.Declarations as spec
use Rattle.ctl_declarations.proofs.instances.instance.Goals as goal

pub returns-in-Some : goal.returns-in-Some
returns-in-Some c =
    let place = c.args.place in
    let mark = c.args.mark.now in
    let associations = c.args.associations.now in
    let around = c.args.around in
    let kept = c.keep_name.new.draft in
    let notes = c.instance_of.new.notes in
    let is : c.in_ok-judged.judged ≡ Some (c.in-Some.access, c.in-Some.ty) = cc in
    let judged = ap (λ (e : Draft). by_tables (spec.instance_of place mark associations) e) (sym c.keep_name.ensures) ∙ ap (noted kept) (c.in_ok-judged.ensures ∙ ap (λ p. (p, notes)) is) in
    judges_as (spec.instance place c.args.name.now mark associations around) (spec.instance_frozen around c.in-Some.access c.in-Some.ty) c.args.draft.now (record kept { notes = notes })
    c.instance_known.result c.instance_known.new.draft (ap (spec.instance_known around) judged) c.instance_known.ensures
