use Rattle.std.proofs.Common.{rules, ◌≡◌, ◌++◌, ◌∙◌, ap, sym}
use Rattle.ctl_draft.specs.declared.draft.Draft.{Draft}
use Rattle.ctl_draft.specs.Draft.{deeds_of, asked}
use Rattle.ctl_draft.specs.Freezing.{done_by}
use Rattle.ctl_declarations.proofs.Yielded.{judged_last}
use Rattle.ctl_declarations.specs.Declarations as spec
use Rattle.ctl_declarations.specs.Types.{is_given}
use Rattle.ctl_declarations.proofs.objects.object_frozen.Goals as goal

pub returns : goal.returns
returns c =
    let around = c.args.around in
    let declared = c.args.declared.now in
    let draft = c.args.draft.now in
    let deeds = c.as_slice.result.now in
    let layers = c.in_ok-layers.layers in
    let behind = spec.object_declared around declared c.args.ty c.args.made in
    let same : spec.object_deeds c.args.ty (is_given declared.value) ++ deeds_of draft ≡ deeds = search rules in
    let done = ap (λ ds. behind (done_by around ds (asked draft))) same ∙ (ap (λ (d : Draft). behind (done_by around deeds d)) (sym c.take_deeds-deeds.ensures.draft) ∙ ap behind c.in_ok-layers.ensures) in
    judged_last (spec.object_frozen around declared c.args.ty c.args.made) draft c.declare_as.new.draft (spec.with_layers c.args.made layers) c.with_layers.result
    (done ∙ ap (λ (d : Draft). (spec.with_layers c.args.made layers, d)) (sym c.in_ok-declare_as.ensures)) c.with_layers.ensures
