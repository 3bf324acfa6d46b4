use Rattle.std.proofs.Common.{ap, sym, ◌∙◌}
use Rattle.ctl_layout.specs.Parts.{first_code}
use Rattle.ctl_layout.specs.Values.{begun_by, value_code}
use Rattle.ctl_layout.proofs.Layers.{begun_given}
use Rattle.ctl_emitter.specs.Emitted.{lined}
use Rattle.ctl_emitter.proofs.EmittedParts.{value_first}
use Rattle.ctl_emitter.proofs.emit.Emitter.find_first.Goals as goal

pub returns-in-Given : goal.returns-in-Given
returns-in-Given c =
    let e = c.args.self.now in
    let i = c.in-Given in
    let steps = c.args.steps.now in
    let t = c.args.record in
    value_first (value_code i.field-0) steps t e ∙ ap (λ b. lined (first_code b steps t) e) (sym (ap begun_by i.is ∙ begun_given i.field-0 i.field-1))
