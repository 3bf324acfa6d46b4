use Rattle.std.proofs.Common.{◌≡◌, ap, sym, ◌∙◌}
use Rattle.ctl_layout.specs.Parts.{OfVariable, rest_component, rest_taken}
use Rattle.ctl_layout.specs.Values.{begun_by, given, value_code}
use Rattle.ctl_layout.proofs.Layers.{begun_given, begun_variable}
use Rattle.ctl_emitter.specs.Emitted.{lined}
use Rattle.ctl_emitter.proofs.Emission.{on_ok}
use Rattle.ctl_emitter.proofs.EmittedParts.{component_behind, component_fetched, value_component}
use Rattle.ctl_emitter.proofs.emit.Emitter.component.Goals as goal

pub returns-in-empty : goal.returns-in-empty
returns-in-empty c = on_ok _ _ c.put.result c.put.ensures (λ e.
    let a = c.args in
    let i = c.in-Variable in
    let same : begun_by a.of.now ≡ OfVariable i.variable = ap begun_by i.is ∙ begun_variable i.variable i.field-1 in
    component_fetched i.variable a.steps.now a.record a.position a.ty a.to a.self.now c.put.new.self c.in-empty.len_below e
    ∙ ap (λ b. lined (rest_component b a.steps.now a.record a.position a.ty a.to) a.self.now) (sym same))

pub returns-in_default : goal.returns-in_default
returns-in_default c = on_ok _ _ c.taken.result c.taken.ensures (λ e.
    let a = c.args in
    let i = c.in-Variable in
    let same : begun_by a.of.now ≡ OfVariable i.variable = ap begun_by i.is ∙ begun_variable i.variable i.field-1 in
    component_behind i.variable a.steps.now a.record a.position a.ty a.to a.self.now c.taken.new.self c.in_default.len_at_least
    (e ∙ ap (λ b. lined (rest_taken b a.steps.now a.record a.position a.ty a.to) a.self.now) same)
    ∙ ap (λ b. lined (rest_component b a.steps.now a.record a.position a.ty a.to) a.self.now) (sym same))

pub returns-in-Given : goal.returns-in-Given
returns-in-Given c = on_ok _ _ c.taken-in-Given.result c.taken-in-Given.ensures (λ e.
    let a = c.args in
    let i = c.in-Given in
    let same : begun_by a.of.now ≡ given (value_code i.field-0) = ap begun_by i.is ∙ begun_given i.field-0 i.field-1 in
    e ∙ ap (λ b. lined (rest_taken b a.steps.now a.record a.position a.ty a.to) a.self.now) same
    ∙ value_component (value_code i.field-0) a.steps.now a.record a.position a.ty a.to a.self.now
    ∙ ap (λ b. lined (rest_component b a.steps.now a.record a.position a.ty a.to) a.self.now) (sym same))
