use Rattle.ctl_layout.specs.Values.{begun_by}
use Rattle.ctl_emitter.proofs.Emission.{on_ok}
use Rattle.ctl_emitter.proofs.EmittedParts.{component_taken}
use Rattle.ctl_emitter.proofs.emit.Emitter.taken.Goals as goal

pub returns : goal.returns
returns c = on_ok _ _ c.over_operand.result c.over_operand.ensures (
    let a = c.args in
    component_taken (begun_by a.of.now) a.steps.now a.record a.position a.ty a.to a.self.now c.behind_start.new.self c.over_operand.new.self c.in_ok-behind_start.ensures)
