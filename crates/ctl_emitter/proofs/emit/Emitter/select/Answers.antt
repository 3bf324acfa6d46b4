use Rattle.ctl_layout.specs.Values.{begun_by}
use Rattle.ctl_emitter.proofs.Emission.{on_ok}
use Rattle.ctl_emitter.proofs.EmittedParts.{part_selected}
use Rattle.ctl_emitter.proofs.emit.Emitter.select.Goals as goal

pub returns : goal.returns
returns c = on_ok _ _ c.over_operand.result c.over_operand.ensures (
    let a = c.args in
    part_selected (begun_by a.of.now) a.steps.now a.whole a.position a.record a.self.now c.behind_start.new.self c.over_operand.new.self c.in_ok-behind_start.ensures)
