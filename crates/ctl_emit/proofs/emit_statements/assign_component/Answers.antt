use Rattle.ctl_layout.specs.Values.{begun_by, value_code}
use Rattle.ctl_emitter.proofs.Emission.{on_ok}
use Rattle.ctl_emitter.proofs.EmittedParts.{part_assigned}
use Rattle.ctl_emit.proofs.emit_statements.assign_component.Goals as goal

pub returns : goal.returns
returns c = on_ok _ _ c.store_part.result c.store_part.ensures (
    part_assigned (begun_by c.args.of.now) c.args.steps.now c.args.record c.args.position (value_code c.args.value.now) c.args.emitter.now c.located.new.self c.store_part.new.emitter c.in_ok-located.ensures)
