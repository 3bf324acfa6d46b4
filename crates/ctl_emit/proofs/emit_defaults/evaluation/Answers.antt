use Rattle.ctl_layout.specs.Values.{value_code}
use Rattle.ctl_emit.proofs.EmittedDefaults.{evaluation_emitted}
use Rattle.ctl_emit.proofs.emit_defaults.evaluation.Goals as goal

pub returns : goal.returns
returns c = evaluation_emitted c.args.level c.args.number (value_code c.args.default.now) c.args.ty c.in_ok-from.from c.args.emitter.now c.enter.new.self c.held.new.self c.take.new.self c.leave.new.self c.requires c.in_ok-enter.ensures c.in_ok-from.ensures.held c.in_ok-from.ensures.cell c.in_ok-take.ensures c.leave.ensures
