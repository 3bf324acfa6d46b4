use Rattle.ctl_layout.specs.Values.{value_code}
use Rattle.ctl_emit.proofs.EmittedLoops.{bounds_emitted}
use Rattle.ctl_emit.proofs.emit_statements.bounds.Goals as goal

pub returns : goal.returns
returns c = bounds_emitted (value_code c.args.low.now) (value_code c.args.high.now) c.args.emitter.now c.evaluated.new.self c.evaluated-2.new.self c.in_ok-_low.ensures.held c.in_ok-_high.ensures.held
