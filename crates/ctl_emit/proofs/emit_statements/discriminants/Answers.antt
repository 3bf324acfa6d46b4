use Rattle.ctl_layout.specs.Values.{value_code}
use Rattle.ctl_emit.proofs.EmittedStatements.{discriminants_emitted}
use Rattle.ctl_emit.proofs.emit_statements.discriminants.Goals as goal

pub returns : goal.returns
returns c = discriminants_emitted (value_code c.args.first.now) (value_code c.args.second.now) c.args.emitter.now c.evaluated.new.self c.evaluated-2.new.self c.in_ok-_first.ensures.held c.in_ok-_second.ensures.held
