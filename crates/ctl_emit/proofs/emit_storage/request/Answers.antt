use Rattle.ctl_program.specs.declared.types.Ty.TheVariants.{Count}
use Rattle.ctl_layout.specs.Values.{value_code}
use Rattle.ctl_emitter.proofs.EmittedStorage.{two_values}
use Rattle.ctl_emit.proofs.emit_storage.request.Goals as goal

pub returns : goal.returns
returns c = two_values (value_code c.args.size.now) (value_code c.args.alignment.now) Count Count c.args.emitter.now c.evaluated.new.self c.evaluated-2.new.self c.in_ok-_size.ensures.held c.in_ok-_alignment.ensures.held
