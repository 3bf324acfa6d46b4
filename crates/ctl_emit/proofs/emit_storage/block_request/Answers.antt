use Rattle.std.proofs.Common.{[], ◌∷◌}
use Rattle.ctl_program.specs.declared.types.Ty.TheVariants.{Address, Count}
use Rattle.ctl_layout.specs.Values.{value_code}
use Rattle.ctl_emitter.proofs.Emission.{on_ok}
use Rattle.ctl_emitter.proofs.EmittedStorage.{first_value}
use Rattle.ctl_emit.proofs.emit_storage.block_request.Goals as goal

pub returns : goal.returns
returns c = on_ok _ _ c.request.result c.request.ensures (
    first_value (value_code c.args.address.now) Address ((value_code c.args.size.now, Count) ∷ (value_code c.args.alignment.now, Count) ∷ []) c.args.emitter.now c.evaluated.new.self c.request.new.emitter c.in_ok-_address.ensures.held)
