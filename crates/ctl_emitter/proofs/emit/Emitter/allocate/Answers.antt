use Rattle.ctl_emitter.proofs.Emission.{on_ok}
use Rattle.ctl_emitter.proofs.EmittedValues.{allocator_emitted}
use Rattle.ctl_emitter.proofs.emit.Emitter.allocate.Goals as goal

pub returns : goal.returns
returns c = on_ok _ _ c.over_address.result c.over_address.ensures (
    allocator_emitted c.args.access c.height-at.result c.args.of c.args.ty c.args.self.now c.put.new.self c.over_address.new.self c.height-at.ensures c.in_ok-put.ensures)
