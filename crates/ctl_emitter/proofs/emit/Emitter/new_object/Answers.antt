use Rattle.ctl_emitter.proofs.Emission.{on_ok}
use Rattle.ctl_emitter.proofs.EmittedValues.{new_emitted}
use Rattle.ctl_emitter.proofs.emit.Emitter.new_object.Goals as goal

pub returns : goal.returns
returns c = on_ok _ _ c.moved_to.result c.moved_to.ensures (
    new_emitted c.args.access c.args.of c.args.to c.args.ty c.args.self.now c.put.new.self c.allocate.new.self c.moved_to.new.self c.in_ok-put.ensures c.in_ok-allocate.ensures)
