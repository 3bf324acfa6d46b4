use Rattle.std.proofs.Common.{sym, ap}
use Rattle.ctl_program.specs.declared.statement.Master.{out-Master}
use Rattle.ctl_layout.specs.Layout.{MasterCode}
use Rattle.ctl_emit.proofs.EmittedBodies.{body_emitted}
use Rattle.ctl_layout.proofs.StatementLayers.{master_is}
use Rattle.ctl_emit.proofs.emit_statements.body.Goals as goal

pub returns : goal.returns
returns c =
    let s = c.args.subprogram.now in
    body_emitted c.args.number s (out-Master s.body).slots c.args.emitter.now c.enter.new.self c.master.new.emitter c.leave.new.self
    (sym (ap (λ (m : MasterCode). m.slots) (master_is s.body))) c.requires c.in_ok-enter.ensures c.in_ok-master.ensures c.leave.ensures
