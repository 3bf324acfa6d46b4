use Rattle.ctl_layout.specs.Values.{begun_by}
use Rattle.ctl_emitter.proofs.Emission.{on_ok}
use Rattle.ctl_emitter.proofs.EmittedParts.{start_behind}
use Rattle.ctl_emitter.proofs.emit.Emitter.behind_start.Goals as goal

pub returns : goal.returns
returns c = on_ok _ _ c.selects.result c.selects.ensures (
    start_behind (begun_by c.args.of.now) c.args.steps.now c.args.record c.args.self.now c.find_first.new.self c.selects.new.self c.in_ok-find_first.ensures)
