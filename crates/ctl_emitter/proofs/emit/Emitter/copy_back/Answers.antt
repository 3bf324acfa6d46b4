use Rattle.std.proofs.Common.{sym, ◌∙◌}
use Rattle.ctl_layout.specs.Values.{actual_code}
use Rattle.ctl_emitter.proofs.EmittedCalls.{nothing_back}
use Rattle.ctl_emitter.proofs.emit.Emitter.copy_back.Goals as goal

pub returns-in-None : goal.returns-in-None
returns-in-None c = nothing_back (actual_code c.args.actual.now).back c.args.depth c.args.at c.args.below c.args.self.now (sym c.back_of.ensures ∙ c.in-None.is)
