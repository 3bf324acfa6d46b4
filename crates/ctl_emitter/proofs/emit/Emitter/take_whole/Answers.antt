use Rattle.std.proofs.Common.{sym, ◌∙◌}
use Rattle.ctl_emitter.proofs.EmittedParts.{none_whole}
use Rattle.ctl_emitter.proofs.emit.Emitter.take_whole.Goals as goal

pub returns-then-not-is_dereferenced : goal.returns-then-not-is_dereferenced
returns-then-not-is_dereferenced c = none_whole c.args.steps.now c.args.self.now (sym c.is_dereferenced.ensures ∙ c.if-not-is_dereferenced.true)
