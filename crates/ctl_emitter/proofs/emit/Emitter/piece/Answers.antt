use Rattle.std.proofs.Common.{◌∷◌, [], ap, sym, ◌∙◌}
use Rattle.ctl_emitter.specs.Emitted.{imaged}
use Rattle.ctl_emitter.proofs.EmittedTexts.{literal_emitted}
use Rattle.ctl_emitter.proofs.emit.Emitter.piece.Goals as goal

pub returns-in-Text : goal.returns-in-Text
returns-in-Text c = literal_emitted c.in-Text.field-0 c.args.self.now ∙ ap (λ p. imaged (p ∷ []) c.args.self.now) (sym c.in-Text.is)
