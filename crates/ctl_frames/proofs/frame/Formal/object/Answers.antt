use Rattle.std.proofs.Common.{ap, sym, ◌∙◌}
use Rattle.ctl_code.specs.States.{Word, object_of}
use Rattle.ctl_frames.proofs.FormalWords.{part_word, value_word}
use Rattle.ctl_frames.proofs.frame.Formal.object.Goals as goal

pub returns-then-self : goal.returns-then-self
returns-then-self c = sym (ap (λ (x : Word). object_of x) (value_word c.args.self.now c.if-self.true))

pub returns-else-self : goal.returns-else-self
returns-else-self c = c.object.ensures ∙ sym (ap (λ (x : Word). object_of x) (part_word c.args.self.now c.if-self.false))
