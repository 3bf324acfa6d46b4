use Rattle.std.proofs.Common.{ap, sym, ◌∙◌}
use Rattle.ctl_code.specs.States.{Word, worth}
use Rattle.ctl_frames.proofs.FormalWords.{part_word, value_word}
use Rattle.ctl_frames.proofs.frame.Formal.cell.Goals as goal

pub returns-then-self : goal.returns-then-self
returns-then-self c = sym (ap (λ (x : Word). worth x) (value_word c.args.self.now c.if-self.true))

pub returns-else-self : goal.returns-else-self
returns-else-self c = c.object.ensures ∙ sym (ap (λ (x : Word). worth x) (part_word c.args.self.now c.if-self.false))
