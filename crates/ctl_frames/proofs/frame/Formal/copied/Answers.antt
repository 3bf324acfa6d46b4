use Rattle.ctl_frames.proofs.FormalWords.{part_copied, value_copied}
use Rattle.ctl_frames.proofs.frame.Formal.copied.Goals as goal

pub returns-then-self : goal.returns-then-self
returns-then-self c = value_copied c.args.self.now c.copied_value.result c.if-self.true c.copied_value.ensures

pub returns-else-self : goal.returns-else-self
returns-else-self c = part_copied c.args.self.now c.copied.result c.if-self.false c.copied.ensures
