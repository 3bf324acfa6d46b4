use Rattle.ctl_parse.proofs.Answered.{ending}
use Rattle.ctl_parse.proofs.cursor.Parser.whole.Goals as goal

pub returns : goal.returns
returns c = let e = c.program-program.ensures in (e.0, ending e.1 c.end.ensures)
