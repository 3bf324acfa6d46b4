use Rattle.ctl_parse.proofs.Forms.{foreseeing, head_alike}
use Rattle.std.proofs.Common.{refl}
use Rattle.ctl_parse.proofs.cursor.Parser.foreseen.Goals as goal

pub returns : goal.returns
returns c = foreseeing refl (head_alike c.args.heading) c.start.ensures
