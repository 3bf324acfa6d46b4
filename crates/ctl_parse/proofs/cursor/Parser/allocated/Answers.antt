use Rattle.std.proofs.Common.{ap}
use Rattle.ctl_parse.proofs.Parts.{built}
use Rattle.ctl_parse.proofs.Views.{view_new}
use Rattle.ctl_parse.proofs.cursor.Parser.allocated.Goals as goal

pub returns-in-Some : goal.returns-in-Some
returns-in-Some c =
    let v = c.in-Some.ensures.value in
    rw (v.0, v.1) (built _ _ _ _ c.both_boxed_options.ensures.left (ap (λ r. r.now) c.both_boxed_options.ensures.rest) v.2 (view_new c.args.span c.args.handle c.args.mark c.args.value))
