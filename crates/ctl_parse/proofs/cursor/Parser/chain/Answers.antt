use Rattle.std.proofs.Common.{ap}
use Rattle.ctl_parse.proofs.Parts.{built}
use Rattle.ctl_parse.proofs.Views.{chained_is}
use Rattle.ctl_parse.proofs.cursor.Parser.chain.Goals as goal

pub returns-in-Some-both_boxed : goal.returns-in-Some-both_boxed
returns-in-Some-both_boxed c =
    let v = c.in-Some-both_boxed.ensures.value in
    rw (c.in-Some.is, v.0, v.1) (built _ _ _ _ c.both_boxed.ensures.left (ap (λ r. r.now) c.both_boxed.ensures.rest) v.2 (chained_is c.span_of-span.result c.args.first c.in-Some.second c.in-Some.others c.span_of-span.ensures))
