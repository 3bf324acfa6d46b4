use Rattle.ctl_grammar.specs.Form.{none}
use Rattle.ctl_grammar.specs.Grammar.{end_loop}
use Rattle.ctl_parse.proofs.Steps.{making, then}
use Rattle.std.proofs.Common.{refl}
use Rattle.ctl_parse.proofs.cursor.Parser.end_loop.Goals as goal

pub returns : goal.returns
unfolding end_loop
returns c = making (λ v. none) (λ v. refl) (then c.skip.ensures (then c.skip-2.ensures c.skip-3.ensures))
