use Rattle.ctl_grammar.specs.Form.{none}
use Rattle.ctl_grammar.specs.Grammar.{start_of_function}
use Rattle.ctl_parse.proofs.Steps.{making, then}
use Rattle.std.proofs.Common.{refl}
use Rattle.ctl_parse.proofs.cursor.Parser.start_of_function.Goals as goal

pub returns : goal.returns
unfolding start_of_function
returns c = making (λ v. none) (λ v. refl) (then c.skip.ensures (then c.identifier.ensures (then c.plain_formals.ensures (then c.skip-2.ensures c.dotted.ensures))))
