use Rattle.ctl_grammar.specs.Form.{none}
use Rattle.ctl_grammar.specs.Grammar.{start_of_procedure_body}
use Rattle.ctl_parse.proofs.Steps.{making, then}
use Rattle.std.proofs.Common.{refl}
use Rattle.ctl_parse.proofs.cursor.Parser.start_of_procedure_body.Goals as goal

pub returns : goal.returns
unfolding start_of_procedure_body
returns c = making (λ v. none) (λ v. refl) (then c.skip.ensures (then c.identifier.ensures c.behind_start.ensures))
