use Rattle.ctl_grammar.specs.Form.{none, pair}
use Rattle.ctl_grammar.specs.Grammar.{procedure}
use Rattle.ctl_grammar.specs.Nodes.{behind_2, first, part_2}
use Rattle.ctl_parse.proofs.Keeping.{kept_behind_2, kept_part_2, paired}
use Rattle.ctl_parse.proofs.Steps.{kept_first, making, then}
use Rattle.std.proofs.Common.{refl}
use Rattle.ctl_parse.proofs.cursor.Parser.procedure.Goals as goal

pub returns : goal.returns
unfolding procedure
returns c = making (λ v. pair (first v) (pair (part_2 v) (pair (behind_2 v) none))) (λ v. paired (kept_first v) (paired (kept_part_2 v) (paired (kept_behind_2 v) refl))) (then c.mark-span.ensures (then c.identifier-name.ensures c.optional_formals-formals.ensures))
