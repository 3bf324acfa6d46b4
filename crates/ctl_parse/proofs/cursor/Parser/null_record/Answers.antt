use Rattle.ctl_grammar.specs.Form.{none}
use Rattle.ctl_grammar.specs.Grammar.{null_record}
use Rattle.ctl_parse.proofs.Steps.{making, then}
use Rattle.std.proofs.Common.{refl}
use Rattle.ctl_parse.proofs.cursor.Parser.null_record.Goals as goal

pub returns : goal.returns
unfolding null_record
returns c = rw c.new.ensures (making (λ v. none) (λ v. refl) (then c.skip.ensures c.skip-2.ensures))
