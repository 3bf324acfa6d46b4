use Rattle.std.proofs.Common.{refl}
use Rattle.ctl_grammar.specs.Grammar.{null}
use Rattle.ctl_grammar.specs.Nodes.{null_of}
use Rattle.ctl_parse.proofs.Steps.{making, being}
use Rattle.ctl_parse.proofs.Views.{view_null}
use Rattle.ctl_parse.proofs.cursor.Parser.null.Goals as goal

pub returns : goal.returns
unfolding null
returns c = being (view_null c.mark-span.result) (making null_of (λ v. refl) c.mark-span.ensures)
