use Rattle.ctl_grammar.specs.Form.{Body, at, nest, pair}
use Rattle.ctl_grammar.specs.Grammar.{program}
use Rattle.ctl_grammar.specs.Nodes.{first, part_2, second}
use Rattle.ctl_grammar.specs.Reading.{read}
use Rattle.ctl_parse.proofs.Forms.{inside}
use Rattle.ctl_parse.proofs.Keeping.{kept_name_letters, kept_whole}
use Rattle.ctl_parse.proofs.Steps.{making, then}
use Rattle.ctl_parse.specs.View.{identifier_node}
use Rattle.std.proofs.Common.{ap, refl}
use Rattle.ctl_parse.proofs.cursor.Parser.program.Goals as goal

pub returns : goal.returns
unfolding program
returns c = let e = c.body-body.ensures in (e.0, making (λ v. pair (first v) (pair (first (first (part_2 v))) (pair (second (first (part_2 v))) (second (part_2 v))))) kept_whole (then c.contexts-contexts.ensures (then (inside (λ v. first (second v)) (λ v h left ts. ap (λ n. read left (nest Body) n ts) (kept_name_letters v (pair (at c.mark-span.result) (identifier_node c.identifier-name.result)) c.identifier-name.result.text h refl)) (then c.mark-span.ensures c.identifier-name.ensures) e.1) c.skip.ensures)))
