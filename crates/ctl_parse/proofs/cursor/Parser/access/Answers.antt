use Rattle.ctl_grammar.specs.Form.{none, pair, tag}
use Rattle.ctl_grammar.specs.Grammar.{access}
use Rattle.ctl_grammar.specs.Label as labels
use Rattle.ctl_grammar.specs.Nodes.{second}
use Rattle.ctl_parse.proofs.PartViews.{aspect_kept}
use Rattle.ctl_parse.proofs.Steps.{being, keeping, kept_second, then}
use Rattle.ctl_parse.specs.Kept.{access_part}
use Rattle.ctl_parse.specs.Parts.{generality_node}
use Rattle.ctl_parse.specs.View.{mark_node}
use Rattle.std.proofs.Common.{ap, sym}
use Rattle.ctl_parse.proofs.cursor.Parser.access.Goals as goal

pub returns : goal.returns
unfolding access
returns c = let pool = c.aspect-pool.ensures in being (ap (λ n. tag labels.AccessType (pair (generality_node c.generality-generality.result) (pair (mark_node c.dotted-designated.result) (pair none n)))) (sym (aspect_kept pool.0 c.aspect-pool.result))) (keeping (λ v. tag labels.AccessType (second v)) (λ v. tag labels.AccessType (access_part (second v))) (λ v. ap (λ n. tag labels.AccessType (access_part n)) (kept_second v)) (then c.skip.ensures (then c.generality-generality.ensures (then c.dotted-designated.ensures (then c.designated_attribute.ensures pool.1)))))
