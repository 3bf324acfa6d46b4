use Rattle.ctl_grammar.specs.Form.{at, pair, tag}
use Rattle.ctl_grammar.specs.Grammar.{named_item}
use Rattle.ctl_grammar.specs.Label as labels
use Rattle.ctl_grammar.specs.Nodes.{first, part_3, second}
use Rattle.ctl_parse.proofs.Keeping.{kept_first_first, kept_part_3, kept_second_first, paired}
use Rattle.ctl_parse.proofs.PartViews.{view_of_item}
use Rattle.ctl_parse.proofs.Steps.{being, making, then}
use Rattle.std.proofs.Common.{ap, ◌∙◌}
use Rattle.ctl_parse.proofs.cursor.Parser.named_item.Goals as goal

pub returns : goal.returns
unfolding named_item
returns c = being (view_of_item _ _ ∙ ap (λ k. pair (at c.identifiers-names.result.0) k) c.named_kind_of-kind.ensures) (making (λ v. pair (first (first v)) (tag labels.NamedItem (pair (second (first v)) (part_3 v)))) (λ v. paired (kept_first_first v) (ap (tag labels.NamedItem) (paired (kept_second_first v) (kept_part_3 v)))) (then c.identifiers-names.ensures (then c.skip.ensures (then c.named_kind-objects.ensures c.skip-2.ensures))))
