use Rattle.ctl_grammar.specs.Form.{at, pair, tag}
use Rattle.ctl_grammar.specs.Grammar.{type_item}
use Rattle.ctl_grammar.specs.Label as labels
use Rattle.ctl_grammar.specs.Nodes.{first, part_2, part_3}
use Rattle.ctl_parse.proofs.Keeping.{kept_part_2, kept_part_3, paired}
use Rattle.ctl_parse.proofs.PartViews.{view_of_item}
use Rattle.ctl_parse.proofs.Steps.{being, kept_first, making, then}
use Rattle.std.proofs.Common.{ap, ◌∙◌}
use Rattle.ctl_parse.proofs.cursor.Parser.type_item.Goals as goal

pub returns : goal.returns
unfolding type_item
returns c = being (view_of_item _ _ ∙ ap (λ k. pair (at c.mark-span.result) k) c.type_kind_of-kind.ensures) (making (λ v. pair (first v) (tag labels.TypeItem (pair (part_2 v) (part_3 v)))) (λ v. paired (kept_first v) (ap (tag labels.TypeItem) (paired (kept_part_2 v) (kept_part_3 v)))) (then c.mark-span.ensures (then c.identifier-name.ensures (then c.type_kind-defined.ensures c.skip.ensures))))
