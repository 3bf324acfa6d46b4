use Rattle.ctl_grammar.specs.Nodes.{assignment_of, first, part_2}
use Rattle.ctl_parse.proofs.Keeping.{kept_assignment, kept_part_2}
use Rattle.ctl_parse.proofs.Steps.{being, kept_first, making, then}
use Rattle.ctl_parse.specs.Kept.{kept}
use Rattle.std.proofs.Common.{ap, ◌∙◌}
use Rattle.ctl_parse.proofs.cursor.Parser.named_statement.Goals as goal

pub returns : goal.returns
returns c = being c.assignment.ensures (making (λ v. assignment_of (first v) (part_2 v)) (λ v. kept_assignment (first v) (part_2 v) ∙ ap (λ n. assignment_of n (kept (part_2 v))) (kept_first v) ∙ ap (assignment_of (first (kept v))) (kept_part_2 v)) (then c.name-name.ensures (then c.optional_value-value.ensures c.skip.ensures)))
