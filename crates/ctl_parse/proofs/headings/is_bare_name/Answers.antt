use Rattle.ctl_grammar.specs.Nodes.{is_bare}
use Rattle.ctl_parse.proofs.Associations.{name_is_bare}
use Rattle.ctl_parse.specs.View.{view}
use Rattle.std.proofs.Common.{ap, sym, ◌∙◌}
use Rattle.std.specs.Prelude.{length, ◌==◌}
use Rattle.ctl_parse.proofs.headings.is_bare_name.Goals as goal

pub returns-in-Name : goal.returns-in-Name
returns-in-Name c = c.is_empty.ensures ∙ ap (λ xs. length xs == 0) c.as_slice.ensures ∙ sym (ap (λ x. is_bare (view x)) c.in-Name.is ∙ name_is_bare _ _)
