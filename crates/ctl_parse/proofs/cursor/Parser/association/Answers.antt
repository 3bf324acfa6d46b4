use Rattle.ctl_grammar.specs.Grammar.{association}
use Rattle.ctl_grammar.specs.Nodes.{is_bare}
use Rattle.ctl_parse.proofs.Associations.{and_both, associating, bare_is}
use Rattle.ctl_parse.proofs.Forms.{elsewhere, leaving, minding}
use Rattle.ctl_parse.proofs.Keeping.{paired}
use Rattle.ctl_parse.proofs.Steps.{being_sound}
use Rattle.ctl_parse.specs.View.{view}
use Rattle.std.proofs.Common.{refl, sym, ◌∙◌}
use Rattle.ctl_parse.proofs.cursor.Parser.association.Goals as goal

pub returns-then-at_named : goal.returns-then-at_named
unfolding association
returns-then-at_named c = let both = and_both _ _ (sym c.at_named.ensures ∙ c.if-at_named.true) in being_sound (λ z. paired (bare_is (view c.expression-value.result) c.bare_name-name.result c.bare_name-name.ensures both.0) refl) (associating c.expression-value.ensures (minding is_bare both.0 both.1 (elsewhere (λ left ts. refl) c.associated-value.ensures)))

pub returns-else-at_named : goal.returns-else-at_named
unfolding association
returns-else-at_named c = associating c.expression-value.ensures (leaving is_bare _ (sym c.at_named.ensures ∙ c.if-at_named.false))
