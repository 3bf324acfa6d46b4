use Rattle.ctl_grammar.specs.Grammar.{component, component_list, identifier, identifiers}
use Rattle.ctl_parse.proofs.Rows.{beginning_pushed, gathered, gathering, smaller}
use Rattle.ctl_parse.specs.Parts.{components_node}
use Rattle.ctl_parse.specs.Reads.{Appends}
use Rattle.std.proofs.Common.{refl, subst, sym, ◌∙◌}
use Rattle.ctl_parse.proofs.cursor.Parser.component_list.Goals as goal

pub more-init : goal.more-init
unfolding component component_list identifier identifiers
more-init c = beginning_pushed components_node c.component-first.ensures (subst (λ b. Appends b c.component-first.result c.push.new.all c.component-first.new.self c.push.new.self) c.new-all.ensures c.push.ensures)

pub more-smaller : goal.more-smaller
unfolding component component_list identifier identifiers
more-smaller c = smaller refl (sym c.next_is.ensures ∙ c.more-test.true) c.component-next.ensures c.push-in-more.ensures

pub more-preserved : goal.more-preserved
unfolding component component_list identifier identifiers
more-preserved c = gathering components_node c.more.invariant refl (sym c.next_is.ensures ∙ c.more-test.true) c.component-next.ensures c.push-in-more.ensures

pub returns : goal.returns
unfolding component component_list identifier identifiers
returns c = gathered c.more.invariant (sym c.next_is.ensures ∙ c.more-test.false)
