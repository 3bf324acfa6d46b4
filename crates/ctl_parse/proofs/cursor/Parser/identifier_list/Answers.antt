use Rattle.ctl_grammar.specs.Grammar.{next_identifier, next_identifiers}
use Rattle.ctl_parse.proofs.Rows.{beginning_pushed, gathered, gathering, smaller}
use Rattle.ctl_parse.specs.Reads.{Appends}
use Rattle.ctl_parse.specs.View.{identifier_node}
use Rattle.std.proofs.Common.{refl, subst, sym, ◌∙◌}
use Rattle.ctl_parse.proofs.cursor.Parser.identifier_list.Goals as goal

pub more-init : goal.more-init
unfolding next_identifier next_identifiers
more-init c = beginning_pushed identifier_node c.identifier-first.ensures (subst (λ b. Appends b c.identifier-first.result c.push.new.all c.identifier-first.new.self c.push.new.self) c.new-all.ensures c.push.ensures)

pub more-smaller : goal.more-smaller
unfolding next_identifier next_identifiers
more-smaller c = smaller refl (sym c.next_is.ensures ∙ c.more-test.true) c.next_identifier-next.ensures c.push-in-more.ensures

pub more-preserved : goal.more-preserved
unfolding next_identifier next_identifiers
more-preserved c = gathering identifier_node c.more.invariant refl (sym c.next_is.ensures ∙ c.more-test.true) c.next_identifier-next.ensures c.push-in-more.ensures

pub returns : goal.returns
unfolding next_identifier next_identifiers
returns c = gathered c.more.invariant (sym c.next_is.ensures ∙ c.more-test.false)
