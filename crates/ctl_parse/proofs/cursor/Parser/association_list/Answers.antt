use Rattle.ctl_grammar.specs.Grammar.{association_list, next_association}
use Rattle.ctl_parse.proofs.Rows.{beginning_pushed, gathered, gathering, smaller}
use Rattle.ctl_parse.specs.Parts.{association_node}
use Rattle.ctl_parse.specs.Reads.{Appends}
use Rattle.std.proofs.Common.{refl, subst, sym, ◌∙◌}
use Rattle.ctl_parse.proofs.cursor.Parser.association_list.Goals as goal

pub more-init : goal.more-init
unfolding association_list next_association
more-init c = beginning_pushed association_node c.association-first.ensures (subst (λ b. Appends b c.association-first.result c.push.new.all c.association-first.new.self c.push.new.self) c.new-all.ensures c.push.ensures)

pub more-smaller : goal.more-smaller
unfolding association_list next_association
more-smaller c = smaller refl (sym c.next_is.ensures ∙ c.more-test.true) c.next_association-next.ensures c.push-in-more.ensures

pub more-preserved : goal.more-preserved
unfolding association_list next_association
more-preserved c = gathering association_node c.more.invariant refl (sym c.next_is.ensures ∙ c.more-test.true) c.next_association-next.ensures c.push-in-more.ensures

pub returns : goal.returns
unfolding association_list next_association
returns c = gathered c.more.invariant (sym c.next_is.ensures ∙ c.more-test.false)
