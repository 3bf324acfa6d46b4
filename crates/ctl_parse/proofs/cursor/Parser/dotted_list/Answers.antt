use Rattle.std.proofs.Common.{refl, subst, sym, ◌∙◌}
use Rattle.ctl_grammar.specs.Grammar.{dotted_list, next_dotted}
use Rattle.ctl_parse.specs.Reads.{Appends}
use Rattle.ctl_parse.specs.View.{mark_node}
use Rattle.ctl_parse.proofs.Rows.{beginning_pushed, gathering, gathered, smaller}
use Rattle.ctl_parse.proofs.cursor.Parser.dotted_list.Goals as goal

pub more-init : goal.more-init
unfolding dotted_list
more-init c = beginning_pushed mark_node c.dotted-first.ensures (subst (λ b. Appends b c.dotted-first.result c.push.new.all c.dotted-first.new.self c.push.new.self) c.new-all.ensures c.push.ensures)

pub more-smaller : goal.more-smaller
unfolding next_dotted
more-smaller c = smaller refl (sym c.next_is.ensures ∙ c.more-test.true) c.next_dotted-next.ensures c.push-in-more.ensures

pub more-preserved : goal.more-preserved
unfolding next_dotted
more-preserved c = gathering mark_node c.more.invariant refl (sym c.next_is.ensures ∙ c.more-test.true) c.next_dotted-next.ensures c.push-in-more.ensures

pub returns : goal.returns
unfolding next_dotted
returns c = gathered c.more.invariant (sym c.next_is.ensures ∙ c.more-test.false)
