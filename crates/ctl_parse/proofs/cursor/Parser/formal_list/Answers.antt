use Rattle.ctl_grammar.specs.Grammar.{formal_list, next_formal}
use Rattle.ctl_parse.proofs.Rows.{beginning_pushed, gathered, gathering, smaller}
use Rattle.ctl_parse.specs.Parts.{formal_node}
use Rattle.ctl_parse.specs.Reads.{Appends}
use Rattle.std.proofs.Common.{refl, subst, sym, ◌∙◌}
use Rattle.ctl_parse.proofs.cursor.Parser.formal_list.Goals as goal

pub more-init : goal.more-init
unfolding formal_list next_formal
more-init c = beginning_pushed formal_node c.formal-first.ensures (subst (λ b. Appends b c.formal-first.result c.push.new.all c.formal-first.new.self c.push.new.self) c.new-all.ensures c.push.ensures)

pub more-smaller : goal.more-smaller
unfolding formal_list next_formal
more-smaller c = smaller refl (sym c.next_is.ensures ∙ c.more-test.true) c.next_formal-next.ensures c.push-in-more.ensures

pub more-preserved : goal.more-preserved
unfolding formal_list next_formal
more-preserved c = gathering formal_node c.more.invariant refl (sym c.next_is.ensures ∙ c.more-test.true) c.next_formal-next.ensures c.push-in-more.ensures

pub returns : goal.returns
unfolding formal_list next_formal
returns c = gathered c.more.invariant (sym c.next_is.ensures ∙ c.more-test.false)
