use Rattle.std.proofs.Common.{refl, sym, ◌∙◌}
use Rattle.ctl_grammar.specs.Grammar.{selector, selectors}
use Rattle.ctl_parse.specs.View.{identifier_node}
use Rattle.ctl_parse.proofs.Rows.{beginning, gathering, gathered, smaller}
use Rattle.ctl_parse.proofs.cursor.Parser.selectors.Goals as goal

pub more-init : goal.more-init
unfolding selectors
more-init c = rw c.new-all.ensures (beginning c.args.self.now)

pub more-smaller : goal.more-smaller
unfolding selector
more-smaller c = smaller refl (sym c.next_is.ensures ∙ c.more-test.true) c.selector-next.ensures c.push.ensures

pub more-preserved : goal.more-preserved
unfolding selector
more-preserved c = gathering identifier_node c.more.invariant refl (sym c.next_is.ensures ∙ c.more-test.true) c.selector-next.ensures c.push.ensures

pub returns : goal.returns
unfolding selector
returns c = gathered c.more.invariant (sym c.next_is.ensures ∙ c.more-test.false)
