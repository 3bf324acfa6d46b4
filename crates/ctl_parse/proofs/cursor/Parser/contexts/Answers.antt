use Rattle.ctl_grammar.specs.Grammar.{context, context_kind, contexts}
use Rattle.ctl_parse.proofs.Rows.{beginning, gathered, gathering, smaller}
use Rattle.ctl_parse.specs.Parts.{context_node}
use Rattle.std.proofs.Common.{refl, sym, ◌∙◌}
use Rattle.ctl_parse.proofs.cursor.Parser.contexts.Goals as goal

pub more-init : goal.more-init
unfolding context context_kind contexts
more-init c = rw c.new-all.ensures (beginning c.args.self.now)

pub more-smaller : goal.more-smaller
unfolding context context_kind contexts
more-smaller c = smaller refl (sym c.at_context.ensures ∙ c.more-test.true) c.context-next.ensures c.push.ensures

pub more-preserved : goal.more-preserved
unfolding context context_kind contexts
more-preserved c = gathering context_node c.more.invariant refl (sym c.at_context.ensures ∙ c.more-test.true) c.context-next.ensures c.push.ensures

pub returns : goal.returns
unfolding context context_kind contexts
returns c = gathered c.more.invariant (sym c.at_context.ensures ∙ c.more-test.false)
