use Rattle.ctl_grammar.specs.Form.{leaf, none, pair}
use Rattle.ctl_grammar.specs.Grammar.{aspect, known, storage_pool}
use Rattle.ctl_grammar.specs.Nodes.{behind_3, identifier_of, part_2}
use Rattle.ctl_parse.proofs.Keeping.{kept_behind_3, kept_part_2, paired}
use Rattle.ctl_parse.proofs.PartViews.{some_node}
use Rattle.ctl_parse.proofs.Steps.{choosing, making, passing, staying, then}
use Rattle.ctl_parse.specs.Reads.{Reads}
use Rattle.std.proofs.Common.{sym, ◌∙◌}
use Rattle.ctl_parse.proofs.cursor.Parser.aspect.Goals as goal

pub returns-then-next_is : goal.returns-then-next_is
unfolding aspect
returns-then-next_is c = let word = some_node (λ t. identifier_of (leaf t.now)) (λ v. Reads (known storage_pool) none c.skip.new.self v c.storage_pool.new.self) c.storage_pool.result c.storage_pool.ensures in (word.0, choosing (sym c.next_is.ensures ∙ c.if-next_is.true) (making (λ v. pair (part_2 v) (behind_3 v)) (λ v. paired (kept_part_2 v) (kept_behind_3 v)) (then c.skip.ensures (then word.1 (then c.skip-then-next_is.ensures c.dotted-pool.ensures)))))

pub returns-else-next_is : goal.returns-else-next_is
unfolding aspect
returns-else-next_is c = (none, passing (sym c.next_is.ensures ∙ c.if-next_is.false) (staying _))
