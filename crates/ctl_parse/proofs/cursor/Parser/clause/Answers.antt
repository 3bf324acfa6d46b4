use Rattle.ctl_grammar.specs.Form.{leaf, none, pair, tag}
use Rattle.ctl_grammar.specs.Grammar.{clause, known, storage_pool}
use Rattle.ctl_grammar.specs.Label as labels
use Rattle.ctl_grammar.specs.Nodes.{first, identifier_of, part_2, part_4, part_5}
use Rattle.ctl_parse.proofs.Keeping.{kept_part_2, kept_part_5, paired}
use Rattle.ctl_parse.proofs.PartViews.{some_node, view_of_item}
use Rattle.ctl_parse.proofs.Steps.{being, keeping, kept_first, then}
use Rattle.ctl_parse.specs.Reads.{Reads}
use Rattle.std.proofs.Common.{ap}
use Rattle.ctl_parse.proofs.cursor.Parser.clause.Goals as goal

pub returns : goal.returns
unfolding clause
returns c = let word = some_node (λ t. identifier_of (leaf t.now)) (λ v. Reads (known storage_pool) none c.skip.new.self v c.storage_pool.new.self) c.storage_pool.result c.storage_pool.ensures in being (view_of_item _ _) (keeping (λ v. pair (first v) (tag labels.PoolClause (pair (part_2 v) (pair (part_4 v) (part_5 v))))) (λ v. pair (first v) (tag labels.PoolClause (pair (part_2 v) (part_5 v)))) (λ v. paired (kept_first v) (ap (tag labels.PoolClause) (paired (kept_part_2 v) (kept_part_5 v)))) (then c.mark-span.ensures (then c.identifier-name.ensures (then c.skip.ensures (then word.1 (then c.behind-pool.ensures c.skip-2.ensures))))))
