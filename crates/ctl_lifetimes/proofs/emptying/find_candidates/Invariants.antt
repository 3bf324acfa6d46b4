use Rattle.std.specs.Prelude.{length}
use Rattle.ctl_meaning.specs.Lists.{keep}
use Rattle.ctl_lifetimes.specs.Emptying.{AreCounted, is_ahead}
use Rattle.ctl_lifetimes.proofs.emptying.find_candidates.Given as goal

abbrev pub invariant-loop-waiting : goal.invariant-loop-waiting
invariant-loop-waiting g l = AreCounted l.fn.code l.fn.order l.fn.first l.fn.last l.fn.engine.stock l.start l.found

abbrev pub decreases-loop-waiting : goal.decreases-loop-waiting
decreases-loop-waiting g l = length (keep (is_ahead l.fn.engine.stock.needs l.start) l.fn.engine.stock.objects)
