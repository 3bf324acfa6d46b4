use Rattle.std.proofs.Common.{ap, ◌∙◌}
use Rattle.std.specs.Prelude.{is_some}
use Rattle.std.specs.FinMap.{get}
use Rattle.pool_store.proofs.MarkViews.{stands_in}
use Rattle.pool_store.proofs.mark_store.MarkStore.has_subpool.Goals as goal

pub returns : goal.returns
returns g c = c.is_some.ensures ∙ ap is_some c.standing_in.ensures ∙ stands_in c.args.subpool (get c.args.self.now.marks c.args.pool)
