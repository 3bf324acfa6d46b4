use Rattle.ctl_parse.proofs.Forms.{transferring}
use Rattle.ctl_syntax.specs.declared.item.Statement.TheViews.{outs-Exit}
use Rattle.ctl_parse.proofs.PartViews.{view_layer}
use Rattle.std.proofs.Common.{refl}
use Rattle.ctl_parse.proofs.cursor.Parser.exit_statement.Goals as goal

pub returns : goal.returns
returns c = transferring (λ n. refl) (view_layer _ (outs-Exit _ _)) c.mark-span.ensures c.exit_condition-condition.ensures c.skip.ensures
