use Rattle.std.proofs.Common.{ap, sym, ◌∙◌}
use Rattle.ctl_emitter.specs.Emitted.{lined}
use Rattle.ctl_layout.specs.Layout.{item_code}
use Rattle.ctl_emit.proofs.EmittedStatements.{no_item}
use Rattle.ctl_emit.proofs.emit_statements.item.Goals as goal

pub returns-in-Silent : goal.returns-in-Silent
returns-in-Silent c = no_item c.args.emitter.now ∙ ap (λ x. lined (item_code x).code c.args.emitter.now) (sym c.in-Silent.is)
