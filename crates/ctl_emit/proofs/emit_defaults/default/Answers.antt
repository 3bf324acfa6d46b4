use Rattle.std.proofs.Common.{◌∙◌, [], Option, ap}
use Rattle.ctl_program.specs.declared.expression.Expr.{Expr}
use Rattle.ctl_layout.specs.Layout.{evaluation_of}
use Rattle.ctl_emitter.specs.Emitted.{appended}
use Rattle.ctl_emit.proofs.EmittedDefaults.{none_appended}
use Rattle.ctl_emit.proofs.emit_defaults.default.Goals as goal

pub returns-in-None : goal.returns-in-None
returns-in-None c =
    let e = c.args.emitter.now in
    none_appended e c.requires ∙ ap (λ (o : Option Expr). appended (evaluation_of c.args.level c.args.number o c.args.component.now.ty) [] [] e) c.in-None.ensures
