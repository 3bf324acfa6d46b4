use Rattle.std.proofs.Common.{refl, arith, ap}
use Rattle.ctl_syntax.specs.declared.denoted.Definition.{Definition}
use Rattle.ctl_syntax.specs.declared.denoted.Use.{Use}
use Rattle.ctl_syntax.specs.declared.item.Body.{fold_out-Body}
use Rattle.ctl_syntax.specs.declared.item.Statement.{Statement, size-Statement, size_is-Statement}
use Rattle.ctl_syntax.specs.declared.item.Statement.TheVariants.{If, outs-If}
use Rattle.ctl_slice.proofs.walk.+part.Goals as goal

pub statement-branches-between-requires : goal.statement-branches-between-requires
statement-branches-between-requires t c =
    let i = c.in-If in
    let sized = rw (outs-If i.field-0 i.first i.more i.otherwise) at (size_is-Statement Definition Use (If i.field-0 i.first i.more i.otherwise)) in
    let whole = ap (λ (s : Statement Definition Use). size-Statement Definition Use s) i.is in
    rw c.as_slice.ensures (omega (arith, sized, whole, c.decreases), tt)

pub body-returns : goal.body-returns
body-returns t c =
    rw (fold_out-Body, c.earliest.ensures, c.items-declared.ensures, c.statements-done.ensures, c.handlers-handled.ensures, c.as_slice.ensures, c.as_slice-2.ensures, c.as_slice-3.ensures) refl
