use Rattle.std.proofs.Common.{ℕ, IfOk, Option, sym, subst}
use Rattle.ctl_code.specs.Homes.{Raises}
use Rattle.ctl_code.specs.Valid.{IsOperationWithin}
use Rattle.ctl_code.proofs.least.keep_operation.Goals as goal

pub returns-in-Some : goal.returns-in-Some
returns-in-Some c = subst (λ (o : Option ℕ). IfOk c.keep_within.result (λ raised. Raises (λ counts. IsOperationWithin counts c.args.number o) c.args.homes.now c.keep_within.new.homes raised)) (sym c.in-Some.is) c.keep_within.ensures
