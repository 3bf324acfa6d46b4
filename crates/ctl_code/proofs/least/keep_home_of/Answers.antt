use Rattle.std.proofs.Common.{IfOk, sym, subst}
use Rattle.ctl_program.specs.declared.types.Ty.{Ty}
use Rattle.ctl_code.specs.Homes.{Raises}
use Rattle.ctl_code.specs.Kinds.{stack_at}
use Rattle.ctl_code.specs.Windows.{HasHomeOf}
use Rattle.ctl_code.proofs.least.keep_home_of.Goals as goal

pub returns-in-Record : goal.returns-in-Record
returns-in-Record c = subst (λ (ty : Ty). IfOk c.keep_home.result (λ raised. Raises (λ counts. HasHomeOf counts (stack_at c.args.code.now.kinds c.args.place) ty) c.args.homes.now c.keep_home.new.homes raised)) (sym c.in-Record.is) c.keep_home.ensures
