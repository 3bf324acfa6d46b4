use Rattle.std.proofs.Common.{IfOk, sym, subst}
use Rattle.ctl_code.specs.declared.code.Initial.{Initial}
use Rattle.ctl_code.specs.Demands.{with_counts}
use Rattle.ctl_code.specs.Homes.{Raises}
use Rattle.ctl_code.specs.Valid.{IsInitialWithin}
use Rattle.ctl_code.proofs.least.keep_initial.Goals as goal

pub returns-in-ByType : goal.returns-in-ByType
returns-in-ByType c = subst (λ (i : Initial). IfOk c.keep_within.result (λ raised. Raises (λ counts. IsInitialWithin (with_counts counts c.args.code.now) c.args.number c.args.place i) c.args.homes.now c.keep_within.new.homes raised)) (sym c.in-ByType.is) c.keep_within.ensures

pub returns-in-Computed : goal.returns-in-Computed
returns-in-Computed c = subst (λ (i : Initial). IfOk c.keep_default.result (λ raised. Raises (λ counts. IsInitialWithin (with_counts counts c.args.code.now) c.args.number c.args.place i) c.args.homes.now c.keep_default.new.homes raised)) (sym c.in-Computed.is) c.keep_default.ensures
