use Rattle.std.proofs.Common.{sym, subst}
use Rattle.ctl_code.specs.Demands.{AreAround, AreFine, with_counts}
use Rattle.ctl_code.specs.Homes.{Raises}
use Rattle.ctl_code.specs.Valid.{IsValid}
use Rattle.ctl_code.proofs.Raising.{both_raised, whole_raised}
use Rattle.ctl_code.proofs.least.keep_all.Goals as goal

pub returns : goal.returns
returns c =
    let code = c.args.code.now in
    let old = c.args.homes.now in
    let mid = c.keep_instructions.new.homes in
    let new = c.keep_layouts.new.homes in
    let a = c.in_ok-first.first in
    let b = c.in_ok-second.second in
    subst (λ r. Raises (λ counts. IsValid (with_counts counts code)) old new r) (sym c.either.ensures)
    (whole_raised code old new _ (both_raised (λ counts. AreFine (with_counts counts code)) (λ counts. AreAround (with_counts counts code)) old mid new a b c.in_ok-first.ensures c.in_ok-second.ensures))
