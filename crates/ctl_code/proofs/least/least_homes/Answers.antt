use Rattle.std.proofs.Common.{sym, subst}
use Rattle.ctl_code.specs.Demands.{with_counts}
use Rattle.ctl_code.specs.Valid.{IsValid}
use Rattle.ctl_code.specs.Windows.{Counts}
use Rattle.ctl_code.proofs.least.least_homes.Goals as goal

pub returns-then-not-branch : goal.returns-then-not-branch
returns-then-not-branch c = λ most valid.
    let nothing = c.in_ok-keep_all.ensures.1 c.if-not-branch.true in
    subst (λ (counts : Counts). IsValid (with_counts counts c.args.code.now)) (sym nothing.0) (nothing.1 most (c.loop.invariant most valid) valid)
