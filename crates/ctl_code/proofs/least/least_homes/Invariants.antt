use Rattle.ctl_code.specs.Demands.{with_counts}
use Rattle.ctl_code.specs.Homes.{Below}
use Rattle.ctl_code.specs.Valid.{IsValid}
use Rattle.ctl_code.specs.Windows.{Counts}
use Rattle.ctl_code.proofs.least.least_homes.Given as goal

-- no number is greater than it has to be
abbrev pub invariant-loop : goal.invariant-loop
invariant-loop l = (most : Counts) → IsValid (with_counts most l.code) → Below l.homes most
