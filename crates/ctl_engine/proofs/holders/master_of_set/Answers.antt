use Rattle.std.proofs.Common.{ap}
use Rattle.ctl_meaning.specs.Ledger.{master_in, opened_ledger}
use Rattle.ctl_engine.proofs.holders.master_of_set.Goals as goal

pub returns-in-Some : goal.returns-in-Some
unfolding opened_ledger
returns-in-Some c = ap master_in c.in-Some.ensures

pub returns-in-None : goal.returns-in-None
unfolding opened_ledger
returns-in-None c = ap master_in c.in-None.ensures
