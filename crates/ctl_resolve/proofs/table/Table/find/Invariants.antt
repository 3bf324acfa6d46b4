use Rattle.ctl_resolve.proofs.Places.{Leads}
use Rattle.std.proofs.Common.{length}
use Rattle.ctl_resolve.proofs.table.Table.find.Given as goal

-- what is sought among all is found among those up to this place
abbrev pub invariant-chain : goal.invariant-chain
invariant-chain l = Leads l.self l.sought l.key (length l.self) l.place

abbrev pub decreases-chain : goal.decreases-chain
decreases-chain l = l.place
