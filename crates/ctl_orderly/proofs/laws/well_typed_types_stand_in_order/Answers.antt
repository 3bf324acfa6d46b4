use Rattle.ctl_orderly.proofs.WellTyped.{well_typed_in_order}
use Rattle.ctl_orderly.proofs.laws.well_typed_types_stand_in_order.Goals as goal

pub returns : goal.returns
returns c = record { in_order = well_typed_in_order c.args.program.now }
