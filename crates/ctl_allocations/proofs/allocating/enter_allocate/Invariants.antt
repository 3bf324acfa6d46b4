use Rattle.std.proofs.Common.{unwrap_or}
use Rattle.ctl_code.specs.Table.{operation_for}
use Rattle.ctl_engine.proofs.Newborn.{place_in}
use Rattle.ctl_allocations.proofs.UserAllocates.{allocate_call}
use Rattle.ctl_allocations.proofs.allocating.enter_allocate.Given as goal

abbrev pub ghost-call_storage : goal.ghost-call_storage
ghost-call_storage g a = let o = g.s.1 in allocate_call (place_in g.s.0.mode) (unwrap_or (operation_for (λ x. x.allocate) a.code.now o.ty) 0) a.actuals.units g.s.2 o g.s.0
