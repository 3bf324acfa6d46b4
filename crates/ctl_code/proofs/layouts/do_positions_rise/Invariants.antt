use Rattle.std.proofs.Common.{◌↔◌, drop}
use Rattle.ctl_code.specs.Valid.{PositionsRise}
use Rattle.ctl_code.proofs.layouts.do_positions_rise.Given as goal

-- the positions rise, if those that are left do behind the last one
abbrev pub invariant-loop-component : goal.invariant-loop-component
invariant-loop-component l = PositionsRise 0 l.layout.begun.items ↔ PositionsRise l.last (drop l.component-index l.layout.begun.items)
