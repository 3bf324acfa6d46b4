use Rattle.std.proofs.Common.{◌≡◌, ◌≤◌, drop}
use Rattle.ctl_types.specs.Parts as part
use Rattle.ctl_types.proofs.parts.count_bodies.Given as goal

abbrev pub invariant-loop-item : goal.invariant-loop-item
invariant-loop-item l = record {
  counted : part.bodies_on l.count (drop l.item-index l.items) ≡ part.bodies_on 0 l.items;
  few : l.count ≤ l.item-index;
}
