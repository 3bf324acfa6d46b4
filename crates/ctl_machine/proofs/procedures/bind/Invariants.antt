use Rattle.std.specs.Prelude.{◌≡◌, ◌+◌, ◌-◌, ◌≤◌, ◌++◌, drop, take, length, vec_len, vec_capacity}
use Rattle.ctl_code.specs.Kinds.{stack_at}
use Rattle.ctl_places.specs.Passing.{AreActuals, StandIn, bound, passed}
use Rattle.ctl_frames.specs.Spots.{located}
use Rattle.ctl_machine.proofs.procedures.bind.Given as goal

-- the actuals from here on are still to be passed
abbrev pub invariant-loop-depth : goal.invariant-loop-depth
invariant-loop-depth g l = record {
  cells : passed (l.fn.actuals - l.depth) (drop l.depth g.t.0) l.fn.base l.cells ≡ passed l.fn.actuals g.t.0 l.fn.base l.fn.cells;
  spots : l.spots.items ≡ g.t.1 ++ located (take (l.fn.actuals - l.depth) (drop l.depth g.t.0));
  formals : l.formals.items ++ bound (l.fn.actuals - l.depth) (drop l.depth g.t.0) ≡ l.fn.formals.items ++ bound l.fn.actuals g.t.0;
  many : vec_len l.formals ≤ vec_len l.fn.formals + l.depth;
  room : vec_capacity l.formals ≡ vec_capacity l.fn.formals;
  long : length l.cells ≡ length l.fn.cells;
  words : StandIn (l.fn.actuals - l.depth) (drop l.depth g.t.0) l.fn.base l.cells;
  actuals : AreActuals (l.fn.actuals - l.depth) (drop l.depth (stack_at l.fn.code.kinds l.fn.place)) (drop l.depth g.t.0);
}
