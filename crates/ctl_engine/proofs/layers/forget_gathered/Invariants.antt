use Rattle.std.specs.Prelude.{◌≡◌, [], List, drop, take}
use Rattle.ctl_meaning.specs.World.{Object}
use Rattle.ctl_objects.specs.Order.{AreUpTo}
use Rattle.ctl_frames.specs.Owned.{remaining, set_numbers}
use Rattle.ctl_engine.proofs.layers.forget_gathered.Given as goal
use Rattle.ctl_objects.specs.Stock.{Stock}
use Rattle.ctl_engine.specs.LeftPools.{LeavesPools}

-- those before are gone with their objects
abbrev pub invariant-loop-at : goal.invariant-loop-at
invariant-loop-at l = (l.stock.needs ≡ l.fn.stock.needs) × (((first : Stock) → LeavesPools first l.fn.stock → LeavesPools first l.stock) × (AreUpTo l.master l.stock.objects × ((all : List Object) → l.fn.stock.objects ≡ remaining l.master [] all → l.stock.objects ≡ remaining l.master (set_numbers (drop l.start (take l.at l.owned))) all)))
