-- What is copied, and what is still to be copied, make up the whole.
use Rattle.std.proofs.Common.{◌≡◌, ◌++◌, drop, map}
use Rattle.ctl_layout.specs.Layout.{home_of}
use Rattle.ctl_gen.proofs.generate.accesses_of.Given as goal

abbrev pub invariant-loop-access : goal.invariant-loop-access
invariant-loop-access l = l.all.items ++ map home_of (drop l.access-index l.accesses) ≡ map home_of l.accesses
