-- Those that are told apart so far, and those among what is left, make up the whole.
use Rattle.std.proofs.Common.{◌≡◌, ◌++◌, drop}
use Rattle.ctl_layout.specs.Defaults.{finalized_by}
use Rattle.ctl_gen.proofs.generate.finalized_of.Given as goal

abbrev pub invariant-loop-component : goal.invariant-loop-component
invariant-loop-component l = l.all.items ++ finalized_by l.layouts (drop l.component-index l.begun) ≡ finalized_by l.layouts l.begun
