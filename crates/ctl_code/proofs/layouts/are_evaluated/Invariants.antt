use Rattle.std.proofs.Common.{◌↔◌, drop}
use Rattle.ctl_code.specs.Valid.{AreEvaluated}
use Rattle.ctl_code.proofs.layouts.are_evaluated.Given as goal

-- the components are, if those that are left are
abbrev pub invariant-loop-component : goal.invariant-loop-component
invariant-loop-component l = AreEvaluated l.code l.layout.level l.number l.layout.begun.items ↔ AreEvaluated l.code l.layout.level l.number (drop l.component-index l.layout.begun.items)
