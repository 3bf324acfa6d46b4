use Rattle.std.proofs.Common.{◌↔◌, drop}
use Rattle.ctl_code.specs.Valid.{AreBegunBy}
use Rattle.ctl_code.proofs.layouts.are_begun_by.Given as goal

-- the components are, if those that are left are
abbrev pub invariant-loop-component : goal.invariant-loop-component
invariant-loop-component l = AreBegunBy l.code l.layout.level l.layout.begun.items ↔ AreBegunBy l.code l.layout.level (drop l.component-index l.layout.begun.items)
