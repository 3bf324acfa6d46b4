use Rattle.std.proofs.Common.{◌↔◌, drop}
use Rattle.ctl_code.specs.Valid.{AreInitialsWithin}
use Rattle.ctl_code.proofs.around.are_initials_within.Given as goal

-- the components are, if those that are left are
abbrev pub invariant-loop-component : goal.invariant-loop-component
invariant-loop-component l = AreInitialsWithin l.code l.number l.layout.begun.items ↔ AreInitialsWithin l.code l.number (drop l.component-index l.layout.begun.items)
