-- What is left is run as what there was.
use Rattle.std.proofs.Common.{◌≡◌, drop}
use Rattle.ctl_layout.specs.Records.{are_parts}
use Rattle.ctl_layout.proofs.forms.are_parts.Given as goal

abbrev pub invariant-loop-component : goal.invariant-loop-component
invariant-loop-component l = are_parts l.forms (drop l.component-index l.components) ≡ are_parts l.forms l.components
