-- What is left may be components as what there was.
use Rattle.std.proofs.Common.{◌≡◌, drop}
use Rattle.ctl_slice.specs.Constructs.{may_all_be_components}
use Rattle.ctl_slice.proofs.construct.may_all_be_components.Given as goal

abbrev pub invariant-loop-components : goal.invariant-loop-components
invariant-loop-components l = may_all_be_components (drop l.components-index l.all) ≡ may_all_be_components l.all
