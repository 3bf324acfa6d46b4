use Rattle.std.proofs.Common.{◌≡◌, false, map, drop}
use Rattle.ctl_types.specs.Elaboration as spec
use Rattle.ctl_types.specs.Parts as part
use Rattle.ctl_types.proofs.parts.has_early_others.Given as goal

abbrev pub invariant-loop-handler : goal.invariant-loop-handler
invariant-loop-handler l = spec.others_early l.is_behind (map part.handler_of (drop l.handler-index l.handlers)) ≡ spec.others_early false (map part.handler_of l.handlers)
