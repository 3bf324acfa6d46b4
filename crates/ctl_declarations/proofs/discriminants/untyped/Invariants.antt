use Rattle.std.proofs.Common.{◌≡◌, drop, Some, []}
use Rattle.ctl_declarations.specs.Declarations as spec
use Rattle.ctl_typing.specs.Judgement.{each}
use Rattle.ctl_declarations.proofs.discriminants.untyped.Given as goal

-- those that are left, behind those so far, are judged as all are
abbrev pub invariant-loop-association : goal.invariant-loop-association
invariant-loop-association l =
    each (spec.anything l.tables) l.done (drop l.association-index l.associations) l.notes ≡ each (spec.anything l.tables) (Some []) l.associations l.fn.notes
