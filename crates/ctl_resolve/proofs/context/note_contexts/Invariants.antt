use Rattle.std.proofs.Common.{◌≡◌, drop}
use Rattle.ctl_resolve.specs.Whole as spec
use Rattle.ctl_resolve.proofs.context.note_contexts.Given as goal

-- what is left, from here, gives what all gives
abbrev pub invariant-loop-clause : goal.invariant-loop-clause
invariant-loop-clause l = spec.note_contexts (drop l.clause-index l.contexts) l.view ≡ spec.note_contexts l.contexts l.fn.view
