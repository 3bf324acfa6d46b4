use Rattle.std.proofs.Common.{◌≡◌, drop}
use Rattle.ctl_resolve.specs.Whole as spec
use Rattle.ctl_resolve.proofs.context.note_clauses.Given as goal

-- what is left, from here, gives what all gives
abbrev pub invariant-loop-one : goal.invariant-loop-one
invariant-loop-one l = spec.note_clauses l.kind (drop l.one-index l.all) l.view ≡ spec.note_clauses l.kind l.all l.fn.view
