use Rattle.std.proofs.Common.{◌≡◌, drop}
use Rattle.ctl_declarations.specs.Declarations as spec
use Rattle.ctl_declarations.proofs.headings.not_in.Given as goal

-- the names that are left, after those that were noted, are all
abbrev pub invariant-loop-name : goal.invariant-loop-name
invariant-loop-name l = spec.not_in l.mode (drop l.name-index l.names) l.draft ≡ spec.not_in l.fn.mode l.names l.fn.draft
