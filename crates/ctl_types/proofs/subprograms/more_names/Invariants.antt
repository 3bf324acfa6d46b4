use Rattle.std.proofs.Common.{◌≡◌, ◌++◌, map, drop}
use Rattle.ctl_types.proofs.subprograms.more_names.Given as goal

-- the names that are left, behind those so far, are all
abbrev pub invariant-loop-name : goal.invariant-loop-name
invariant-loop-name l = l.all ++ map (λ n. n.identifier.text) (drop l.name-index l.names) ≡ l.fn.before ++ map (λ n. n.identifier.text) l.names
