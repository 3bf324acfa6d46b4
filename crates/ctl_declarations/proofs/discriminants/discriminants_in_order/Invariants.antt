use Rattle.std.proofs.Common.{◌≡◌, length, Some, []}
use Rattle.ctl_declarations.specs.Declarations as spec
use Rattle.ctl_typing.specs.Judgement.{each}
use Rattle.ctl_declarations.proofs.discriminants.discriminants_in_order.Given as goal

-- those that are left, behind those so far, are judged as all are
abbrev pub invariant-given : goal.invariant-given
invariant-given l =
    each (spec.discriminant l.tables) l.done (spec.discriminants_at l.numbers l.given) l.notes
    ≡ each (spec.discriminant l.tables) (Some []) (spec.discriminants_at l.positions l.associations) l.fn.notes

abbrev pub decreases-given : goal.decreases-given
decreases-given l = length l.given
