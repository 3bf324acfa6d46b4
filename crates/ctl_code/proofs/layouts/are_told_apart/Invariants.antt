use Rattle.std.proofs.Common.{◌≡◌, ◌↔◌, drop}
use Rattle.ctl_meaning.specs.Lists.{keep}
use Rattle.ctl_code.specs.Valid.{is_finalized}
use Rattle.ctl_code.proofs.layouts.are_told_apart.Given as goal

-- these are those that are finalized, if the rest of them are those among the components that are left
abbrev pub invariant-loop-at : goal.invariant-loop-at
invariant-loop-at l = (l.layout.controlled.items ≡ keep (λ x. is_finalized l.code x.initial) l.layout.begun.items) ↔ (l.rest ≡ keep (λ x. is_finalized l.code x.initial) (drop l.at l.layout.begun.items))
