use Rattle.std.specs.Prelude.{◌≡◌, ◌≤◌, length, take}
use Rattle.ctl_meaning.specs.Lists.{keep}
use Rattle.ctl_code.specs.Table.{begun_of}
use Rattle.ctl_code.specs.Valid.{is_finalized}
use Rattle.ctl_lifetimes.proofs.filling.count_finalized.Given as goal

abbrev pub invariant-loop-at : goal.invariant-loop-at
invariant-loop-at l = (l.count ≡ length (keep (λ x. is_finalized l.fn.code x.initial) (take l.at (begun_of l.fn.code l.fn.record)))) × (l.count ≤ l.at)
