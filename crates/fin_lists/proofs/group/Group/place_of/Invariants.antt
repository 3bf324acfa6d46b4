use Rattle.std.proofs.Common.{◌≡◌, ℕ, ◌<◌, ◌≤◌, length, false}
use Rattle.std.specs.Prelude.{slice_index_or}
use Rattle.fin_lists.specs.declared.group.Membership.{Membership}
use Rattle.fin_lists.specs.Members.{is_same}
use Rattle.fin_lists.proofs.group.Group.place_of.Given as goal

abbrev pub invariant-loop-index : goal.invariant-loop-index
invariant-loop-index g l = (k : ℕ) (d : Membership) → k < l.index → is_same l.member (slice_index_or l.self-inside.members.items k d) ≡ false
