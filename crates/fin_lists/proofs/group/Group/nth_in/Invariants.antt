use Rattle.std.proofs.Common.{◌≡◌}
use Rattle.std.specs.Prelude.{slice_get}
use Rattle.std.specs.VecDeque.Iter.{deque_iter_rest}
use Rattle.fin_lists.specs.Members.{members_in, objects_of}
use Rattle.fin_lists.proofs.group.Group.nth_in.Given as goal

abbrev pub invariant-loop-member : goal.invariant-loop-member
invariant-loop-member g l =
    slice_get (objects_of (members_in l.set l.self)) l.k ≡ slice_get (objects_of (members_in l.set (deque_iter_rest l.member-iterator))) l.left
