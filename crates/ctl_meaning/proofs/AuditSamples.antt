-- What the audit says of a trace of two objects, and of traces that are nearly it.
use Rattle.std.specs.Prelude.{None, Some, ◌≡◌, [], ◌∷◌, true, codes}
use Rattle.std.proofs.Common.{refl}
use Rattle.ctl_tree.specs.declared.event.Event.{Event}
use Rattle.ctl_meaning.specs.Audit.{NotLive, OutOfOrder, LeftOpen, flaw_of, opened_audit}
use Rattle.ctl_meaning.specs.Lists.{opened_lists}
use Rattle.ctl_meaning.proofs.worked.Build.{part, live, finalized, print, newline, of_master, scope, assigned}

abbrev first : Event
first = live (part 1 []) (of_master 2)

abbrev second : Event
second = live (part 2 []) (of_master 2)

-- in reverse order, with what they print
orderly : flaw_of (first ∷ second ∷ finalized (part 2 []) scope ∷ print (codes "F") ∷ newline ∷ finalized (part 1 []) scope ∷ []) true ≡ None
unfolding opened_audit opened_lists
orderly = refl

-- the second one is never closed
left_open : flaw_of (first ∷ second ∷ print (codes "F") ∷ newline ∷ finalized (part 1 []) scope ∷ []) true ≡ Some (record { kind = LeftOpen; index = 1 })
unfolding opened_audit opened_lists
left_open = refl

-- the first one is closed before the second
out_of_order : flaw_of (first ∷ second ∷ finalized (part 1 []) scope ∷ finalized (part 2 []) scope ∷ []) true ≡ Some (record { kind = OutOfOrder; index = 3 })
unfolding opened_audit opened_lists
out_of_order = refl

-- one is closed twice
closed_twice : flaw_of (first ∷ second ∷ finalized (part 2 []) scope ∷ finalized (part 2 []) scope ∷ []) true ≡ Some (record { kind = NotLive; index = 3 })
unfolding opened_audit opened_lists
closed_twice = refl

-- the finalization of an assignment's target closes nothing
assigned_first : flaw_of (first ∷ finalized (part 1 []) assigned ∷ finalized (part 1 []) scope ∷ []) true ≡ None
unfolding opened_audit opened_lists
assigned_first = refl
