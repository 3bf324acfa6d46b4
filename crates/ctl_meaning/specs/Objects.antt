-- Objects by number, their values and states, and where they lie.
use Rattle.std.specs.Prelude.{ℕ, zero, suc, List, [], ◌∷◌, Option, Bool, true, false, nat_eq, if◌then◌else◌, drop}
use Rattle.ctl_meaning.specs.World.{Place, Standard, InBlock, InSubpool, Origin, Declared, Allocated, State, Untouched, Finalizing, Finalized, Object}
use Rattle.ctl_meaning.specs.Lists.{first_with, change_each, contains}

unfoldable pub object_in : ℕ → List Object → Option Object
object_in n os = first_with (λ o. nat_eq o.number n) os

unfoldable pub change_in : ℕ → (Object → Object) → List Object → List Object
change_in n f os = change_each (λ o. nat_eq o.number n) f os

-- the first n cells; one that is not there counts as 0
unfoldable pub first_cells : ℕ → List ℕ → List ℕ
first_cells zero v = []
first_cells (suc n) [] = 0 ∷ first_cells n []
first_cells (suc n) (x ∷ xs) = x ∷ first_cells n xs

-- the cells of a part
unfoldable pub cells_at : ℕ → ℕ → Object → List ℕ
cells_at offset n o = first_cells n (drop offset o.cells)

-- the first cells are written over; one that is not there is not written
unfoldable pub written_over : List ℕ → List ℕ → List ℕ
written_over [] cells = cells
written_over (x ∷ xs) [] = []
written_over (x ∷ xs) (y ∷ ys) = x ∷ written_over xs ys

unfoldable pub overwritten : ℕ → List ℕ → List ℕ → List ℕ
overwritten zero v cells = written_over v cells
overwritten (suc n) v [] = []
overwritten (suc n) v (y ∷ ys) = y ∷ overwritten n v ys

unfoldable pub with_cells : ℕ → List ℕ → Object → Object
with_cells offset v o = record o { cells = overwritten offset v o.cells }

unfoldable pub with_begun : Object → Object
with_begun o = record o { state = Finalizing }

unfoldable pub with_joined : Object → Object
with_joined o = record o { joined = true }

unfoldable pub is_untouched : State → Bool
is_untouched Untouched = true
is_untouched Finalizing = false
is_untouched Finalized = false

-- finalized, if its finalization has begun
unfoldable pub with_finalized : Object → Object
with_finalized o = if is_untouched o.state then o else record o { state = Finalized }

unfoldable pub is_finalizing : State → Bool
is_finalizing Untouched = false
is_finalizing Finalizing = true
is_finalizing Finalized = false

-- an object of a collection
unfoldable pub is_of_set : ℕ → Origin → Bool
is_of_set set (Declared m) = false
is_of_set set (Allocated s p) = nat_eq s set

unfoldable pub place_in_subpool : ℕ → Place → Bool
place_in_subpool n Standard = false
place_in_subpool n (InBlock p a) = false
place_in_subpool n (InSubpool s) = nat_eq s n

unfoldable pub lies_in_subpool : ℕ → Origin → Bool
lies_in_subpool n (Declared m) = false
lies_in_subpool n (Allocated x p) = place_in_subpool n p

unfoldable pub place_in_pool : ℕ → Place → Bool
place_in_pool n Standard = false
place_in_pool n (InBlock p a) = nat_eq p n
place_in_pool n (InSubpool s) = false

unfoldable pub lies_in_pool : ℕ → Origin → Bool
lies_in_pool n (Declared m) = false
lies_in_pool n (Allocated x p) = place_in_pool n p

-- an object of a master, or of one of its collections
unfoldable pub ends_with_master : ℕ → List ℕ → Origin → Bool
ends_with_master m sets (Declared n) = nat_eq n m
ends_with_master m sets (Allocated s p) = contains s sets

-- everything here, opened at once
unfoldable pub opened_objects : Unit {0}
unfolding object_in change_in first_cells cells_at written_over overwritten with_cells with_begun with_joined is_untouched with_finalized is_finalizing is_of_set place_in_subpool lies_in_subpool place_in_pool lies_in_pool ends_with_master
opened_objects = tt
