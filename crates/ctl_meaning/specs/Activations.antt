-- What the names of a part stand for while its master is active (3.10.2: a use names a level, and a slot there).
use Rattle.std.specs.Prelude.{ℕ, ◌-◌, List, [], ◌∷◌, ◌++◌, Option, Some, None, not, nat_eq, slice_get, slice_set}
use Rattle.ctl_program.specs.declared.types.Var.{Var}
use Rattle.ctl_meaning.specs.World.{Slot, unset, Activation}
use Rattle.ctl_meaning.specs.Lists.{first_with, change_each, keep, item_or}

unfoldable pub activation_at : ℕ → List Activation → Option Activation
activation_at n xs = first_with (λ a. nat_eq a.master n) xs

-- a master is entered inside the masters of a display
unfoldable pub push_activation : ℕ → List ℕ → List Slot → List Activation → List Activation
push_activation n display slots xs = (record { master = n; display = display ++ n ∷ []; slots = slots }) ∷ xs

unfoldable pub drop_activation : ℕ → List Activation → List Activation
drop_activation n xs = keep (λ a. not (nat_eq a.master n)) xs

unfoldable pub with_slot : ℕ → Slot → Activation → Activation
with_slot i x a = record a { slots = slice_set a.slots i x }

unfoldable pub change_slot : ℕ → ℕ → Slot → List Activation → List Activation
change_slot n i x xs = change_each (λ a. nat_eq a.master n) (with_slot i x) xs

unfoldable pub slots_in : Option Activation → List Slot
slots_in None = []
slots_in (Some a) = a.slots

unfoldable pub display_in : Option Activation → List ℕ
display_in None = []
display_in (Some a) = a.display

-- the master that a use names, where a display is seen; levels count from 1
unfoldable pub master_of : List ℕ → Var → ℕ
master_of display v = item_or 0 (slice_get display (v.level - 1))

unfoldable pub slot_in : ℕ → ℕ → List Activation → Slot
slot_in n i xs = item_or unset (slice_get (slots_in (activation_at n xs)) i)

-- everything here, opened at once
unfoldable pub opened_activations : Unit {0}
unfolding activation_at push_activation drop_activation with_slot change_slot slots_in display_in master_of slot_in
opened_activations = tt
