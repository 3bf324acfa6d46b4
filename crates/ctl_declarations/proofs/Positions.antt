-- The position of the last of some components.
use Rattle.std.proofs.Common.{◌≡◌, ℕ, List, [], ◌∷◌, ◌++◌, refl}
use Rattle.ctl_typing.specs.declared.table.ComponentEntry.{ComponentEntry}
use Rattle.ctl_declarations.specs.Types.{last_position}

pub last_position_at_end : (count : ℕ) (own : List ComponentEntry) (c : ComponentEntry) → last_position count (own ++ c ∷ []) ≡ c.position
last_position_at_end count [] c = refl
last_position_at_end count (x ∷ xs) c = last_position_at_end x.position xs c
