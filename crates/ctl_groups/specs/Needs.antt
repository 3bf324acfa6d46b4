-- Which record types need finalization.
use Rattle.std.specs.Prelude.{ℕ, List, Bool, true, false, slice_get}
use Rattle.std.specs.Option.{option_map_or}
use Rattle.ctl_groups.specs.declared.needs.Need.{Need}
use Rattle.ctl_groups.specs.declared.needs.Need.TheVariants.{Finalization, Nothing}

abbrev pub is_finalization : Need → Bool
is_finalization Finalization = true
is_finalization Nothing = false

-- a record type needs finalization; one beyond the list needs none
abbrev pub needs_finalization : List Need → ℕ → Bool
needs_finalization needs t = option_map_or is_finalization (slice_get needs t) false
