-- What is known of an allocated object beside the values of its cells.
use Rattle.std.specs.Prelude.{◌≡◌, ℕ, List, length, replicate, Option, Bool, false}
use Rattle.std.specs.Option.{option_map, option_map_or}
use Rattle.ctl_meaning.specs.World as W
use Rattle.ctl_meaning.specs.World.{Object}
use Rattle.ctl_meaning.specs.Objects.{is_of_set, object_in}
use Rattle.ctl_storage.specs.declared.existing.Allocation.{Allocation}
use Rattle.ctl_storage.specs.declared.existing.Place.{Place}
use Rattle.ctl_storage.specs.declared.existing.Place.TheVariants.{Standard, InBlock}
use Rattle.ctl_storage.specs.Stages.{state_of}

abbrev pub place_of : Place → W.Place
place_of Standard = W.Standard
place_of (InBlock s) = W.InBlock s.pool s.address

-- an object of this number with these cells
abbrev pub allocated : ℕ → Allocation → List ℕ → Object
allocated n a cells = record { number = n; ty = a.ty; cells = cells; state = state_of a.stage.life; origin = W.Allocated a.collection (place_of a.place); joined = a.stage.has_joined }

-- with each of its cells 0
abbrev pub known : ℕ → Allocation → Object
known n a = allocated n a (replicate a.cells 0)

abbrev pub blank : Object → Object
blank o = record o { cells = replicate (length o.cells) 0 }

-- what is known of the object of a number, where there is one
abbrev pub IsKnown : ℕ → Option Allocation → List Object → Type 0
IsKnown n a os = let found : Option Object = option_map (known n) a in found ≡ option_map blank (object_in n os)

-- an object of this number exists that was allocated for a collection
abbrev pub is_member : ℕ → ℕ → List Object → Bool
is_member set n os = option_map_or (λ o. is_of_set set o.origin) (object_in n os) false
