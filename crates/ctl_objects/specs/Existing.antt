-- What is known of an object beside its cells.
use Rattle.std.specs.Prelude.{◌≡◌, ℕ, List, [], Option}
use Rattle.std.specs.Option.{option_map}
use Rattle.ctl_meaning.specs.World as W
use Rattle.ctl_meaning.specs.World.{Object}
use Rattle.ctl_meaning.specs.Objects.{object_in}
use Rattle.ctl_objects.specs.declared.existing.Existing.{Existing}
use Rattle.ctl_objects.specs.declared.existing.Origin.{Origin}
use Rattle.ctl_objects.specs.declared.existing.Origin.TheVariants as OriginOf
use Rattle.ctl_storage.specs.declared.existing.Allocation.{Allocation}
use Rattle.ctl_storage.specs.Allocated.{place_of}
use Rattle.ctl_storage.specs.Stages.{state_of}

abbrev pub origin_of : Origin → W.Origin
origin_of (OriginOf.Declared m) = W.Declared m
origin_of (OriginOf.Allocated c p) = W.Allocated c (place_of p)

-- an object without its cells
abbrev pub bare : Object → Object
bare o = record o { cells = [] }

abbrev pub known : ℕ → Existing → Object
known n e = record { number = n; ty = e.ty; cells = []; state = state_of e.stage.life; origin = origin_of e.origin; joined = e.stage.has_joined }

-- what is known of the object of a number, where there is one
abbrev pub IsKnown : ℕ → Option Existing → List Object → Type 0
IsKnown n e os = let found : Option Object = option_map (known n) e in found ≡ option_map bare (object_in n os)

-- what is known of an allocated object
abbrev pub existing : Allocation → Existing
existing a = record { ty = a.ty; stage = a.stage; origin = OriginOf.Allocated a.collection a.place }
