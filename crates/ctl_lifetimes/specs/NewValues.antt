-- The values that assignments give.
use Rattle.std.specs.Prelude.{◌≡◌, ◌+◌, List, [], ◌∷◌, ◌++◌, Bool, true, false, Some}
use Rattle.ctl_meaning.specs.World.{Object}
use Rattle.ctl_meaning.specs.Finalization.{Spot}
use Rattle.ctl_meaning.specs.Names.{scalar_of}
use Rattle.ctl_meaning.specs.Objects.{cells_at, object_in}
use Rattle.ctl_lifetimes.specs.declared.assign.NewValue.{NewValue}
use Rattle.ctl_lifetimes.specs.declared.assign.NewValue.TheVariants as NewValueOf

-- it is that of a record, which stands among the parts
abbrev pub is_of_record : NewValue → Bool
is_of_record NewValueOf.OfRecord = true
is_of_record (NewValueOf.OfPart first) = false

-- it was read of the newest part, if it is that of a part of an object
abbrev pub IsRead : NewValue → List Spot → List Object → Type 0
IsRead NewValueOf.OfRecord spots objects = Unit {0}
IsRead (NewValueOf.OfPart first) spots objects = (below : List Spot) (s : Spot) (o : Object) → spots ≡ below ++ s ∷ [] → object_in s.object objects ≡ Some o → first ≡ scalar_of (cells_at (s.offset + 0) 1 o)
