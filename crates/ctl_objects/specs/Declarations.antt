-- Declared objects, which come and go in the order of their masters. Their cells lie one object behind another.
use Rattle.std.specs.Prelude.{◌≡◌, ◌≢◌, ◌⊎◌, Bool, false, ◌||◌, nat_eq, ℕ, ◌+◌, ◌<◌, ◌≤◌, List, [], ◌∷◌, drop, take, nat_lt, slice_set, if◌then◌else◌}
use Rattle.ctl_program.specs.declared.types.Ty.TheVariants.{Record}
use Rattle.ctl_meaning.specs.World as W
use Rattle.ctl_objects.specs.declared.declarations.Declaration.{Declaration}
use Rattle.ctl_storage.specs.declared.existing.Step.{Step}
use Rattle.ctl_storage.specs.Stages.{after, state_of}

-- an object, whose cells stand among those of all declared ones
abbrev pub object_of : List ℕ → Declaration → W.Object
object_of cells o = record { number = o.number; ty = Record o.record; cells = take o.cells (drop o.first cells); state = state_of o.stage.life; origin = W.Declared o.master; joined = o.stage.has_joined }

-- the cells of these objects lie one behind another, from the first number on, up to the second
abbrev pub AreLaid : ℕ → List Declaration → ℕ → Type 0
AreLaid start [] total = start ≡ total
AreLaid start (o ∷ os) total = (o.first ≡ start) × AreLaid (start + o.cells) os total

-- the numbers of these objects rise, from this one on
abbrev pub NumbersRise : ℕ → List Declaration → Type 0
NumbersRise low [] = Unit {0}
NumbersRise low (o ∷ os) = (low ≤ o.number) × NumbersRise (o.number + 1) os

-- the masters of these objects do not fall
abbrev pub MastersRise : ℕ → List Declaration → Type 0
MastersRise low [] = Unit {0}
MastersRise low (o ∷ os) = (low ≤ o.master) × MastersRise o.master os

-- how the declared objects are kept, with so many cells
pub record AreKept (os : List Declaration) (total : ℕ) : Type 0 where
  pub laid : AreLaid 0 os total
  pub numbers : NumbersRise 0 os
  pub masters : MastersRise 0 os

-- none of these objects has this number
abbrev pub Lacks : ℕ → List Declaration → Type 0
Lacks n [] = Unit {0}
Lacks n (o ∷ os) = (o.number ≢ n) × Lacks n os

-- one of these objects has this number
abbrev pub has_number : ℕ → List Declaration → Bool
has_number n [] = false
has_number n (o ∷ os) = nat_eq o.number n || has_number n os

-- the cells of one object end before those of the other begin
abbrev pub LieApart : Declaration → Declaration → Type 0
LieApart a b = (a.first + a.cells ≤ b.first) ⊎ (b.first + b.cells ≤ a.first)

-- a cell of an object is written; one that the object does not have is not written
abbrev pub cell_written : Declaration → ℕ → ℕ → List ℕ → List ℕ
cell_written o offset x cells = if nat_lt offset o.cells then slice_set cells (o.first + offset) x else cells

-- these values are written into an object's cells, from one on
abbrev pub cells_written : Declaration → ℕ → List ℕ → List ℕ → List ℕ
cells_written o offset [] cells = cells
cells_written o offset (x ∷ v) cells = cells_written o (offset + 1) v (cell_written o offset x cells)

-- an object after a step
abbrev pub stepped : Step → Declaration → Declaration
stepped x o = record o { stage = after x o.stage }

-- each of these objects is declared in this master, or in a smaller one
abbrev pub AreOf : ℕ → List Declaration → Type 0
AreOf m [] = Unit {0}
AreOf m (o ∷ os) = (o.master ≡ m) × AreOf m os

abbrev pub AreOlder : ℕ → List Declaration → Type 0
AreOlder m [] = Unit {0}
AreOlder m (o ∷ os) = (o.master < m) × AreOlder m os

-- none of these objects is declared in a greater master
abbrev pub AreWithin : ℕ → List Declaration → Type 0
AreWithin m [] = Unit {0}
AreWithin m (o ∷ os) = (o.master ≤ m) × AreWithin m os

-- where the cells of the first of these objects begin; where there is none, all cells end here
abbrev pub first_cell : List Declaration → ℕ → ℕ
first_cell [] total = total
first_cell (o ∷ os) total = o.first
