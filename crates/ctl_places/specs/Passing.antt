-- The actuals of a call become the first slots of a body: which of them are parts of objects or values of records, and what becomes of their cells.
use Rattle.std.specs.Prelude.{ℕ, zero, suc, ◌≡◌, ◌<◌, ◌+◌, ◌-◌, List, [], ◌∷◌, ◌++◌, Option, Some, None, Bool, true, false, slice_get, slice_set}
use Rattle.ctl_program.specs.declared.types.Ty.TheVariants.{Record}
use Rattle.ctl_meaning.specs.Finalization.{Spot}
use Rattle.ctl_code.specs.declared.kinds.Kind.{Kind}
use Rattle.ctl_code.specs.declared.kinds.Kind.TheVariants.{Operand}
use Rattle.ctl_code.specs.States.{Word, Scalar, Located, Cells, worth}
use Rattle.ctl_code.specs.Fits.{IsOperandOf}
use Rattle.ctl_frames.specs.declared.frame.Formal.{Formal}
use Rattle.ctl_engine.specs.Shows.{Kept}
use Rattle.ctl_engine.specs.Moves.{cleared}
use Rattle.ctl_frames.specs.Spots.{value_spot}

-- an operand of this kind is a part of an object, or the value of a record
abbrev pub is_part : Kind → Bool
is_part (Operand (Record t)) = true
is_part _ = false

abbrev pub is_part_if : Option Kind → Bool
is_part_if None = false
is_part_if (Some kind) = is_part kind

-- so is the operand under so many newer ones
abbrev pub is_part_at : List Kind → ℕ → Bool
is_part_at stack depth = is_part_if (slice_get stack depth)

-- it stands among the parts
abbrev pub is_located : Word → Bool
is_located (Scalar n) = false
is_located (Located s) = true
is_located (Cells v) = true

-- so many of the newest operands are of these kinds
abbrev pub AreActuals : ℕ → List Kind → List Word → Type 0
AreActuals zero kinds ops = Unit {0}
AreActuals (suc n) (Operand ty ∷ kinds) (x ∷ ops) = IsOperandOf ty x × AreActuals n kinds ops
AreActuals (suc n) _ _ = ⊥

-- so many of them, the last one first, have their cells from one on
abbrev pub StandIn : ℕ → List Word → ℕ → List ℕ → Type 0
StandIn n ops base cells = (i : ℕ) (x : Word) → i < n → slice_get ops i ≡ Some x → slice_get cells (base + (n - 1 - i)) ≡ Some (worth x)

-- the cell of an actual becomes 0 where it is a part, or the value of a record
abbrev pub cell_passed : Word → ℕ → List ℕ → List ℕ
cell_passed (Scalar n) cell cells = cells
cell_passed (Located s) cell cells = slice_set cells cell 0
cell_passed (Cells v) cell cells = slice_set cells cell 0

-- so many actuals, the last one first, stand in the cells from one on
abbrev pub passed : ℕ → List Word → ℕ → List ℕ → List ℕ
passed zero ops base cells = cells
passed (suc n) [] base cells = cells
passed (suc n) (x ∷ ops) base cells = passed n ops base (cell_passed x (base + n) cells)

-- a formal of this slot
abbrev pub formal_with : ℕ → Spot → Bool → Formal
formal_with slot s is_value = record { slot = slot; spot = s; is_value = is_value }

-- a formal that stands for the part, or the copy of a record, if the actual is one
abbrev pub formal_if : Word → ℕ → List Formal
formal_if (Scalar n) slot = []
formal_if (Located s) slot = formal_with slot s false ∷ []
formal_if (Cells v) slot = formal_with slot (value_spot v) true ∷ []

-- the formals that stand for these parts, that of the last slot first
abbrev pub bound : ℕ → List Word → List Formal
bound zero ops = []
bound (suc n) [] = []
bound (suc n) (x ∷ ops) = formal_if x n ++ bound n ops

-- so many slots of a body begin, with so many of the newest operands as actuals, and these parts are left
abbrev pub with_actuals : Kept → List Word → List Spot → ℕ → ℕ → ℕ → Kept
with_actuals e ops below base slots actuals = record e { cells = cleared (base + actuals) (slots - actuals) (passed actuals ops base e.cells); formals = e.formals ++ bound actuals ops; spots = below }
