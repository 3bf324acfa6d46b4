-- Which masters a body has entered: none where a default is evaluated, so that more masters may be seen there than its type asks for (3.8).
use Rattle.std.proofs.Common.{◌≡◌, ℕ, ◌≤◌, List, [], ◌∷◌, length, Some}
use Rattle.ctl_code.specs.declared.kinds.Kind.{Kind}
use Rattle.ctl_code.specs.declared.kinds.Kind.TheVariants.{Operand, RecordValue, Block, Body, Default}
use Rattle.ctl_code.specs.Windows.{depth, variable_at}

-- the newest master there was entered by the body: no default is evaluated
abbrev pub IsEntered : List Kind → Type 0
IsEntered [] = ⊥
IsEntered (Operand ty ∷ s) = IsEntered s
IsEntered (RecordValue ∷ s) = IsEntered s
IsEntered (Block slots ∷ s) = Unit {0}
IsEntered (Body level slots number ∷ s) = Unit {0}
IsEntered (Default level number ∷ s) = ⊥

-- so it was where a variable has a cell
pub entered_there : (s : List Kind) (out slot at : ℕ) → variable_at s out slot ≡ Some at → IsEntered s
entered_there [] out slot at e = absurd (cc e)
entered_there (Operand ty ∷ s) out slot at e = entered_there s out slot at e
entered_there (RecordValue ∷ s) out slot at e = entered_there s out slot at e
entered_there (Block slots ∷ s) out slot at e = tt
entered_there (Body level slots number ∷ s) out slot at e = tt
entered_there (Default level number ∷ s) out slot at e = absurd (cc e)

-- as many masters are seen as stand around there, and where a default is evaluated there may be more
abbrev pub IsAsLong : List ℕ → List Kind → Type 0
IsAsLong d s = (depth s ≤ length d) × (IsEntered s → length d ≡ depth s)
