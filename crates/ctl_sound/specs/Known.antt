-- What holds of whatever a judgement gives.
use Rattle.std.specs.Prelude.{◌≡◌, Option, Some, None, List, [], ◌∷◌}
use Rattle.ctl_typing.specs.declared.notes.Notes.{Notes}
use Rattle.ctl_typing.specs.Judgement.{Judging, Judgement}

abbrev pub IfSome : {A : Type 0} → (A → Type 0) → Option A → Type 0
IfSome Q None = Unit {0}
IfSome Q (Some a) = Q a

-- whatever it knows, in whatever state
abbrev pub Gives : {S A : Type 0} → (A → Type 0) → Judging S A → Type 0
Gives Q j = (s : _) → IfSome Q (j s).0

abbrev pub All : {A : Type 0} → (A → Type 0) → List A → Type 0
All P [] = Unit {0}
All P (x ∷ xs) = P x × All P xs

-- no fault was noted
pub record Clean (n : Notes) : Type 0 where
  pub early : n.early ≡ None
  pub fault : n.fault ≡ None

-- a fault that was noted is not taken back
abbrev pub Stays : {A : Type 0} → Judgement A → Type 0
Stays p = (n : Notes) → Clean (p n).1 → Clean n
