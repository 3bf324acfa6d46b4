-- The candidates of a group: in which order they are, and that none is left in the end.
use Rattle.std.specs.Prelude.{◌≡◌, ℕ, ◌<◌, List, [], ◌∷◌, map, Bool, ◌⊎◌}
use Rattle.ctl_meaning.specs.World.{Object, Member, World}
use Rattle.ctl_meaning.specs.Members.{Group, candidates_of}
use Rattle.ctl_meaning.specs.Outcome.{Goes, Leaves, Out, Gives, Stops, Cut}
use Rattle.ctl_meaning.specs.Types.{Tables}

-- where an outcome goes on, no candidate of the group is left
abbrev pub LeavesNone : Tables → Group → Out Bool → Type 0
LeavesNone k g (Gives (Goes failed) t c l w) = candidates_of k g w ≡ []
LeavesNone k g (Gives (Leaves y) t c l w) = Unit {0}
LeavesNone k g (Stops s t l) = Unit {0}
LeavesNone k g (Cut t c l) = Unit {0}

-- something is in a list
abbrev pub Lists : {A : Type 0} → A → List A → Type 0
Lists x [] = ⊥
Lists x (y ∷ ys) = (x ≡ y) ⊎ Lists x ys

-- each number is below the next one
abbrev pub AllAbove : ℕ → List ℕ → Type 0
AllAbove n [] = Unit {0}
AllAbove n (x ∷ xs) = (n < x) × AllAbove n xs

abbrev pub Ascend : List ℕ → Type 0
Ascend [] = Unit {0}
Ascend (x ∷ xs) = AllAbove x xs × Ascend xs

abbrev pub AllBelow : ℕ → List ℕ → Type 0
AllBelow n [] = Unit {0}
AllBelow n (x ∷ xs) = (x < n) × AllBelow n xs

abbrev pub numbers_of : List Object → List ℕ
numbers_of os = map (λ o. o.number) os

abbrev pub member_numbers : List Member → List ℕ
member_numbers ms = map (λ m. m.number) ms

-- the objects stand in the order of their numbers, which are below the next one
pub record InOrder (w : World) : Type 0 where
  pub ascend : Ascend (numbers_of w.objects)
  pub below : AllBelow w.ledger.next_object (numbers_of w.objects)

-- an outcome whose objects stand in order; one that stops or is cut has none
abbrev pub StaysInOrder : {A : Type 0} → Out A → Type 0
StaysInOrder (Gives r t c l w) = InOrder w
StaysInOrder (Stops s t l) = Unit {0}
StaysInOrder (Cut t c l) = Unit {0}
