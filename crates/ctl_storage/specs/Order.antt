-- Objects in the order of their numbers.
use Rattle.std.specs.Prelude.{ℕ, ◌+◌, ◌<◌, ◌≤◌, List, [], ◌∷◌}
use Rattle.std.specs.List.{AllByRecursion}
use Rattle.ctl_meaning.specs.World.{Object}

-- the numbers of these objects rise, from this one on
abbrev pub Rise : ℕ → List Object → Type 0
Rise low [] = Unit {0}
Rise low (o ∷ os) = (low ≤ o.number) × Rise (o.number + 1) os

-- each of these objects has a lower number
abbrev pub AreBelow : ℕ → List Object → Type 0
AreBelow n os = AllByRecursion (λ o. o.number < n) os
