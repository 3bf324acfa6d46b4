-- Objects in the order of their numbers.
use Rattle.std.specs.Prelude.{◌≡◌, ℕ, ◌≤◌, List, [], ◌∷◌, None, Some, nat_lt, IfSome, if◌then◌else◌}
use Rattle.std.specs.List.{AllByRecursion}
use Rattle.ctl_meaning.specs.World.{Origin, Declared, Allocated, Object}
use Rattle.ctl_meaning.specs.Objects.{object_in}
use Rattle.ctl_storage.specs.Order.{Rise}

-- an origin that is not declared in a greater master
abbrev pub IsUpTo : ℕ → Origin → Type 0
IsUpTo m (Declared n) = n ≤ m
IsUpTo m (Allocated s p) = Unit {0}

-- none of these objects is declared in a greater master
abbrev pub AreUpTo : ℕ → List Object → Type 0
AreUpTo m os = AllByRecursion (λ o. IsUpTo m o.origin) os

-- an origin that is declared, and one that is allocated
abbrev pub IsDeclared : Origin → Type 0
IsDeclared (Declared n) = Unit {0}
IsDeclared (Allocated s p) = ⊥

abbrev pub IsAllocated : Origin → Type 0
IsAllocated (Declared n) = ⊥
IsAllocated (Allocated s p) = Unit {0}

-- an object among others: before the first one of a greater number
unfoldable pub placed : Object → List Object → List Object
placed o [] = o ∷ []
placed o (x ∷ xs) = if nat_lt o.number x.number then o ∷ x ∷ xs else x ∷ placed o xs

-- the objects of two lists, in the order of their numbers
unfoldable pub both : List Object → List Object → List Object
both [] ys = ys
both (x ∷ xs) ys = placed x (both xs ys)

-- no number is that of an object in both lists
abbrev pub AreApart : List Object → List Object → Type 0
AreApart xs ys = (n : ℕ) (o : Object) → object_in n xs ≡ Some o → object_in n ys ≡ None

-- each of these objects is allocated, or declared
abbrev pub AreAllocated : List Object → Type 0
AreAllocated os = (n : ℕ) → IfSome (object_in n os) (λ o. IsAllocated o.origin)

abbrev pub AreDeclared : List Object → Type 0
AreDeclared os = (n : ℕ) → IfSome (object_in n os) (λ o. IsDeclared o.origin)

-- allocated objects and declared ones, with different numbers, and each in the order of its numbers
pub record AreSplit (xs ys : List Object) : Type 0 where
  pub first : Rise 0 xs
  pub second : Rise 0 ys
  pub apart : AreApart xs ys
  pub allocated : AreAllocated xs
  pub declared : AreDeclared ys
