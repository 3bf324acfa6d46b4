-- An object's one cell, saved and written.
use Rattle.std.proofs.Common.{◌≡◌, ◌∙◌, ◌+◌, ℕ, List, [], ◌∷◌, ◌++◌, Option, Some, None, ap, refl, sym}
use Rattle.std.specs.Option.{option_map}
use Rattle.ctl_meaning.specs.Finalization.{Spot}
use Rattle.ctl_meaning.specs.Names.{scalar_of}
use Rattle.ctl_meaning.specs.Objects.{cells_at, object_in}
use Rattle.ctl_meaning.specs.World.{Object}
use Rattle.ctl_objects.proofs.Runs.{copied_more, none_copied}

-- one cell of an object
pub one_cell : (start value : ℕ) (o : Object) → value ≡ scalar_of (cells_at (start + 0) 1 o) → value ∷ [] ≡ cells_at start 1 o
one_cell start value o is = ap (λ n. n ∷ []) is ∙ sym (copied_more start 0 o ∙ ap (λ (l : List ℕ). l ++ scalar_of (cells_at (start + 0) 1 o) ∷ []) (none_copied start o))

-- what is read of an object that is there
pub cell_there : (start value : ℕ) (r : Option Object) → Some value ≡ option_map (λ o. scalar_of (cells_at (start + 0) 1 o)) r → (o : Object) × (r ≡ Some o) × (value ≡ scalar_of (cells_at (start + 0) 1 o))
cell_there start value None e = absurd (cc)
cell_there start value (Some o) e = (o, refl, same value (scalar_of (cells_at (start + 0) 1 o)) e)
  where
    same : (a b : ℕ) → (let x : Option ℕ = Some a in x ≡ Some b) → a ≡ b
    same a b e = cc

-- nothing is read of one that is not there
pub cell_missing : (start : ℕ) (r : Option Object) → (let none : Option ℕ = None in none ≡ option_map (λ o. scalar_of (cells_at (start + 0) 1 o)) r) → r ≡ None
cell_missing start None e = refl
cell_missing start (Some o) e = absurd (cc)

-- a cell was read of a part
pub cell_of : (objects : List Object) (number start value : ℕ) (s : Spot) (o : Object) → number ≡ s.object → start ≡ s.offset → Some value ≡ option_map (λ o. scalar_of (cells_at (start + 0) 1 o)) (object_in number objects) → object_in s.object objects ≡ Some o
    → value ≡ scalar_of (cells_at (s.offset + 0) 1 o)
cell_of objects number start value s o at from read found =
    let there = cell_there start value (object_in number objects) read in
    let same = some_is there.0 o (sym there.1 ∙ (ap (λ n. object_in n objects) at ∙ found)) in
    there.2 ∙ (ap (λ n. scalar_of (cells_at (n + 0) 1 there.0)) from ∙ ap (λ (x : Object). scalar_of (cells_at (s.offset + 0) 1 x)) same)
  where
    some_is : (a b : Object) → (let x : Option Object = Some a in x ≡ Some b) → a ≡ b
    some_is a b e = cc
