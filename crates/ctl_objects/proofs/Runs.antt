-- Cells of an object, one after another: they are saved, written and copied.
use Rattle.std.proofs.Common.{◌≡◌, ◌≢◌, ◌∙◌, ℕ, zero, suc, ◌+◌, List, [], ◌∷◌, ◌++◌, Option, Some, None, true, false, refl, sym, ap, arith, cond, drop, length}
use Rattle.std.specs.Prelude.{is_some, unwrap_or}
use Rattle.std.specs.Option.{option_map, option_map_or}
use Rattle.ctl_meaning.specs.World.{Object}
use Rattle.ctl_meaning.specs.Names.{scalar_of}
use Rattle.ctl_meaning.specs.Objects.{cells_at, change_in, first_cells, object_in, overwritten, with_cells, opened_objects}
use Rattle.ctl_objects.specs.Copies.{copied}
use Rattle.ctl_storage.proofs.Cells.{cells_more, change_twice, drop_twice, eq_differs, first_more, no_cells, same_number, written_nothing}
use Rattle.ctl_storage.proofs.Rising.{in_change}

-- Saving ---------------------------------------------------------------------------------------------------

-- one cell more is copied
pub copied_more : (start n : ℕ) (o : Object) → cells_at start (n + 1) o ≡ cells_at start n o ++ scalar_of (cells_at (start + n) 1 o) ∷ []
unfolding opened_objects
copied_more start n o =
    let next : n + 1 ≡ suc n = omega arith in
    ap (λ c. first_cells c (drop start o.cells)) next
    ∙ (first_more n (drop start o.cells)
    ∙ ap (λ (l : List ℕ). first_cells n (drop start o.cells) ++ scalar_of (first_cells 1 l) ∷ []) (drop_twice start n (start + n) o.cells refl))

pub none_copied : (start : ℕ) (o : Object) → cells_at start 0 o ≡ []
unfolding opened_objects
none_copied start o = refl

pub length_copied : (start n : ℕ) (o : Object) → length (cells_at start n o) ≡ n
unfolding opened_objects
length_copied start n o = by n (drop start o.cells)
  where
    by : (m : ℕ) (xs : List ℕ) → length (first_cells m xs) ≡ m
    by zero xs = refl
    by (suc m) [] = ap (λ c. suc c) (by m [])
    by (suc m) (x ∷ xs) = ap (λ c. suc c) (by m xs)

-- one cell more of an object that exists
pub saved_more : (start n : ℕ) (r : Option Object) → is_some r ≡ true
    → option_map_or (cells_at start (n + 1)) r [] ≡ option_map_or (cells_at start n) r [] ++ unwrap_or (option_map (λ o. scalar_of (cells_at (start + n) 1 o)) r) 0 ∷ []
saved_more start n None e = absurd (cc)
saved_more start n (Some o) e = copied_more start n o

pub none_saved : (start : ℕ) (r : Option Object) → option_map_or (cells_at start 0) r [] ≡ []
none_saved start None = refl
none_saved start (Some o) = none_copied start o

pub gone_saved : (start n : ℕ) (r : Option Object) → is_some r ≡ false → option_map_or (cells_at start n) r [] ≡ []
gone_saved start n None e = refl
gone_saved start n (Some o) e = absurd (cc)

-- Copying --------------------------------------------------------------------------------------------------

-- a value behind those that are written
cells_behind : (offset at x : ℕ) (v cells : List ℕ) → length v ≡ at → overwritten (offset + at) (x ∷ []) (overwritten offset v cells) ≡ overwritten offset (v ++ x ∷ []) cells
cells_behind offset at x [] cells long =
    let none : offset + at ≡ offset = omega (arith, long) in
    ap (λ n. overwritten n (x ∷ []) (overwritten offset [] cells)) none ∙ ap (overwritten offset (x ∷ [])) (no_cells offset cells)
cells_behind offset zero x (y ∷ v) cells long = absurd (omega (arith, long))
cells_behind offset (suc at) x (y ∷ v) cells long =
    let further : offset + suc at ≡ suc offset + at = omega arith in
    ap (λ n. overwritten n (x ∷ []) (overwritten offset (y ∷ v) cells)) further
    ∙ (ap (overwritten (suc offset + at) (x ∷ [])) (sym (cells_more offset y v cells))
    ∙ (cells_behind (suc offset) at x v (overwritten offset (y ∷ []) cells) (omega (arith, long))
    ∙ cells_more offset y (v ++ x ∷ []) cells))

object_behind : (offset at x : ℕ) (v : List ℕ) (o : Object) → length v ≡ at → with_cells (offset + at) (x ∷ []) (with_cells offset v o) ≡ with_cells offset (v ++ x ∷ []) o
unfolding opened_objects
object_behind offset at x v o long = ap (λ (l : List ℕ). record o { cells = l }) (cells_behind offset at x v o.cells long)

pub copied_further : (to start target at value : ℕ) (o : Object) (os : List Object) → value ≡ scalar_of (cells_at (start + at) 1 o)
    → change_in to (with_cells (target + at) (value ∷ [])) (change_in to (with_cells target (cells_at start at o)) os) ≡ change_in to (with_cells target (cells_at start (at + 1) o)) os
copied_further to start target at value o os is =
    let v = cells_at start at o in
    change_twice to (with_cells (target + at) (value ∷ [])) (with_cells target v) (with_cells target (v ++ value ∷ [])) (same_number target v) (λ x. object_behind target at value v x (length_copied start at o)) os
    ∙ ap (λ (l : List ℕ). change_in to (with_cells target l) os) (ap (λ n. v ++ n ∷ []) is ∙ sym (copied_more start at o))

pub none_written : (start to target : ℕ) (r : Option Object) (os : List Object) → os ≡ copied start to target 0 r os
none_written start to target None os = refl
none_written start to target (Some o) os = sym (ap (λ (l : List ℕ). change_in to (with_cells target l) os) (none_copied start o) ∙ written_nothing to target os)

-- the first object stays as the other is written
pub first_as_before : (from start to target at : ℕ) (os : List Object) → from ≢ to → object_in from (copied start to target at (object_in from os) os) ≡ object_in from os
first_as_before from start to target at os apart = by (object_in from os)
  where
    by : (r : Option Object) → object_in from (copied start to target at r os) ≡ object_in from os
    by None = refl
    by (Some o) = in_change to (with_cells target (cells_at start at o)) (same_number target (cells_at start at o)) from os ∙ ap (λ b. cond b (option_map (with_cells target (cells_at start at o)) (object_in from os)) (object_in from os)) (eq_differs from to apart)

pub copied_more_of : (start to target at value : ℕ) (r : Option Object) (os : List Object) → (let read : Option ℕ = Some value in read ≡ option_map (λ o. scalar_of (cells_at (start + at) 1 o)) r)
    → change_in to (with_cells (target + at) (value ∷ [])) (copied start to target at r os) ≡ copied start to target (at + 1) r os
copied_more_of start to target at value None os is = absurd (cc)
copied_more_of start to target at value (Some o) os is = copied_further to start target at value o os (same value (scalar_of (cells_at (start + at) 1 o)) is)
  where
    same : (a b : ℕ) → (let x : Option ℕ = Some a in x ≡ Some b) → a ≡ b
    same a b e = cc

pub gone_copied : (start at to target m n : ℕ) (r : Option Object) (os : List Object) → (let none : Option ℕ = None in none ≡ option_map (λ o. scalar_of (cells_at (start + at) 1 o)) r) → copied start to target m r os ≡ copied start to target n r os
gone_copied start at to target m n None os e = refl
gone_copied start at to target m n (Some o) os e = absurd (cc)
