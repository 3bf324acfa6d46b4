-- What a name denotes, and how its value is read and written.
use Rattle.std.specs.Prelude.{ℕ, zero, suc, ◌+◌, List, [], ◌∷◌, ◌++◌, drop, Option, Some, None, Bool, false, ◌&&◌, nat_eq, slice_get}
use Rattle.ctl_program.specs.declared.types.Ty.{Ty}
use Rattle.ctl_program.specs.declared.types.Var.{Var}
use Rattle.ctl_program.specs.declared.expression.Step.{Step}
use Rattle.ctl_program.specs.declared.expression.Step.TheVariants.{Component, Dereference, Narrow}
use Rattle.ctl_tree.specs.declared.ending.Stop.TheVariants.{UseAfterFree}
use Rattle.ctl_meaning.specs.World.{Object, Content, Holds, Binds, Copies, Slot, World}
use Rattle.ctl_meaning.specs.Lists.{item_or, same_list}
use Rattle.ctl_meaning.specs.Activations.{master_of}
use Rattle.ctl_meaning.specs.Objects.{first_cells, cells_at}
use Rattle.ctl_meaning.specs.Changes.{object_at, write_cells, slot_at, set_value}
use Rattle.ctl_meaning.specs.Choice.{Ask}
use Rattle.ctl_meaning.specs.Outcome.{constraint_error, Act, Done, ◌>>=◌, ◌>>◌, done, nothing, raise, stop, ticked, look, change, either, on_some}
use Rattle.ctl_meaning.specs.Types.{Tables, Category, Elementary, Composite, placed, offset_in, record_of, descends}

-- what is run where a display is seen: a user's body with the slots of its formals, which takes one from the clock, or an allocator with
-- its handle and its value, which has taken one
pub data Execution : Type 0 where
  OfSubprogram : (number : ℕ) (actuals : List Slot) → Execution
  OfAllocator : (access : ℕ) (ty : Ty) (handle value : Option (List ℕ)) → Execution

-- the value that an execution gives, and what its slots held when it was left
pub record Returned : Type 0 where
  pub cells : List ℕ
  pub slots : List Slot

abbrev pub Call : Type 0
Call = Execution → List ℕ → Act Returned

-- the value of the default expression of a component: by its record type and its position, where a display is seen
abbrev pub Default : Type 0
Default = ℕ → ℕ → List ℕ → Act (List ℕ)

-- what everything is done with: the answers to choices, the tables, the executions, and the default expressions
pub record Tools : Type 0 where
  pub ask : Ask
  pub tables : Tables
  pub call : Call
  pub default : Default

-- each execution is among these masters, whichever it is called among
abbrev pub among : List ℕ → Tools → Tools
among env k = record k { call = λ x home. k.call x env }

-- Objects that must exist ------------------------------------------------------

-- use of what has ceased to exist (13.11.2)
unfoldable pub gone : {A : Type 0} → Act A
gone = stop UseAfterFree

unfoldable pub existing : {A : Type 0} → ℕ → (Object → Act A) → Act A
existing n f = look (λ w. on_some (object_at n w) gone f)

unfoldable pub must_exist : ℕ → Act Done
must_exist n = existing n (λ o. nothing)

unfoldable pub read_part : ℕ → ℕ → ℕ → Act (List ℕ)
read_part n offset count = existing n (λ o. done (cells_at offset count o))

unfoldable pub write_part : ℕ → ℕ → List ℕ → Act Done
write_part n offset v = existing n (λ o. change (write_cells n offset v))

-- What a name denotes ------------------------------------------------------------

-- a part of an object, an elementary variable, or a value alone: that of a call, or a copy that a formal holds
pub data Found : Type 0 where
  InObject : (object offset : ℕ) (path : List ℕ) → Found
  InVariable : (master slot : ℕ) → Found
  Alone : (cells : List ℕ) → Found

-- the first cell of a value
unfoldable pub scalar_of : List ℕ → ℕ
scalar_of v = item_or 0 (slice_get v 0)

-- n cells; one that is not there counts as 0
unfoldable pub read_found : ℕ → Found → Act (List ℕ)
read_found n (InObject o offset path) = read_part o offset n
read_found n (InVariable m i) = look (λ w. done (first_cells n ((slot_at m i w).value ∷ [])))
read_found n (Alone v) = done (first_cells n v)

-- what is assigned to, copied back to and freed is a variable, which a value is not (3.3)
unfoldable pub on_variable : {A : Type 0} → Found → Act A → Act A
on_variable (Alone v) m = gone
on_variable f m = m

unfoldable pub write_found : Found → List ℕ → Act Done
write_found (InObject o offset path) v = write_part o offset v
write_found (InVariable m i) v = change (set_value m i (scalar_of v))
write_found (Alone x) v = gone

-- no name finds a declaration that was not elaborated
unfoldable pub found_in : ℕ → ℕ → Content → Act Found
found_in m i (Holds o) = done (InObject o 0 [])
found_in m i (Binds o offset path) = done (InObject o offset path)
found_in m i (Copies v) = done (Alone v)
found_in m i _ = gone

-- a use of a variable of some category, where a display is seen: a composite one is what its slot holds
unfoldable pub find_var : Category → List ℕ → Var → Act Found
find_var Elementary env v = done (InVariable (master_of env v) v.slot)
find_var Composite env v = look (λ w. found_in (master_of env v) v.slot (slot_at (master_of env v) v.slot w).content)

unfoldable pub object_of : Found → ℕ
object_of (InObject o offset path) = o
object_of _ = 0

-- whether both are one part of one object
unfoldable pub same_found : Found → Found → Bool
same_found (InObject o offset path) (InObject p other way) = nat_eq o p && same_list path way
same_found _ _ = false

-- Selectors and dereferences ------------------------------------------------------

unfoldable pub moved : ℕ → ℕ → Found → Found
moved offset position (InObject o at path) = InObject o (at + offset) (path ++ position ∷ [])
moved offset position (InVariable m i) = InVariable m i
moved offset position (Alone v) = Alone (drop offset v)

-- an access value's object: Constraint_Error where it is null (4.1), a stop where the object is gone
unfoldable pub dereferenced : ℕ → Act Found
dereferenced zero = raise constraint_error
dereferenced (suc n) = must_exist (suc n) >> done (InObject (suc n) 0 [])

-- the view as a descendant: Constraint_Error where the object's own type is neither this one nor a descendant (4.6)
unfoldable pub narrowed : Tools → ℕ → Found → Act Found
narrowed k t f = existing (object_of f) (λ o. either (descends k.tables t (record_of o.ty)) (done f) (raise constraint_error))

unfoldable pub one_step : Tools → Step → Found → Act Found
one_step k (Component t position) f = done (moved (offset_in position (placed k.tables t)) position f)
one_step k (Narrow t) f = narrowed k t f
one_step k Dereference f = read_found 1 f >>= (λ v. dereferenced (scalar_of v))

-- each part of a name is a tick
unfoldable pub walk : Tools → List Step → Found → Act Found
walk k [] f = done f
walk k (s ∷ ss) f = ticked (one_step k s f) >>= walk k ss

-- the category of the variable that a name begins with, where what the whole name denotes is of this category
unfoldable pub begins_as : List Step → Category → Category
begins_as [] c = c
begins_as (Dereference ∷ more) c = Elementary
begins_as (step ∷ more) c = Composite

-- a cell, or Constraint_Error
unfoldable pub or_constraint_error : Option ℕ → Act (List ℕ)
or_constraint_error None = raise constraint_error
or_constraint_error (Some n) = done (n ∷ [])

-- everything here, opened at once
unfoldable pub opened_names : Unit {0}
unfolding gone existing must_exist read_part write_part on_variable scalar_of read_found write_found found_in find_var object_of same_found moved dereferenced narrowed one_step walk begins_as or_constraint_error
opened_names = tt
