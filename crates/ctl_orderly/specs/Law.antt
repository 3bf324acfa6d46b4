-- What holds of the trace of every run.
use Rattle.std.specs.Prelude.{◌≡◌, ℕ, ◌<◌, List, [], ◌∷◌, ◌++◌, Some, Bool, false, slice_get}
use Rattle.ctl_program.specs.declared.program.Checked.{Checked}
use Rattle.ctl_program.specs.declared.types.Ty.{Ty}
use Rattle.ctl_program.specs.declared.types.Ty.TheVariants.{Record}
use Rattle.ctl_program.specs.declared.types.Component.{Component}
use Rattle.ctl_program.specs.declared.types.RecordType.{RecordType}
use Rattle.ctl_tree.specs.declared.event.Event.{Event}
use Rattle.ctl_meaning.specs.Choice.{Ask}
use Rattle.ctl_meaning.specs.Run.{run}
use Rattle.ctl_meaning.specs.Advance.{log_of}
use Rattle.ctl_meaning.specs.Audit.{IsOrderly}
use Rattle.ctl_well_typed.specs.Programs.{WellTyped}

-- a type that is no record type of this number or a later one
abbrev pub Before : ℕ → Ty → Type 0
Before n (Record t) = t < n
Before n _ = Unit {0}

abbrev pub AllBefore : ℕ → List Component → Type 0
AllBefore n [] = Unit {0}
AllBefore n (c ∷ cs) = Before n c.ty × AllBefore n cs

-- the types of a record type's components and its parent stand before it in the table (3.8, 3.9.1: each is declared before it)
pub record InOrder (records : List RecordType) : Type 0 where
  pub components : (n : ℕ) (r : RecordType) → slice_get records n ≡ Some r → AllBefore n r.own
  pub parents : (n p : ℕ) (r : RecordType) → slice_get records n ≡ Some r → r.parent ≡ Some p → p < n

-- whoever answers the choices and whatever the clock: what a run shows has no closing of a part that does not live, and none of a part of
-- a master behind one of an older object of that master
pub record TracesAreOrderly (program : Checked) : Type 0 where
  pub in_run : InOrder program.records → (ask : Ask) (clock : ℕ) → IsOrderly (log_of (run program ask clock)).trace false

-- as those of each well-typed program do
pub record TypesStandInOrder (program : Checked) : Type 0 where
  pub in_order : WellTyped program → InOrder program.records

-- what an orderly trace begins with is orderly, as far as it goes
pub record FrontsAreOrderly : Type 0 where
  pub front : (shown rest : List Event) (ended : Bool) → IsOrderly (shown ++ rest) ended → IsOrderly shown false
