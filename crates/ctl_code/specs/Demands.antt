-- What instructions and record types ask of the numbers of slots of the masters around declarations.
use Rattle.std.specs.Prelude.{◌≡◌, ℕ, ◌-◌, List, Some, Bool, true, false, slice_get}
use Rattle.ctl_program.specs.declared.types.Ty.TheVariants as TyOf
use Rattle.ctl_code.specs.declared.code.Code.{Code}
use Rattle.ctl_code.specs.declared.code.Instr.{Instr}
use Rattle.ctl_code.specs.declared.code.Instr.TheVariants.{Call, CopyBack, Evaluate, EvaluateRecord, Declare, DeclareCopy, DeclarePool, New, NewCopy, TakeBlock, Free, FreePart, Fetch, Store, FetchPart, Locate, Designate, Assign}
use Rattle.ctl_code.specs.declared.code.Layout.{Layout}
use Rattle.ctl_code.specs.declared.homes.Declaration.TheVariants.{Subprogram, Record}
use Rattle.ctl_code.specs.declared.kinds.Kind.{Kind}
use Rattle.ctl_code.specs.declared.least.Demand.{Demand}
use Rattle.ctl_code.specs.declared.least.Demand.TheVariants as DemandOf
use Rattle.ctl_code.specs.Kinds.{stack_at}
use Rattle.ctl_code.specs.Valid.{AreInitialsWithin, AreOperationsWithin, HasCollection, HasVariable, IsFine}
use Rattle.ctl_code.specs.Windows.{Counts, HasHome, HasHomeOf, HasSlot}

-- what code says with these numbers
abbrev pub with_counts : Counts → Code → Code
with_counts counts code = record code { homes = counts }

-- what an instruction asks of these numbers
abbrev pub demand_of : Instr → Demand
demand_of (Call f count copies) = DemandOf.Home (Subprogram f)
demand_of (Evaluate f count ty at) = DemandOf.Home (Subprogram f)
demand_of (EvaluateRecord f count t at) = DemandOf.Home (Subprogram f)
demand_of (Declare slot t) = DemandOf.Home (Record t)
demand_of (DeclareCopy slot t) = DemandOf.Home (Record t)
demand_of (DeclarePool slot t order at) = DemandOf.Home (Record t)
demand_of (Assign t) = DemandOf.Home (Record t)
demand_of (New access of ty at) = DemandOf.Allocated access of
demand_of (NewCopy access t ty at) = DemandOf.Allocated access (TyOf.Record t)
demand_of (Free access out slot) = DemandOf.Freed access out slot
demand_of (FreePart access t position) = DemandOf.Collection access
demand_of (CopyBack depth at out slot) = DemandOf.Slot out slot
demand_of (TakeBlock t out slot) = DemandOf.Slot out slot
demand_of (Fetch v ty to) = DemandOf.Variable v
demand_of (Store from ty out slot) = DemandOf.Slot out slot
demand_of (FetchPart v t position ty to) = DemandOf.Variable v
demand_of (Locate v t at) = DemandOf.Variable v
demand_of (Designate v ty to) = DemandOf.Variable v
demand_of _ = DemandOf.Nothing

-- and whether they are as it asks, where this stands in the window
abbrev pub IsMet : Code → List Kind → Demand → Type 0
IsMet code stack DemandOf.Nothing = Unit {0}
IsMet code stack (DemandOf.Slot out slot) = HasSlot code.homes stack out slot
IsMet code stack (DemandOf.Variable v) = HasVariable code.homes stack v
IsMet code stack (DemandOf.Home of) = HasHome code.homes stack of
IsMet code stack (DemandOf.Collection access) = HasCollection code stack access
IsMet code stack (DemandOf.Allocated access of) = HasCollection code stack access × HasHomeOf code.homes stack of
IsMet code stack (DemandOf.Freed access out slot) = HasCollection code stack access × HasSlot code.homes stack out slot

-- the instruction at a place of code is as it should be where it stands
abbrev pub IsFineAt : Code → ℕ → Type 0
IsFineAt code place = (i : Instr) → slice_get code.instructions.items place ≡ Some i → IsFine code place i (stack_at code.kinds place)

abbrev pub AreFine : Code → Type 0
AreFine code = (place : ℕ) → IsFineAt code place

-- the place of one among so many, by its number from the first one on, or from the last one
abbrev pub place_of : Bool → ℕ → ℕ → ℕ
place_of true count number = count - 1 - number
place_of false count number = number

-- the masters around its operations, the types of its components and those from which it has defaults stand around each record type
abbrev pub IsAround : Code → ℕ → Layout → Type 0
IsAround code t x = AreOperationsWithin code t × AreInitialsWithin code t x.begun.items

abbrev pub AreAround : Code → Type 0
AreAround code = (t : ℕ) (x : Layout) → slice_get code.layouts.items t ≡ Some x → IsAround code t x
